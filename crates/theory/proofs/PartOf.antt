-- Which part a position is in.
use mathlib.Core.Path.{◌≡◌, sym, ap, ◌∙◌}
use mathlib.Core.Logic.{inl, inr}
use mathlib.Core.Bool.{true, cond}
use mathlib.Core.List.{List, [], ◌∷◌, ◌++◌, map, flatten}
use Prim.Native.Nat.{ℕ, zero, suc, ◌+◌, ◌-◌, ◌≤◌, ◌<◌}
use native.Mathlib.Nat.{zero-add, add_assoc}
use native.Mathlib.Omega.{arith}
use lib.Dec.{ltb}
use lib.ListN.{length, take, get_or, length-append, get_or-append}
use lib.Seq.{get_or-append-add}
use borrow.Author.Tests.{lt-ltb, le-ltb}
use Rattle.plan.specs.Lists.{is_in, total}
use Rattle.plan.specs.Parts.{part_of}
use Rattle.theory.proofs.Bools.{cond_true, cond_false, lt_or_le}
use Rattle.theory.proofs.Lists.{is_in-get_or}

pub part-first : (s : ℕ) (ss : List ℕ) (i : ℕ) → i < s → part_of (s ∷ ss) i ≡ 0
unfolding part_of
part-first s ss i h = cond_true (ltb i s) 0 (suc (part_of ss (i - s))) (lt-ltb i s h)

pub part-next : (s : ℕ) (ss : List ℕ) (i : ℕ) → s ≤ i → part_of (s ∷ ss) i ≡ suc (part_of ss (i - s))
unfolding part_of
part-next s ss i h = cond_false (ltb i s) 0 (suc (part_of ss (i - s))) (le-ltb i s h)

pub part_add : (s : ℕ) (ss : List ℕ) (t : ℕ) → part_of (s ∷ ss) (s + t) ≡ suc (part_of ss t)
part_add s ss t = let e : s + t - s ≡ t = omega arith in part-next s ss (s + t) (omega arith) ∙ rw e

pub part_mono : (ss : List ℕ) (a b : ℕ) → a ≤ b → part_of ss a ≤ part_of ss b
unfolding part_of
part_mono [] a b h = omega arith
part_mono (s ∷ ss) a b h = elim (lt_or_le a s) [
  | inl l ↦ rw (part-first s ss a l) (omega arith)
  | inr l ↦ rw (part-next s ss a l, part-next s ss b (omega arith)) (omega (arith, part_mono ss (a - s) (b - s) (omega arith)))
]

-- the positions behind those of the parts before q, as many as q's size, are its own
pub part_here : (ss : List ℕ) (q i : ℕ) → q < length ss → total (take q ss) ≤ i → i < total (take q ss) + get_or ss q 0 → part_of ss i ≡ q
part_here [] q i h low high = absurd (omega arith)
part_here (s ∷ ss) zero i h low high = part-first s ss i (omega arith)
part_here (s ∷ ss) (suc q) i h low high = part-next s ss i (omega arith) ∙ ap suc (part_here ss q (i - s) (omega arith) (omega arith) (omega arith))

-- the end of a position's part: the first position after it
abbrev pub end_of : List ℕ → ℕ → ℕ
end_of [] i = 0
end_of (s ∷ ss) i = cond (ltb i s) s (s + end_of ss (i - s))

pub end-first : (s : ℕ) (ss : List ℕ) (i : ℕ) → i < s → end_of (s ∷ ss) i ≡ s
end-first s ss i h = cond_true (ltb i s) s (s + end_of ss (i - s)) (lt-ltb i s h)

end-next : (s : ℕ) (ss : List ℕ) (i : ℕ) → s ≤ i → end_of (s ∷ ss) i ≡ s + end_of ss (i - s)
end-next s ss i h = cond_false (ltb i s) s (s + end_of ss (i - s)) (le-ltb i s h)

pub end_add : (s : ℕ) (ss : List ℕ) (t : ℕ) → end_of (s ∷ ss) (s + t) ≡ s + end_of ss t
end_add s ss t = let e : s + t - s ≡ t = omega arith in end-next s ss (s + t) (omega arith) ∙ rw e

pub same-part-end : (ss : List ℕ) (i j : ℕ) → i < total ss → part_of ss i ≡ part_of ss j → i < end_of ss j
same-part-end [] i j h e = omega arith
same-part-end (s ∷ ss) i j h e = elim (lt_or_le i s) [
  | inl l ↦ elim (lt_or_le j s) [
    | inl m ↦ rw (end-first s ss j m) l
    | inr m ↦ rw (end-next s ss j m) (omega arith)
  ]
  | inr l ↦ elim (lt_or_le j s) [
    | inl m ↦ absurd (omega (arith, part-next s ss i l, part-first s ss j m))
    | inr m ↦ rw (end-next s ss j m)
        (omega (arith, same-part-end ss (i - s) (j - s) (omega arith) (omega (arith, part-next s ss i l, part-next s ss j m))))
  ]
]

-- the node at a position of lists one behind the other is in the list that the position is of
pub node_of_part : (ls : List (List ℕ)) (i : ℕ) → i < length (flatten ls) → is_in (get_or (flatten ls) i 0) (get_or ls (part_of (map length ls) i) []) ≡ true
unfolding flatten
node_of_part [] i h = absurd (omega arith)
node_of_part (l ∷ ls) i h = elim (lt_or_le i (length l)) [
  | inl lt ↦ rw (part-first (length l) (map length ls) i lt, get_or-append l (flatten ls) 0 i lt) (is_in-get_or l i 0 lt)
  | inr le ↦
      let at : length l + (i - length l) ≡ i = omega arith in
      let behind : get_or (l ++ flatten ls) i 0 ≡ get_or (flatten ls) (i - length l) 0 =
      ap (λ (x : ℕ). get_or (l ++ flatten ls) x 0) (sym at) ∙ get_or-append-add l (flatten ls) (i - length l) 0 in
      rw (part-next (length l) (map length ls) i le, behind) (node_of_part ls (i - length l) (omega (arith, length-append l (flatten ls))))
]

-- parts after parts
pub part-append-left : (xs ys : List ℕ) (i : ℕ) → i < total xs → part_of (xs ++ ys) i ≡ part_of xs i
part-append-left [] ys i h = absurd (omega arith)
part-append-left (x ∷ xs) ys i h = elim (lt_or_le i x) [
  | inl l ↦ part-first x (xs ++ ys) i l ∙ sym (part-first x xs i l)
  | inr l ↦ part-next x (xs ++ ys) i l ∙ ap suc (part-append-left xs ys (i - x) (omega arith)) ∙ sym (part-next x xs i l)
]

pub part-append_right : (xs ys : List ℕ) (t : ℕ) → part_of (xs ++ ys) (total xs + t) ≡ length xs + part_of ys t
part-append_right [] ys t = simp zero-add
part-append_right (x ∷ xs) ys t =
    rw (add_assoc x (total xs) t, part_add x (xs ++ ys) (total xs + t)) (omega (arith, part-append_right xs ys t))

pub part_lt : (ss : List ℕ) (i : ℕ) → i < total ss → part_of ss i < length ss
part_lt [] i h = absurd (omega arith)
part_lt (s ∷ ss) i h = elim (lt_or_le i s) [
  | inl l ↦ omega (arith, part-first s ss i l)
  | inr l ↦ omega (arith, part-next s ss i l, part_lt ss (i - s) (omega arith))
]
