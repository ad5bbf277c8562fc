-- Levels from a root, the last one first: they end, more turns change nothing, and together they are closed under edges of the region.
use mathlib.Core.Path.{◌≡◌, refl, sym, ap, subst, ◌∙◌}
use mathlib.Core.Logic.{◌⊎◌, inl, inr}
use mathlib.Core.Bool.{Bool, true, false, not, ◌&&◌, false≢true}
use mathlib.Core.List.{List, [], ◌∷◌, ◌++◌, head_d, flatten}
use Prim.Native.Nat.{ℕ, zero, suc, ◌+◌, ◌-◌, ◌≤◌, ◌<◌}
use native.Mathlib.Omega.{arith}
use lib.ListN.{length, get_or}
use borrow.Author.Tests.{not-true}
use Rattle.plan.specs.Lists.{exists, is_in}
use Rattle.plan.specs.Levels.{Graph, next_level, add_level, levels_back}
use Rattle.plan.specs.Enough.{LevelsEnd}
use Rattle.theory.specs.Counting.{count}
use Rattle.theory.proofs.Bools.{and_left, and_right, and_both, tested, clash, refuted}
use Rattle.theory.proofs.Lists.{is_in-head, is_in_cons, is_in-append-left, is_in-append_right, is_in-append_cases, is_in-get_or, is_in-none, is_in-exists, in_keep, of_keep}
use Rattle.theory.proofs.Counting.{count_le, count_less}

-- Levels, the last one first: the root, and behind it one next level after the other, each with a node.
pub data Levelled (edge : Graph) (region : List ℕ) (root : ℕ) : List (List ℕ) → Type 0 where
  first : Levelled edge region root ((root ∷ []) ∷ [])
  after : {l : List ℕ} {ls : List (List ℕ)} → Levelled edge region root ls → l ≡ next_level edge region ls → 0 < length l → Levelled edge region root (l ∷ ls)

module _ (edge : Graph) (region : List ℕ) where
  -- a node of the next level: it is of the region, next to the last level, and in no earlier one
  pub record Next (ls : List (List ℕ)) (v : ℕ) : Type 0 where
    pub inside : is_in v region ≡ true
    pub near : exists (λ u. edge u v) (head_d ls []) ≡ true
    pub fresh : is_in v (flatten ls) ≡ false

  pub of_next : (ls : List (List ℕ)) (v : ℕ) → is_in v (next_level edge region ls) ≡ true → Next ls v
  unfolding next_level
  of_next ls v h =
      let test : ℕ → Bool = λ v. exists (λ u. edge u v) (head_d ls []) && not (is_in v (flatten ls)) in
      let k : (is_in v region ≡ true) × (test v ≡ true) = of_keep test region v h in
      record {
        inside = k.0;
        near = and_left (exists (λ u. edge u v) (head_d ls [])) _ k.1;
        fresh = not-true (is_in v (flatten ls)) (and_right (exists (λ u. edge u v) (head_d ls [])) _ k.1);
      }

  in_next : (ls : List (List ℕ)) (v : ℕ) → Next ls v → is_in v (next_level edge region ls) ≡ true
  unfolding next_level
  in_next ls v n =
      in_keep (λ v. exists (λ u. edge u v) (head_d ls []) && not (is_in v (flatten ls))) region v n.inside
      (and_both (exists (λ u. edge u v) (head_d ls [])) _ n.near (ap not n.fresh))

  -- ---- the levels end

  -- the nodes of the region that no level has yet
  abbrev unseen : List (List ℕ) → ℕ
  unseen ls = count (λ v. not (is_in v (flatten ls))) region

  -- each level leaves fewer
  unseen_less : (ls : List (List ℕ)) (v : ℕ) → is_in v (next_level edge region ls) ≡ true → unseen (next_level edge region ls ∷ ls) < unseen ls
  unfolding flatten
  unseen_less ls v h =
      let l : List ℕ = next_level edge region ls in
      let n : Next ls v = of_next ls v h in
      count_less (λ w. not (is_in w (l ++ flatten ls))) (λ w. not (is_in w (flatten ls))) v region
      (λ w t. ap not (refuted (is_in w (flatten ls)) (λ h. clash (is_in w (l ++ flatten ls)) (is_in-append_right w l (flatten ls) h) (not-true _ t))))
      n.inside (ap not n.fresh) (ap not (is_in-append-left v l (flatten ls) h))

  module _ (root : ℕ) where
    add_levelled : (ls : List (List ℕ)) (l : List ℕ) → l ≡ next_level edge region ls → Levelled edge region root ls → Levelled edge region root (add_level l ls)
    unfolding add_level
    add_levelled ls [] e h = h
    add_levelled ls (v ∷ vs) e h = after h e (omega arith)

    pub levelled : (k : ℕ) → Levelled edge region root (levels_back k edge region root)
    unfolding levels_back
    levelled zero = first
    levelled (suc k) = let ls : List (List ℕ) = levels_back k edge region root in add_levelled ls (next_level edge region ls) refl (levelled k)

    -- the levels, and the nodes of the region in none of them, number at most the region's nodes and one
    pub levels-room : {ls : List (List ℕ)} → Levelled edge region root ls → length ls + unseen ls ≤ length region + 1
    levels-room first = omega (arith, count_le (λ v. not (is_in v (flatten ((root ∷ []) ∷ [])))) region)
    levels-room (after {l = l} {ls = ls} h e some) =
        let v : ℕ = get_or l 0 0 in
        let less : unseen (l ∷ ls) < unseen ls = subst (λ (x : List ℕ). unseen (x ∷ ls) < unseen ls) (sym e) (unseen_less ls v (subst (λ (x : List ℕ). is_in v x ≡ true) e (is_in-get_or l 0 0 some))) in
        omega (arith, less, levels-room h)

    -- either there is no next level, or every turn has added one
    grows : (k : ℕ) → (next_level edge region (levels_back k edge region root) ≡ []) ⊎ (length (levels_back k edge region root) ≡ k + 1)
    unfolding levels_back add_level
    grows zero = inr refl
    grows (suc k) =
        let ls : List (List ℕ) = levels_back k edge region root in
        go ls (next_level edge region ls) refl (grows k)
      where
        go : (ls : List (List ℕ)) (l : List ℕ) → l ≡ next_level edge region ls → (next_level edge region ls ≡ []) ⊎ (length ls ≡ k + 1)
            → (next_level edge region (add_level l ls) ≡ []) ⊎ (length (add_level l ls) ≡ suc k + 1)
        go ls [] e h = inl (sym e)
        go ls (v ∷ vs) e (inl h) = clash (is_in v (v ∷ vs)) (is_in-head v vs) (ap (is_in v) (e ∙ h))
        go ls (v ∷ vs) e (inr h) = inr (omega arith)

    -- no node is left for a level after the last: `length region` turns are enough
    levels-ended : next_level edge region (levels_back (length region) edge region root) ≡ []
    levels-ended = elim (grows (length region)) [
      | inl e ↦ e
      | inr e ↦ is_in-none (next_level edge region ls) (λ v h. omega (arith, e, unseen_less ls v h, levels-room (levelled (length region))))
    ]
      where
        ls : List (List ℕ)
        ls = levels_back (length region) edge region root

    -- more turns change nothing once there is no next level
    pub levels-stay : (k d : ℕ) → next_level edge region (levels_back k edge region root) ≡ [] → levels_back (d + k) edge region root ≡ levels_back k edge region root
    unfolding levels_back add_level
    levels-stay k zero e = let none : 0 + k ≡ k = omega arith in rw none
    levels-stay k (suc d) e =
        let ls : List (List ℕ) = levels_back k edge region root in
        let same : levels_back (d + k) edge region root ≡ ls = levels-stay k d e in
        let turn : suc d + k ≡ suc (d + k) = omega arith in
        rw (turn, same, e)

    -- so any larger number of turns gives the same levels
    pub levels-same : (k : ℕ) → length region ≤ k → levels_back k edge region root ≡ levels_back (length region) edge region root
    levels-same k h =
        let e : k ≡ k - length region + length region = omega arith in
        ap (λ (n : ℕ). levels_back n edge region root) e ∙ levels-stay (length region) (k - length region) levels-ended

    -- ---- what the levels hold

    -- the root is in them
    pub root-reached : {ls : List (List ℕ)} → Levelled edge region root ls → is_in root (flatten ls) ≡ true
    unfolding flatten
    root-reached first = is_in-head root []
    root-reached (after {l = l} {ls = ls} h e some) = is_in-append_right root l (flatten ls) (root-reached h)

    -- where the root is of the region, so is every node of them
    pub reached-inside : {ls : List (List ℕ)} → Levelled edge region root ls → is_in root region ≡ true → (v : ℕ) → is_in v (flatten ls) ≡ true → is_in v region ≡ true
    unfolding flatten
    reached-inside first r v m = elim (is_in_cons v root [] (elim (is_in-append_cases v (root ∷ []) [] m) [ inl s ↦ s | inr s ↦ absurd (false≢true s) ])) [
      | inl e ↦ ap (λ (x : ℕ). is_in x region) e ∙ r
      | inr e ↦ absurd (false≢true e)
    ]
    reached-inside (after {l = l} {ls = ls} h e some) r v m = elim (is_in-append_cases v l (flatten ls) m) [
      | inl s ↦ (of_next ls v (subst (λ (x : List ℕ). is_in v x ≡ true) e s)).inside
      | inr s ↦ reached-inside h r v s
    ]

    -- an edge out of the levels so far starts at the last one
    edges_out : {ls : List (List ℕ)} → Levelled edge region root ls → (a b : ℕ) → is_in a (flatten ls) ≡ true → is_in b region ≡ true → edge a b ≡ true
        → (is_in b (flatten ls) ≡ true) ⊎ (is_in a (head_d ls []) ≡ true)
    unfolding flatten head_d
    edges_out first a b ha hb e = inr (elim (is_in-append_cases a (root ∷ []) [] ha) [ inl s ↦ s | inr s ↦ absurd (false≢true s) ])
    edges_out (after {l = l} {ls = ls} h q some) a b ha hb e = elim (is_in-append_cases a l (flatten ls) ha) [
      | inl s ↦ inr s
      | inr s ↦ elim (edges_out h a b s hb e) [
        | inl t ↦ inl (is_in-append_right b l (flatten ls) t)
        | inr t ↦ elim (tested (is_in b (flatten ls))) [
          | inl u ↦ inl (is_in-append_right b l (flatten ls) u)
          | inr u ↦ inl (is_in-append-left b l (flatten ls) (subst (λ (x : List ℕ). is_in b x ≡ true) (sym q)
              (in_next ls b (record { inside = hb; near = is_in-exists (λ u. edge u b) (head_d ls []) a t e; fresh = u }))))
        ]
      ]
    ]

    -- so where there is no next level, an edge of the region does not leave the levels
    pub reached-closed : {ls : List (List ℕ)} → Levelled edge region root ls → next_level edge region ls ≡ [] → (a b : ℕ) → is_in a (flatten ls) ≡ true
        → is_in b region ≡ true → edge a b ≡ true → is_in b (flatten ls) ≡ true
    reached-closed {ls} h stop a b ha hb e = elim (edges_out h a b ha hb e) [
      | inl t ↦ t
      | inr t ↦ elim (tested (is_in b (flatten ls))) [
        | inl u ↦ u
        | inr u ↦ absurd (false≢true (ap (is_in b) (sym stop)
            ∙ in_next ls b (record { inside = hb; near = is_in-exists (λ u. edge u b) (head_d ls []) a t e; fresh = u })))
      ]
    ]

-- no level comes after the last
pub levels-end : LevelsEnd
levels-end = levels-ended
