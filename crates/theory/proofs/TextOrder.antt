-- Texts whose pairs differ in order only are read alike.
use mathlib.Core.Path.{◌≡◌, refl, sym, ap, ap₂, ◌∙◌}
use mathlib.Core.Logic.{inl, inr}
use mathlib.Core.Bool.{Bool, true, false, not, cond, ◌&&◌, ◌||◌, false≢true}
use mathlib.Core.List.{List, [], ◌∷◌, map}
use Prim.Native.Nat.{ℕ, ◌<◌}
use native.Mathlib.Omega.{arith}
use lib.Dec.{eqb}
use lib.ListN.{length, get_or}
use borrow.Author.Tests.{eqb-true}
use Rattle.plan.specs.Lists.{exists, every, keep}
use Rattle.plan.specs.MatrixMarket.{Line, word_lines, holds_numbers, number_at, size_line, pair_lines, Pair, pair_of, row_count, column_count, pairs_of, bad_text, bad_pair, bad_matrix, same_pair, has_pair, given_again, repeated_pair, text_mesh, text_checks, reading_text}
use Rattle.plan.specs.AcceptedTexts.{Reordered, LinesInAnyOrder, OrderIsFree}
use Rattle.theory.proofs.Bools.{or_cases, or_left, or_right, and_left, and_right, and_both, iff_eq, eqb_same}
use Rattle.theory.proofs.AnyLists.{some-kept, kept-some}
use Rattle.theory.proofs.TextMesh.{same-pairs-same-mesh}

module _ {A : Type 0} where
  -- a test passes on both or on neither
  pub some_reordered : (ps qs : List A) → Reordered ps qs → (p : A → Bool) → exists p ps ≡ exists p qs
  some_reordered ps qs f p = iff_eq _ _
      (λ h. kept-some p qs (omega (arith, some-kept p ps h, f p)))
      (λ h. kept-some p ps (omega (arith, some-kept p qs h, f p)))

  every_some : (p : A → Bool) (l : List A) → every p l ≡ not (exists (λ x. not (p x)) l)
  every_some p [] = refl
  every_some p (x ∷ l) = go (p x) (every_some p l)
    where
      go : (b : Bool) → every p l ≡ not (exists (λ x. not (p x)) l) → (b && every p l) ≡ not (not b || exists (λ x. not (p x)) l)
      go true e = e
      go false e = refl

  every_reordered : (ps qs : List A) → Reordered ps qs → (p : A → Bool) → every p ps ≡ every p qs
  every_reordered ps qs f p = every_some p ps ∙ ap not (some_reordered ps qs f (λ x. not (p x))) ∙ sym (every_some p qs)

  all-kept : (l : List A) → length (keep (λ x. true) l) ≡ length l
  all-kept [] = refl
  all-kept (x ∷ l) = rw (all-kept l)

  length_reordered : (ps qs : List A) → Reordered ps qs → length ps ≡ length qs
  length_reordered ps qs f = sym (all-kept ps) ∙ f (λ x. true) ∙ all-kept qs

  kept_map : {B : Type 0} (p : B → Bool) (f : A → B) (l : List A) → length (keep p (map f l)) ≡ length (keep (λ x. p (f x)) l)
  kept_map p f [] = refl
  kept_map p f (x ∷ l) = go (p (f x)) (kept_map p f l)
    where
      go : (b : Bool) → length (keep p (map f l)) ≡ length (keep (λ x. p (f x)) l)
          → length (cond b (f x ∷ keep p (map f l)) (keep p (map f l))) ≡ length (cond b (x ∷ keep (λ x. p (f x)) l) (keep (λ x. p (f x)) l))
      go true e = rw e
      go false e = e

same_self : (p : Pair) → same_pair p p ≡ true
same_self p = and_both (eqb p.0 p.0) _ (eqb_same p.0) (eqb_same p.1)

-- a pair given again is kept more than once
again_kept : (ps : List Pair) → given_again ps ≡ true → (p : Pair) × (1 < length (keep (same_pair p) ps))
again_kept [] h = absurd (false≢true h)
again_kept (q ∷ ps) h = elim (or_cases (exists (same_pair q) ps) (given_again ps) h) [
  | inl t ↦ (q, head (same_pair q q) (same_self q) (some-kept (same_pair q) ps t))
  | inr t ↦ (let r = again_kept ps t in (r.0, tail (same_pair r.0 q) (length (keep (same_pair r.0) ps)) (keep (same_pair r.0) ps) refl r.1))
]
  where
    head : (b : Bool) → b ≡ true → 0 < length (keep (same_pair q) ps) → 1 < length (cond b (q ∷ keep (same_pair q) ps) (keep (same_pair q) ps))
    head true e h = omega (arith, h)
    head false e h = absurd (false≢true e)

    tail : (b : Bool) (k : ℕ) (l : List Pair) → length l ≡ k → 1 < k → 1 < length (cond b (q ∷ l) l)
    tail true k l e h = omega (arith, e, h)
    tail false k l e h = omega (arith, e, h)

kept_again : (ps : List Pair) (p : Pair) → 1 < length (keep (same_pair p) ps) → given_again ps ≡ true
kept_again [] p h = absurd (omega arith)
kept_again (q ∷ ps) p h = go (same_pair p q) refl h (kept_again ps p)
  where
    swap : same_pair p q ≡ true → exists (same_pair p) ps ≡ exists (same_pair q) ps
    swap t =
        ap₂ (λ (i j : ℕ). has_pair i j ps) (eqb-true p.0 q.0 (and_left (eqb p.0 q.0) _ t)) (eqb-true p.1 q.1 (and_right (eqb p.0 q.0) _ t))

    go : (b : Bool) → same_pair p q ≡ b → 1 < length (cond b (q ∷ keep (same_pair p) ps) (keep (same_pair p) ps))
        → (1 < length (keep (same_pair p) ps) → given_again ps ≡ true) → (exists (same_pair q) ps || given_again ps) ≡ true
    go true e h ih = or_left (exists (same_pair q) ps) _ (sym (swap e) ∙ kept-some (same_pair p) ps (omega (arith, h)))
    go false e h ih = or_right (exists (same_pair q) ps) _ (ih h)

pub again_reordered : (ps qs : List Pair) → Reordered ps qs → given_again ps ≡ given_again qs
again_reordered ps qs f = iff_eq _ _ (half ps qs f) (half qs ps (λ p. sym (f p)))
  where
    half : (ps qs : List Pair) → Reordered ps qs → given_again ps ≡ true → given_again qs ≡ true
    half ps qs f h = let r = again_kept ps h in kept_again qs r.0 (omega (arith, r.1, f (same_pair r.0)))

-- the checks of both
matrix_reordered : (a b : List ℕ) → row_count a ≡ row_count b → column_count a ≡ column_count b → Reordered (pairs_of a) (pairs_of b) → bad_matrix a ≡ bad_matrix b
unfolding bad_matrix
matrix_reordered a b rows columns f =
    ap₂ (λ (x y : Bool). x || y)
    (ap₂ (λ (i j : ℕ). not (eqb i j)) rows columns)
    (some_reordered (pairs_of a) (pairs_of b) f (bad_pair (row_count a)) ∙ ap (λ (n : ℕ). exists (bad_pair n) (pairs_of b)) rows)

repeated_reordered : (a b : List ℕ) → Reordered (pairs_of a) (pairs_of b) → repeated_pair a ≡ repeated_pair b
unfolding repeated_pair
repeated_reordered a b f = again_reordered (pairs_of a) (pairs_of b) f

pub order_is_free : OrderIsFree
unfolding reading_text text_checks
order_is_free a b room kind rows columns f =
    let mesh : text_mesh a ≡ text_mesh b = same-pairs-same-mesh a b rows (λ i j. some_reordered (pairs_of a) (pairs_of b) f (same_pair (i, j))) in
    rw (kind, matrix_reordered a b rows columns f, repeated_reordered a b f, mesh)

-- lines in another order: the kind is the same, and so are the pairs but for their order
text_reordered : (a b : List ℕ) → get_or (word_lines a) 0 [] ≡ get_or (word_lines b) 0 [] → size_line a ≡ size_line b → Reordered (pair_lines a) (pair_lines b)
    → bad_text a ≡ bad_text b
unfolding bad_text
text_reordered a b first size f =
    rw (first, size, every_reordered (pair_lines a) (pair_lines b) f (holds_numbers 2), length_reordered (pair_lines a) (pair_lines b) f)

pairs_reordered : (a b : List ℕ) → Reordered (pair_lines a) (pair_lines b) → Reordered (pairs_of a) (pairs_of b)
unfolding pairs_of
pairs_reordered a b f p = kept_map p pair_of (pair_lines a) ∙ f (λ l. p (pair_of l)) ∙ sym (kept_map p pair_of (pair_lines b))

pub lines_in_any_order : LinesInAnyOrder
lines_in_any_order a b room first size f =
    order_is_free a b room (text_reordered a b first size f) (ap (λ (l : Line). number_at l 0) size) (ap (λ (l : Line). number_at l 1) size) (pairs_reordered a b f)
