-- Marks: which positions got the mark j. One relation serves every loop that marks: the positions that a test tells have it, and the others
-- are as before.
use mathlib.Core.Path.{◌≡◌, refl, sym, ap, ◌∙◌}
use mathlib.Core.Bool.{Bool, true, false, cond, ◌||◌}
use mathlib.Core.List.{List}
use Prim.Native.Nat.{ℕ, ◌+◌, ◌<◌}
use lib.Dec.{eqb}
use lib.ListN.{length, take, set, get_or}
use borrow.Author.Tests.{eqb-true, eq-eqb, ne_eqb}
use Rattle.plan.specs.Lists.{exists, is_in}
use Rattle.plan.specs.Mesh.{Mesh, neighbours_of, adjacent}
use Rattle.theory.specs.Rows.{edge_at}
use Rattle.theory.proofs.Bools.{iff_eq}
use Rattle.theory.proofs.Lists.{exists-is_in, is_in-exists, exists_more}
use Rattle.layout.specs.Arrays.{Ordered, Marked, neighbour_position}
use Rattle.layout.proofs.Stores.{get_or-set_cases}
use Rattle.layout.proofs.Inverse.{order_of_inverse, inverse_of_order}

-- ---- marks

module _ (j : ℕ) where
  -- a test that tells the same
  pub marked_as : (s t : ℕ → Bool) (before after : List ℕ) → ((i : ℕ) → s i ≡ t i) → Marked j s before after → Marked j t before after
  marked_as s t before after f h i = rw (← f i) (h i)

  -- one position gets the mark
  marked_one : (k : ℕ) (marks : List ℕ) → k < length marks → Marked j (λ i. eqb i k) marks (set marks k j)
  marked_one k marks lt i = get_or-set_cases (λ x. x ≡ cond (eqb i k) j (get_or marks i 0)) marks k j i lt (λ e. rw (eq-eqb i k e)) (λ e. rw (ne_eqb i k e))

  -- first some positions, then others
  pub marked_both : (s t : ℕ → Bool) (before between after : List ℕ) → Marked j s before between → Marked j t between after → Marked j (λ i. s i || t i) before after
  marked_both s t before between after f g i = g i ∙ ap (cond (t i) j) (f i) ∙ either (s i) (t i) (get_or before i 0)
    where
      either : (a b : Bool) (x : ℕ) → cond b j (cond a j x) ≡ cond (a || b) j x
      either true true x = refl
      either true false x = refl
      either false b x = refl

  -- one element more of a list marks its position f
  pub marked_more : (f : ℕ → ℕ) (l : List ℕ) (e : ℕ) (before marks : List ℕ) → e < length l → f (get_or l e 0) < length marks
      → Marked j (λ i. exists (λ w. eqb i (f w)) (take e l)) before marks
      → Marked j (λ i. exists (λ w. eqb i (f w)) (take (e + 1) l)) before (set marks (f (get_or l e 0)) j)
  marked_more f l e before marks lt inside h =
      let k : ℕ = f (get_or l e 0) in
      marked_as (λ i. exists (λ w. eqb i (f w)) (take e l) || eqb i k) (λ i. exists (λ w. eqb i (f w)) (take (e + 1) l)) before (set marks k j)
      (λ i. sym (exists_more (λ w. eqb i (f w)) l e lt))
      (marked_both (λ i. exists (λ w. eqb i (f w)) (take e l)) (λ i. eqb i k) before marks (set marks k j) h (marked_one k marks inside))

-- ---- the positions of nodes

module _ (m : Mesh) (order positions : List ℕ) (h : Ordered m order positions) where
  -- the neighbours' positions, told by the edges
  pub neighbour_edge : (j i : ℕ) → i < m.nodes → neighbour_position m order positions j i ≡ edge_at m order j i
  unfolding neighbour_position edge_at adjacent
  neighbour_edge j i l = iff_eq (exists (λ w. eqb i (get_or positions w 0)) (neighbours_of m (get_or order j 0))) (is_in (get_or order i 0) (neighbours_of m (get_or order j 0))) there back
    where
      there : exists (λ w. eqb i (get_or positions w 0)) (neighbours_of m (get_or order j 0)) ≡ true → is_in (get_or order i 0) (neighbours_of m (get_or order j 0)) ≡ true
      there t =
          let r = exists-is_in (λ w. eqb i (get_or positions w 0)) (neighbours_of m (get_or order j 0)) t in
          let lw : r.0 < m.nodes = (h.checked.inside (get_or order j 0) r.0 r.1).1 in
          let w : get_or order i 0 ≡ r.0 = ap (λ (x : ℕ). get_or order x 0) (eqb-true i (get_or positions r.0 0) r.2) ∙ order_of_inverse m order positions h r.0 lw in
          rw w r.1

      back : is_in (get_or order i 0) (neighbours_of m (get_or order j 0)) ≡ true → exists (λ w. eqb i (get_or positions w 0)) (neighbours_of m (get_or order j 0)) ≡ true
      back t =
          is_in-exists (λ w. eqb i (get_or positions w 0)) (neighbours_of m (get_or order j 0)) (get_or order i 0) t (eq-eqb i _ (sym (inverse_of_order m order positions h i l)))
