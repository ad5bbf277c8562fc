-- From nested alone: a row of a column lies in the column's part or in an ancestor of it, and outside the part it borders the part's region.
use mathlib.Core.Path.{◌≡◌, subst, ap}
use mathlib.Core.Logic.{inl, inr, ◌≢◌}
use mathlib.Core.Bool.{true, not, ◌&&◌}
use mathlib.Core.List.{List}
use Prim.Native.Nat.{ℕ, ◌≤◌, ◌<◌}
use native.Mathlib.Omega.{arith}
use Rattle.plan.specs.Lists.{below}
use Rattle.plan.specs.Levels.{Graph}
use Rattle.plan.specs.Parts.{part_of, at_or_above}
use Rattle.theory.specs.PartTree.{PartTree, Nested, borders}
use Rattle.theory.proofs.Bools.{and_both, refuted, lt_or_le}
use Rattle.theory.proofs.Lists.{is_in-exists}
use Rattle.theory.proofs.Ranges.{below-is_in}
use Rattle.theory.proofs.Via.{Via, direct, through}
use Rattle.theory.proofs.PartOf.{part_mono}
use Rattle.theory.proofs.PartAncestors.{Under, here, under_trans, under_of_test, under_le, under_chain, test_of_under}

-- the last position before i on a path from j
record Entry (edge : Graph) (sizes parents : List ℕ) (j i : ℕ) : Type 0 where
  last : ℕ
  early : last ≤ j
  inside : Under parents (part_of sizes last) (part_of sizes j)
  meets : edge last i ≡ true

module _ (n : ℕ) (edge : Graph) (sizes parents : List ℕ) (parts : PartTree n sizes parents)
    (mirror : (a b : ℕ) → edge a b ≡ true → edge b a ≡ true) (nested : Nested n edge sizes parents) where
  -- an edge that stays at or before j stays in the region of j's part
  stay : (j x y : ℕ) → j < n → x ≤ j → y ≤ j → edge x y ≡ true
      → Under parents (part_of sizes x) (part_of sizes j) → Under parents (part_of sizes y) (part_of sizes j)
  stay j x y jn xj yj e u = elim (lt_or_le x y) [
    | inl l ↦ under_chain parents parts.later (under_of_test parents _ _ (nested x y l (omega arith) e)) u (part_mono sizes y j yj)
    | inr l ↦ elim (lt_or_le y x) [
      | inl m ↦ under_trans (under_of_test parents _ _ (nested y x m (omega arith) (mirror x y e))) u
      | inr m ↦ let same : x ≡ y = omega arith in subst (λ (z : ℕ). Under parents (part_of sizes z) (part_of sizes j)) same u
    ]
  ]

  -- so a path through positions before j stays there up to its last edge
  entry : (j i : ℕ) → j < n → {x : ℕ} → x ≤ j → Under parents (part_of sizes x) (part_of sizes j) → Via edge j x i → Entry edge sizes parents j i
  entry j i jn xj u (direct {a = x} e) = record { last = x; early = xj; inside = u; meets = e }
  entry j i jn xj u (through {a = x} {c = y} e lt v) = entry j i jn (omega arith) (stay j x y jn xj (omega arith) e u) v

  entered : (j i : ℕ) → j < i → i < n → Entry edge sizes parents j i → Under parents (part_of sizes j) (part_of sizes i)
  entered j i ji hi w = under_chain parents parts.later w.inside
      (under_of_test parents _ _ (nested w.last i (omega (arith, w.early)) hi w.meets)) (part_mono sizes j i (omega arith))

  -- the row's part is the column's part or an ancestor of it
  pub row_above : (j i : ℕ) → j < i → i < n → Via edge j j i → at_or_above parents (part_of sizes j) (part_of sizes i) ≡ true
  row_above j i ji hi v = test_of_under parents parts.later parts.known _ _ (entered j i ji hi (entry j i (omega arith) (omega arith) here v))

  -- a row outside the column's part borders that part's region
  pub row-borders : (j i : ℕ) → j < i → i < n → Via edge j j i → part_of sizes i ≢ part_of sizes j → borders n edge sizes parents (part_of sizes j) i ≡ true
  unfolding borders
  row-borders j i ji hi v other =
      let w : Entry edge sizes parents j i = entry j i (omega arith) (omega arith) here v in
      let q : ℕ = part_of sizes j in
      and_both (not (at_or_above parents (part_of sizes i) q)) _
      (ap not (refuted (at_or_above parents (part_of sizes i) q) (λ t. other (omega (arith, under_le parents parts.later (under_of_test parents (part_of sizes i) q t), part_mono sizes j i (omega arith))))))
      (is_in-exists (λ x. at_or_above parents (part_of sizes x) q && edge i x) (below n) w.last (below-is_in n w.last (omega (arith, w.early)))
      (and_both (at_or_above parents (part_of sizes w.last) q) _ (test_of_under parents parts.later parts.known _ _ w.inside) (mirror w.last i w.meets)))
