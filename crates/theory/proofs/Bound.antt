-- The number of all rows is at most the bound, by counting the rows of a part's columns.
use mathlib.Core.Path.{◌≡◌, refl, ap}
use mathlib.Core.Logic.{inl, inr}
use mathlib.Core.Bool.{Bool, true}
use mathlib.Core.List.{List, [], ◌∷◌, map, map-append}
use Prim.Native.Nat.{ℕ, suc, ◌+◌, ◌-◌, ◌*◌, ◌≤◌, ◌<◌}
use native.Mathlib.Nat.{zero-add, add-zero, suc-add, add-suc, add_assoc}
use native.Mathlib.Omega.{arith}
use lib.Dec.{ltb}
use lib.ListN.{length, get_or}
use borrow.Author.Tests.{lt-ltb}
use Rattle.plan.specs.Lists.{up_from, below, total}
use Rattle.plan.specs.Levels.{Graph}
use Rattle.plan.specs.Parts.{part_of, part_bound}
use Rattle.theory.specs.Counting.{count}
use Rattle.theory.specs.PartTree.{PartTree, Nested, borders, boundary_count}
use Rattle.theory.proofs.Bools.{eq_or_ne}
use Rattle.theory.proofs.Ranges.{is_in-up_from, up_from_add}
use Rattle.theory.proofs.Sums.{total-append, block, half}
use Rattle.theory.proofs.Counting.{count_or, count-below, count-later}
use Rattle.theory.proofs.Via.{Via}
use Rattle.theory.proofs.PartOf.{part-first, part_add, end_of, end-first, end_add, same-part-end}
use Rattle.theory.proofs.NestedRows.{row-borders}

-- the bound, part after part: b gives each part's border, k is the first part's number
abbrev bounds : (ℕ → ℕ) → ℕ → List ℕ → ℕ
bounds b k [] = 0
bounds b k (s ∷ ss) = part_bound s (b k) + bounds b (suc k) ss

bounds_total : (b g : ℕ → ℕ) (ss : List ℕ) (k : ℕ) → ((t : ℕ) → t < length ss → g (k + t) ≡ part_bound (get_or ss t 0) (b (k + t)))
    → total (map g (up_from k (length ss))) ≡ bounds b k ss
bounds_total b g [] k h = refl
bounds_total b g (s ∷ ss) k h =
    let first : g k ≡ part_bound s (b k) = rw add-zero at (h 0 (omega arith)) in
    let others : (t : ℕ) → t < length ss → g (suc k + t) ≡ part_bound (get_or ss t 0) (b (suc k + t)) =
    λ t l. rw (suc-add, ← add-suc k t) (h (suc t) (omega arith)) in
    omega (arith, first, bounds_total b g ss (suc k) others)

-- all columns of the parts, where column t of a part with border b has at most b rows and one for each later position of the part
columns : (b f : ℕ → ℕ) (ss : List ℕ) (base k : ℕ)
    → ((t : ℕ) → t < total ss → f (base + t) ≤ b (k + part_of ss t) + (end_of ss t - suc t))
    → total (map f (up_from base (total ss))) ≤ bounds b k ss
unfolding part_bound
columns b f [] base k h = omega arith
columns b f (s ∷ ss) base k h =
    let first : 2 * total (map f (up_from base s)) ≤ 2 * (s * b k) + s * (s - 1) =
    block (b k) f s base (λ t l. rw (end-first s ss t l, part-first s ss t l, add-zero) at (h t (omega arith))) in
    let others : total (map f (up_from (base + s) (total ss))) ≤ bounds b (suc k) ss =
    columns b f ss (base + s) (suc k) (λ t l.
    let q : f (base + (s + t)) ≤ b (k + suc (part_of ss t)) + (s + end_of ss t - suc (s + t)) =
    rw (part_add s ss t, end_add s ss t) at (h (s + t) (omega arith)) in
    rw (add_assoc base s t, suc-add, ← add-suc k (part_of ss t)) (omega (arith, q))) in
    omega (
      arith,
      half _ _ _ first,
      others,
      ap (λ (l : List ℕ). total (map f l)) (up_from_add base s (total ss)),
      ap total (map-append f (up_from base s) (up_from (base + s) (total ss))),
      total-append (map f (up_from base s)) (map f (up_from (base + s) (total ss))),
    )

module _ (n : ℕ) (edge : Graph) (sizes parents : List ℕ) (parts : PartTree n sizes parents)
    (mirror : (a b : ℕ) → edge a b ≡ true → edge b a ≡ true) (nested : Nested n edge sizes parents)
    (row : ℕ → ℕ → Bool) (sound : (i j : ℕ) → j < i → i < n → row i j ≡ true → Via edge j j i) where
  -- a column's rows border the region of its part, or lie in the part
  column-rows : (j : ℕ) → j < n → count (λ i. row i j) (up_from (suc j) (n - suc j)) ≤ boundary_count n edge sizes parents (part_of sizes j) + (end_of sizes j - suc j)
  unfolding boundary_count
  column-rows j l =
      let q : ℕ = part_of sizes j in
      let e : ℕ = end_of sizes j in
      let split : count (λ i. row i j) (up_from (suc j) (n - suc j))
      ≤ count (borders n edge sizes parents q) (up_from (suc j) (n - suc j)) + count (λ i. ltb i e) (up_from (suc j) (n - suc j)) =
      count_or (λ i. row i j) (borders n edge sizes parents q) (λ i. ltb i e) (up_from (suc j) (n - suc j))
      (λ i m t. let r = is_in-up_from (n - suc j) (suc j) i m in elim (eq_or_ne (part_of sizes i) q) [
        | inl same ↦ inr (lt-ltb i e (same-part-end sizes i j (omega (arith, parts.whole)) same))
        | inr other ↦ inl (row-borders n edge sizes parents parts mirror nested j i r.0 (omega arith) (sound i j r.0 (omega arith) t) other)
      ]) in
      omega (arith, split, count-later (borders n edge sizes parents q) n (suc j), count-below e (suc j) (n - suc j))

  -- all rows together, by position
  pub rows-bounded : total (map (λ j. count (λ i. row i j) (up_from (suc j) (n - suc j))) (below n))
      ≤ total (map (λ q. part_bound (get_or sizes q 0) (boundary_count n edge sizes parents q)) (below (length sizes)))
  rows-bounded =
      let b : ℕ → ℕ = boundary_count n edge sizes parents in
      let f : ℕ → ℕ = λ j. count (λ i. row i j) (up_from (suc j) (n - suc j)) in
      let all : total (map f (below (total sizes))) ≤ bounds b 0 sizes =
      columns b f sizes 0 0 (λ t l. simp zero-add (column-rows t (omega (arith, parts.whole)))) in
      rw (bounds_total b (λ q. part_bound (get_or sizes q 0) (b q)) sizes 0 (λ t l. rw (zero-add t))) (rw parts.whole at all)
