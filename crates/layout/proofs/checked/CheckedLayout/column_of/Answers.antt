-- `layout::checked::CheckedLayout::column_of` meets its contract: the starts that are not above the slot come first, and the last of them is its column's.
use mathlib.Core.Path.{◌≡◌, sym, ◌∙◌}
use mathlib.Core.Logic.{inl, inr}
use mathlib.Core.Bool.{true, false}
use mathlib.Core.List.{List}
use Prim.Native.Nat.{ℕ, ◌+◌, ◌-◌, ◌≤◌, ◌<◌}
use native.Mathlib.Omega.{arith}
use lib.Dec.{leb}
use lib.ListN.{length, take, get_or}
use lib.Seq.{get_or-take, length-take-le}
use borrow.Author.Rules.{rules}
use borrow.Author.Tests.{leb-true, leb-false}
use Rattle.plan.specs.Questions.{column_of}
use Rattle.theory.specs.Checked.{Starts}
use Rattle.theory.proofs.Ascending.{falls-get_or}
use Rattle.theory.proofs.Bools.{lt_or_le}
use Rattle.theory.proofs.Checked.{good-starts}
use Rattle.layout.proofs.Answered.{known-good}
use Rattle.theory.proofs.SlotsAndPairs.{column_is}
use Rattle.std.proofs.lemmas.List.{get_or_default}
use Rattle.std.proofs.lemmas.List.Sorted.{IsPartitionPoint-from_clause, IsPartitionedBy-leb}
use Rattle.layout.proofs.checked.CheckedLayout.column_of.Goals.{After-partition_point}
use Rattle.layout.proofs.checked.CheckedLayout.column_of.Goals as goal

module _ (n : ℕ) (column_starts : List ℕ) (s : ℕ) (starts : Starts n column_starts) where
  many : length (take n column_starts) ≡ n
  many = length-take-le n column_starts (omega (arith, starts.many))

  start_at : (k d : ℕ) → k < n → get_or (take n column_starts) k d ≡ get_or column_starts k 0
  start_at k d lt = get_or-take n column_starts k d lt ∙ get_or_default column_starts k d 0 (omega (arith, starts.many))

  -- they do not fall
  rises : (i j d : ℕ) → i ≤ j → j < length (take n column_starts) → get_or (take n column_starts) i d ≤ get_or (take n column_starts) j d
  rises i j d le lt =
      let low : j < n = omega (arith, many) in
      omega (arith, start_at i d (omega arith), start_at j d low, falls-get_or column_starts starts.rising i j le (omega (arith, starts.many)))

  -- the column before the first start above the slot holds it
  last_below : s < get_or column_starts n 0 → (p : ℕ) → p ≤ length (take n column_starts)
      → ((k d : ℕ) → 0 ≤ k → k < p → leb (get_or (take n column_starts) k d) s ≡ true)
      → ((k d : ℕ) → p ≤ k → k < length (take n column_starts) → leb (get_or (take n column_starts) k d) s ≡ false)
      → (1 ≤ p) × (p - 1 ≡ column_of n column_starts s)
  last_below there p bound low high =
      let some : 1 ≤ p = elim (lt_or_le 0 p) [
        | inl lt ↦ lt
        | inr none ↦ elim (lt_or_le 0 n) [
          | inl lt ↦ absurd (omega (arith, leb-false _ _ (high 0 0 none (omega (arith, many))), start_at 0 0 lt, starts.zero_first))
          | inr empty ↦ absurd (let z : n ≡ 0 = omega arith in omega (arith, starts.zero_first, rw z at there))
        ]
      ] in
      let from : get_or column_starts (p - 1) 0 ≤ s = omega (arith, leb-true _ _ (low (p - 1) 0 (omega arith) (omega arith)), start_at (p - 1) 0 (omega (arith, many))) in
      let e : p ≡ p - 1 + 1 = omega arith in
      let behind : s < get_or column_starts p 0 = elim (lt_or_le p n) [
        | inl lt ↦ omega (arith, leb-false _ _ (high p 0 (omega arith) (omega (arith, many))), start_at p 0 lt)
        | inr all ↦ (let z : p ≡ n = omega (arith, many) in rw z there)
      ] in
      (some, sym (column_is n column_starts s starts (p - 1) (omega (arith, many), from, rw (← e) behind)))

-- so it is for the place that the search finds
found : (c : After-partition_point) → (1 ≤ c.partition_point.result) × (c.partition_point.result - 1 ≡ column_of c.args.self.now.n c.args.self.now.column_starts.now c.args.s)
found c =
    let starts = good-starts c.args.self.now.n c.args.self.now.column_starts.now (known-good c.args.self.now).starts in
    let point = IsPartitionPoint-from_clause (λ x. leb x c.args.s) _ _ c.partition_point.ensures.partitioned
    (IsPartitionedBy-leb (λ x. x) _ c.args.s (rises c.args.self.now.n c.args.self.now.column_starts.now c.args.s starts)) (λ a r q k. search rules) in
    last_below c.args.self.now.n c.args.self.now.column_starts.now c.args.s starts c.requires c.partition_point.result c.partition_point.ensures.bound point.0 point.1

pub overflow_sub-result : goal.overflow_sub-result
overflow_sub-result c = (found c).0

pub returns : goal.returns
returns c = (found c).1
