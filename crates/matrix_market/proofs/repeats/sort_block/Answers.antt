-- `repeats::sort_block` meets its contract.
use mathlib.Core.Path.{◌≡◌, sym, ap, ◌∙◌}
use mathlib.Core.List.{List, ◌++◌}
use Prim.Native.Nat.{ℕ}
use lib.ListN.{length, take, drop}
use lib.Seq.{length-take-le, take_at}
use Rattle.sorting.specs.Sorted.{sorted}
use Rattle.sorting.proofs.Sorted.{sorted_rises}
use Rattle.plan.specs.Lists.{falls, twice}
use Rattle.matrix_market.proofs.Blocks.{sorted-twice, sorted-long}
use Rattle.matrix_market.proofs.repeats.sort_block.Goals.{After-sort}
use Rattle.matrix_market.proofs.repeats.sort_block.Goals as goal

-- the front, once it is sorted
front : (c : After-sort) → (c.sort.new.keys ≡ sorted (take c.args.count c.args.keys.now)) × (length c.sort.new.keys ≡ c.args.count)
front c =
    let l = take c.args.count c.args.keys.now in
    (c.sort.ensures, ap length c.sort.ensures ∙ sorted-long l ∙ length-take-le c.args.count c.args.keys.now c.requires)

pub has_repeat-requires : goal.has_repeat-requires
has_repeat-requires c = ap falls (take_at c.sort.new.keys (drop c.args.count c.args.keys.now) c.args.count (front (goal.at.has_repeat-requires c).After-sort).1 ∙ (front (goal.at.has_repeat-requires c).After-sort).0) ∙ sorted_rises _

pub returns : goal.returns
returns c =
    let l = take c.args.count c.args.keys.now in (
      c.has_repeat.ensures ∙ ap twice (take_at c.sort.new.keys (drop c.args.count c.args.keys.now) c.args.count (front (goal.at.returns c).After-sort).1 ∙ (front (goal.at.returns c).After-sort).0) ∙ sorted-twice l,
      ap (λ (x : List ℕ). x ++ drop c.args.count c.args.keys.now) (front (goal.at.returns c).After-sort).0 ∙ ap (λ (k : ℕ). sorted l ++ drop k c.args.keys.now) (sym (sorted-long l ∙ length-take-le c.args.count c.args.keys.now c.requires)),
    )
