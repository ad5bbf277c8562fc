-- `repeats::repeated_in_blocks` meets its contract.
use mathlib.Core.Path.{◌≡◌, sym, ap, ◌∙◌}
use Prim.Native.Nat.{ℕ, ◌≤◌}
use native.Mathlib.Omega.{arith}
use lib.ListN.{length, take}
use borrow.Author.Rules.{rules}
use Rattle.plan.specs.MatrixMarket.{given_again}
use Rattle.sorting.specs.Sorted.{sorted}
use Rattle.lexer.specs.Suffixes.{lines_at}
use Rattle.matrix_market.specs.Lines.{pairs_in}
use Rattle.lexer.proofs.Suffixes.{lines_over}
use Rattle.matrix_market.proofs.Blocks.{block_long, block_fits, block_rest, block_twice, block_met, block_passed, block_ascends, sorted_front}
use Rattle.matrix_market.proofs.repeats.repeated_in_blocks.Goals.{After-sort_block}
use Rattle.matrix_market.proofs.repeats.repeated_in_blocks.Goals as goal

-- the block, sorted
front : (c : After-sort_block) → (take c.gather-b.result.count c.sort_block.new.keys ≡ sorted (take c.gather-b.result.count c.gather-b.new.keys))
    × (length c.sort_block.new.keys ≡ length c.gather-b.new.keys)
front c = sorted_front c.gather-b.result.count c.gather-b.new.keys c.sort_block.new.keys (block_fits _ _ _ _ _ c.gather-b.ensures) c.sort_block.ensures.1

-- the buffer is as long as it was
long : (c : After-sort_block) → length c.sort_block.new.keys ≡ length c.args.keys.now
long c = (front c).1 ∙ block_long _ _ _ _ _ c.gather-b.ensures ∙ c.loop-from.invariant.long

pub returns-then-sort_block : goal.returns-then-sort_block
returns-then-sort_block c = (sym (c.loop-from.invariant.same ∙ block_twice _ _ _ _ _ c.gather-b.ensures c.loop-from.invariant.good c.sort_block.result c.sort_block.ensures.0 c.if-sort_block.true), long (goal.at.returns-then-sort_block c).After-sort_block)

pub meets-requires : goal.meets-requires
meets-requires c = (
  c.gather-b.ensures.within,
  block_rest _ _ _ _ _ c.gather-b.ensures c.loop-from.invariant.good,
  block_ascends _ _ _ _ _ c.gather-b.ensures c.sort_block.result _ c.sort_block.ensures.0 c.if-sort_block.false (front (goal.at.meets-requires c).After-sort_block).0,
)

pub returns-then-meets : goal.returns-then-meets
returns-then-meets c = (sym (c.loop-from.invariant.same ∙ block_met _ _ _ _ _ c.gather-b.ensures c.loop-from.invariant.good _ (front (goal.at.returns-then-meets c).After-sort_block).0 (sym c.meets.ensures ∙ c.if-meets.true)), long (goal.at.returns-then-meets c).After-sort_block)

pub loop-from-preserved : goal.loop-from-preserved
loop-from-preserved c =
    record {
      within = c.gather-b.ensures.within;
      good = block_rest _ _ _ _ _ c.gather-b.ensures c.loop-from.invariant.good;
      same = c.loop-from.invariant.same ∙ block_passed _ _ _ _ _ c.gather-b.ensures c.loop-from.invariant.good c.sort_block.result _ c.sort_block.ensures.0 c.if-sort_block.false (front (goal.at.loop-from-preserved c).After-sort_block).0 (sym c.meets.ensures ∙ c.if-meets.false);
      long = long (goal.at.loop-from-preserved c).After-sort_block;
    }

pub returns : goal.returns
returns c =
    let over : length c.args.text.now ≤ c.loop-from.from = search rules in
    let e : c.loop-from.from ≡ length c.args.text.now = omega (arith, c.loop-from.invariant.within, over) in
    (sym (c.loop-from.invariant.same ∙ ap (λ (i : ℕ). given_again (pairs_in (lines_at c.args.text.now i))) e ∙ ap (λ l. given_again (pairs_in l)) (lines_over c.args.text.now)), c.loop-from.invariant.long)
