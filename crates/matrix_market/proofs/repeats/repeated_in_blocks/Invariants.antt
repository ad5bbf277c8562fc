-- `repeats::repeated_in_blocks` meets its contract.
use mathlib.Core.Path.{◌≡◌}
use mathlib.Core.Bool.{true}
use mathlib.Core.List.{List}
use Prim.Native.Nat.{ℕ, ◌-◌, ◌≤◌}
use lib.ListN.{length}
use Rattle.plan.specs.Lists.{every}
use Rattle.plan.specs.MatrixMarket.{holds_numbers, given_again}
use Rattle.lexer.specs.Suffixes.{lines_at}
use Rattle.matrix_market.specs.Lines.{pairs_in}
use Rattle.matrix_market.proofs.repeats.repeated_in_blocks.Given as goal

-- a pair is given again exactly where one is behind the blocks that are passed
pub record Left (text : List ℕ) (at : ℕ) (found keys : List ℕ) (from : ℕ) : Type 0 where
  pub within : from ≤ length text
  pub good : every (holds_numbers 2) (lines_at text from) ≡ true
  pub same : given_again (pairs_in (lines_at text at)) ≡ given_again (pairs_in (lines_at text from))
  pub long : length keys ≡ length found

abbrev pub invariant-loop-from : goal.invariant-loop-from
invariant-loop-from l = Left l.text l.at l.initial.keys l.keys l.from

abbrev pub decreases-loop-from : goal.decreases-loop-from
decreases-loop-from l = length l.text - l.from
