-- `repeats::gather` meets its contract.
use mathlib.Core.Path.{◌≡◌}
use mathlib.Core.List.{List}
use Prim.Native.Nat.{ℕ, ◌-◌, ◌≤◌}
use lib.ListN.{length}
use Rattle.plan.specs.Lists.{written}
use Rattle.plan.specs.MatrixMarket.{Line}
use Rattle.matrix_market.specs.Lines.{keys_in}
use Rattle.matrix_market.proofs.Runs.{Passed}
use Rattle.matrix_market.proofs.repeats.gather.Given as goal

-- the lines that are passed have their keys at the buffer's front
pub record Gathered (text : List ℕ) (at : ℕ) (found keys : List ℕ) (i k : ℕ) : Type 0 where
  pub front : List Line
  pub passed : Passed text at i front
  pub many : k ≡ length front
  pub fits : k ≤ length found
  pub stored : keys ≡ written (keys_in front) found
  pub long : length keys ≡ length found

abbrev pub invariant-loop-i : goal.invariant-loop-i
invariant-loop-i l = Gathered l.text l.at l.initial.keys l.keys l.i l.k

abbrev pub decreases-loop-i : goal.decreases-loop-i
decreases-loop-i l = length l.text - l.i
