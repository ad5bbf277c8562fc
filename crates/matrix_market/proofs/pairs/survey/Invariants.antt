-- `pairs::survey` meets its contract.
use mathlib.Core.Path.{◌≡◌}
use mathlib.Core.List.{List}
use Prim.Native.Nat.{ℕ, ◌-◌}
use lib.ListN.{length, take}
use Rattle.plan.specs.Lists.{written}
use Rattle.plan.specs.MatrixMarket.{Line}
use Rattle.matrix_market.specs.declared.pairs.Tally.{Tally}
use Rattle.matrix_market.specs.Lines.{keys_in, tally_of}
use Rattle.matrix_market.proofs.Runs.{Passed}
use Rattle.matrix_market.proofs.pairs.survey.Given as goal

-- the lines that are passed are told, and their keys stored
pub record Told (text : List ℕ) (at n : ℕ) (found keys : List ℕ) (i : ℕ) (s : Tally) : Type 0 where
  pub front : List Line
  pub passed : Passed text at i front
  pub told : s ≡ tally_of n front
  pub stored : keys ≡ written (take (length found) (keys_in front)) found
  pub long : length keys ≡ length found

abbrev pub invariant-loop-i : goal.invariant-loop-i
invariant-loop-i l = Told l.text l.at l.n l.initial.keys l.keys l.i l.s

abbrev pub decreases-loop-i : goal.decreases-loop-i
decreases-loop-i l = length l.text - l.i
