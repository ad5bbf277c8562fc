-- `repeats::meets` meets its contract.
use mathlib.Core.Path.{◌≡◌}
use mathlib.Core.Bool.{false}
use mathlib.Core.List.{List}
use Prim.Native.Nat.{ℕ, ◌-◌}
use lib.ListN.{length}
use Rattle.plan.specs.Lists.{exists}
use Rattle.plan.specs.MatrixMarket.{Line}
use Rattle.matrix_market.proofs.Runs.{Passed}
use Rattle.matrix_market.proofs.Blocks.{key_among}
use Rattle.matrix_market.proofs.repeats.meets.Given as goal

-- none of the lines that are passed has its key among these
pub record Missed (text : List ℕ) (at : ℕ) (keys : List ℕ) (i : ℕ) : Type 0 where
  pub front : List Line
  pub passed : Passed text at i front
  pub none : exists (key_among keys) front ≡ false

abbrev pub invariant-loop-i : goal.invariant-loop-i
invariant-loop-i l = Missed l.text l.at l.keys l.i

abbrev pub decreases-loop-i : goal.decreases-loop-i
decreases-loop-i l = length l.text - l.i
