-- `factor::passes::forward_columns` meets its contract: the columns from j on are left.
use Prim.Native.Nat.{◌-◌}
use lib.ListN.{length}
use Rattle.plan.specs.Solving.{forward_column}
use Rattle.factor.proofs.PassSteps.{Turning}
use Rattle.factor.proofs.passes.forward_columns.Given as goal

abbrev pub invariant-loop-j : goal.invariant-loop-j
invariant-loop-j l = Turning (forward_column l.filled.columns.starts.now l.filled.columns.rows.now l.filled.values.now) 0 (length l.initial.vector) l.initial.vector l.j l.vector

abbrev pub decreases-loop-j : goal.decreases-loop-j
decreases-loop-j l = length l.initial.vector - l.j
