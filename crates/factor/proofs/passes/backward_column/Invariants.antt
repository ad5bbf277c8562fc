-- `factor::passes::backward_column` meets its contract: with x in the column's place, the rows behind those yielded are left.
use Prim.Native.Nat.{◌+◌}
use lib.ListN.{length, get_or}
use Rattle.factor.proofs.PassSteps.{Summing}
use Rattle.factor.proofs.passes.backward_column.Given as goal

abbrev pub invariant-loop-row : goal.invariant-loop-row
invariant-loop-row l = Summing l.filled.columns.starts.now l.filled.columns.rows.now l.filled.values.now l.j l.vector (get_or l.filled.columns.starts.now l.j 0 + length l.yielded) l.x
