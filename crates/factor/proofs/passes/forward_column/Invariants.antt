-- `factor::passes::forward_column` meets its contract: the rows behind those yielded are left, and the column's entry is as it was.
use mathlib.Core.Path.{◌≡◌}
use Prim.Native.Nat.{◌+◌}
use lib.ListN.{length, get_or}
use lib.Ieee.{nan}
use Rattle.plan.specs.Solving.{less_row}
use Rattle.factor.proofs.PassSteps.{Turning}
use Rattle.factor.proofs.passes.forward_column.Given as goal

abbrev pub invariant-loop-row : goal.invariant-loop-row
invariant-loop-row l =
    Turning (less_row l.filled.columns.rows.now l.filled.values.now l.j) (get_or l.filled.columns.starts.now l.j 0) (get_or l.filled.columns.starts.now (l.j + 1) 0) l.initial.vector
    (get_or l.filled.columns.starts.now l.j 0 + length l.yielded) l.vector × (l.x ≡ get_or l.vector l.j nan)
