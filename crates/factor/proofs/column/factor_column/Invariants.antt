-- `factor::column::factor_column` meets its contract: the divisions, then row after row.
use mathlib.Core.Path.{◌≡◌}
use Prim.Native.Nat.{◌-◌}
use lib.ListN.{length}
use Rattle.factor.proofs.ColumnSteps.{InColumn}
use Rattle.factor.proofs.column.factor_column.Given as goal

abbrev pub invariant-loop-s : goal.invariant-loop-s
invariant-loop-s l = InColumn l.columns.starts.now l.columns.rows.now l.kept l.lower l.initial.diagonal l.initial.values l.diagonal l.values l.places l.from l.to l.s × (length l.places ≡ length l.initial.places)

abbrev pub decreases-loop-s : goal.decreases-loop-s
decreases-loop-s l = l.to - l.s
