-- `factor::column::factor_rows` meets its contract: a row is run down, and those that follow it are known.
use Prim.Native.Nat.{◌≤◌}
use Rattle.factor.proofs.ColumnSteps.{Following}
use Rattle.factor.proofs.column.factor_rows.Given as goal

abbrev pub invariant-loop-at : goal.invariant-loop-at
invariant-loop-at l = Following l.columns.starts.now l.columns.rows.now l.kept l.lower l.places l.first l.s l.to l.initial.diagonal l.initial.values l.diagonal l.values l.k l.shift l.at × (l.first ≤ l.s)
