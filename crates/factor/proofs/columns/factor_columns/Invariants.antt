-- `factor::columns::factor_columns` meets its contract: the columns from j on give what all of them do.
use Rattle.factor.proofs.AllColumns.{Columns}
use Rattle.factor.proofs.columns.factor_columns.Given as goal

abbrev pub invariant-loop-j : goal.invariant-loop-j
invariant-loop-j l = Columns l.columns.starts.now l.columns.rows.now l.initial.diagonal l.initial.values l.initial.report l.diagonal l.values l.kept l.lower l.places l.report l.j
