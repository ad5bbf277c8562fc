-- `rowchecks::rows::EncodedRows::bad_column` meets its contract: behind k rows, the last of them `before`, the rule is that of column `before`
-- for the rows to come.
use mathlib.Core.Path.{◌≡◌}
use lib.ListN.{drop}
use Rattle.plan.specs.File.{bad_column}
use Rattle.rowchecks.specs.Rows.{rows_in}
use Rattle.rowchecks.proofs.rows.EncodedRows.bad_column.Given as goal

abbrev pub invariant-loop-k : goal.invariant-loop-k
invariant-loop-k l = bad_column l.n l.j (rows_in l.self.0.now) ≡ bad_column l.n l.before (drop l.k (rows_in l.self.0.now))
