-- `layout::checks::bad_column` meets its contract: behind k rows, the last of them `before`, the rule is that of column `before` for the
-- rows to come.
use mathlib.Core.Path.{◌≡◌}
use lib.ListN.{drop}
use Rattle.plan.specs.File.{bad_column}
use Rattle.layout.proofs.checks.bad_column.Given as goal

abbrev pub invariant-loop-row : goal.invariant-loop-row
invariant-loop-row l = bad_column l.n l.j l.column ≡ bad_column l.n l.before (drop l.row-index l.column)
