-- `rowchecks::rows::EncodedRows::bad_column` meets its contract: behind k rows, the last of them `before`, the rule is that of column `before`
-- for the rows to come.
use mathlib.Core.Path.{sym}
use native.Mathlib.Omega.{arith}
use Rattle.layout.proofs.ColumnScan.{scan_low, scan_high, scan_next, scan_end}
use Rattle.rowchecks.specs.Rows.{rows_in}
use Rattle.rowchecks.proofs.rows.EncodedRows.bad_column.Goals as goal

pub returns-then-i-before : goal.returns-then-i-before
returns-then-i-before c = sym (scan_low c.args.n c.args.j (rows_in c.args.self.now.0.now) c.loop-k.before c.loop-k.k c.loop-k.invariant (omega arith) (omega (arith, c.row-i.ensures)))

pub returns-then-i-n : goal.returns-then-i-n
returns-then-i-n c = sym (scan_high c.args.n c.args.j (rows_in c.args.self.now.0.now) c.loop-k.before c.loop-k.k c.loop-k.invariant (omega arith) (omega (arith, c.row-i.ensures)))

pub loop-k-preserved : goal.loop-k-preserved
loop-k-preserved c =
    rw c.row-i.ensures
    (scan_next c.args.n c.args.j (rows_in c.args.self.now.0.now) c.loop-k.before c.loop-k.k c.loop-k.invariant (omega arith) (omega (arith, c.row-i.ensures)) (omega (arith, c.row-i.ensures)))

pub returns : goal.returns
returns c = sym (scan_end c.args.n c.args.j (rows_in c.args.self.now.0.now) c.loop-k.before c.loop-k.k c.loop-k.invariant (omega arith))
