-- `layout::checks::bad_column` meets its contract: behind k rows, the last of them `before`, the rule is that of column `before` for the
-- rows to come.
use mathlib.Core.Path.{sym}
use mathlib.Core.Logic.{inl, inr}
use native.Mathlib.Omega.{arith}
use Rattle.layout.proofs.ColumnScan.{scan_low, scan_high, scan_next, scan_end}
use Rattle.layout.proofs.checks.bad_column.Goals as goal

pub returns-then-i-before : goal.returns-then-i-before
returns-then-i-before c = elim c.then-i-before.either [
  | inl low ↦ sym (scan_low c.args.n c.args.j c.args.column.now c.loop-row.before c.loop-row.row-index c.loop-row.invariant (omega arith) (omega arith))
  | inr high ↦ sym (scan_high c.args.n c.args.j c.args.column.now c.loop-row.before c.loop-row.row-index c.loop-row.invariant (omega arith) (omega (arith, high)))
]

pub loop-row-preserved : goal.loop-row-preserved
loop-row-preserved c = scan_next c.args.n c.args.j c.args.column.now c.loop-row.before c.loop-row.row-index c.loop-row.invariant (omega arith) (omega arith) (omega arith)

pub returns : goal.returns
returns c = sym (scan_end c.args.n c.args.j c.args.column.now c.loop-row.before c.loop-row.row-index c.loop-row.invariant (omega arith))
