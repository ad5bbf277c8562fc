-- `rowchecks::columns::sound` meets its contract: the rows from place k on break neither rule, and `behind` is the first of them.
use mathlib.Core.Path.{sym}
use native.Mathlib.Omega.{arith}
use Rattle.rowchecks.proofs.ColumnDown.{down_start, down_high, down_out, down_next, down_end}
use mathlib.Core.Bool.{not}
use mathlib.Core.Path.{ap}
use Rattle.rowchecks.proofs.columns.sound.Goals as goal

pub loop-k-init : goal.loop-k-init
loop-k-init g c = rw c.count-k.ensures (down_start c.args.ranges.now.n c.args.ranges.now.lows.now c.args.ranges.now.ends.now c.args.j (g.R.Rows.numbers c.args.column))

pub returns-then-i-behind : goal.returns-then-i-behind
returns-then-i-behind g c = sym (down_high c.loop-k.invariant (omega arith) c.row-i.ensures (omega arith))

pub returns-then-not-holds : goal.returns-then-not-holds
returns-then-not-holds g c = sym (down_out c.loop-k.invariant (omega arith) c.row-i.ensures c.holds.ensures (ap not c.if-not-holds.true))

pub loop-k-preserved : goal.loop-k-preserved
loop-k-preserved g c = down_next c.loop-k.invariant (omega arith) c.row-i.ensures (omega arith) c.holds.ensures (ap not c.if-not-holds.false)

pub returns : goal.returns
returns g c = down_end c.loop-k.invariant (omega arith) (omega arith)
