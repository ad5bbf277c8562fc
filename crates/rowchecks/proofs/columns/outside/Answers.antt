-- `rowchecks::columns::outside` meets its contract: none of the rows before place k breaks 18's rule.
use mathlib.Core.Path.{refl, sym}
use native.Mathlib.Omega.{arith}
use Rattle.rowchecks.proofs.ColumnDown.{inside-high, inside_out, inside-next, inside-end}
use mathlib.Core.Bool.{not}
use mathlib.Core.Path.{ap}
use Rattle.rowchecks.proofs.columns.outside.Goals as goal

pub returns-then-i-ranges : goal.returns-then-i-ranges
returns-then-i-ranges g c = sym (inside-high c.loop-k.invariant (omega arith) c.row-i.ensures (omega arith))

pub returns-then-not-holds : goal.returns-then-not-holds
returns-then-not-holds g c = sym (inside_out c.loop-k.invariant (omega arith) c.row-i.ensures c.holds.ensures (ap not c.if-not-holds.true))

pub loop-k-preserved : goal.loop-k-preserved
loop-k-preserved g c = inside-next c.loop-k.invariant c.row-i.ensures (omega arith) c.holds.ensures (ap not c.if-not-holds.false)

pub returns : goal.returns
returns g c = sym (inside-end c.loop-k.invariant (omega arith))

pub loop-k-init : goal.loop-k-init
loop-k-init g c = record { clear = refl }
