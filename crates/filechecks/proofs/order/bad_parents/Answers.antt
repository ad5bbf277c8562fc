-- `filechecks::order::bad_parents` meets its contract: the loop tries each parent.
use mathlib.Core.Path.{sym, ap, ◌∙◌}
use mathlib.Core.Bool.{not}
use native.Mathlib.Omega.{arith}
use lib.ListN.{length}
use Rattle.theory.proofs.Scans.{clear_more, found_below, none_below}
use Rattle.filechecks.proofs.order.bad_parents.Invariants.{bad}
use Rattle.filechecks.proofs.order.bad_parents.Goals as goal

pub returns-then-not-may_be_parent : goal.returns-then-not-may_be_parent
returns-then-not-may_be_parent c = sym (found_below (bad c.args.parents.now) (length c.args.parents.now) c.loop-q.q (omega arith) (ap not (sym c.may_be_parent.ensures) ∙ (ap not c.if-not-may_be_parent.true)))

pub loop-q-preserved : goal.loop-q-preserved
loop-q-preserved c = clear_more (bad c.args.parents.now) c.loop-q.q c.loop-q.invariant (ap not (sym c.may_be_parent.ensures) ∙ (ap not c.if-not-may_be_parent.false))

pub returns : goal.returns
returns c = sym (none_below (bad c.args.parents.now) (length c.args.parents.now) c.loop-q.q (omega arith) c.loop-q.invariant)
