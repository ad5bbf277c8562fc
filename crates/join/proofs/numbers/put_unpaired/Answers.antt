-- `join::numbers::put_unpaired` meets its contract: a node that waits goes to the next number, the others stay.
use native.Mathlib.Omega.{arith}
use borrow.Author.Rules.{rules}
use Rattle.join.proofs.Following.{followed_gone, followed_kept, waiting_few}
use Rattle.join.proofs.numbers.put_unpaired.Goals.{then-goes-w, else-goes-w}
use Rattle.join.proofs.numbers.put_unpaired.Goals as goal

pub overflow_add-next : goal.overflow_add-next
overflow_add-next c = omega (arith, waiting_few c.args.goes.now c.loop-w.w)

pub loop-w-preserved : goal.loop-w-preserved
loop-w-preserved c = (
  search rules,
  elim c.if-goes-w.branch [
    | then-goes-w w ↦ rw (w.goes-is, w.next-is) (followed_gone c.loop-w.invariant.1 (omega arith) w.if-goes-w.true)
    | else-goes-w w ↦ rw (w.goes-is, w.next-is) (followed_kept c.loop-w.invariant.1 w.if-goes-w.false)
  ],
)
