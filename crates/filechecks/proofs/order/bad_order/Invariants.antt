-- `filechecks::order::bad_order` meets its contract: each entry met is marked, and one that lies outside or is met again is a fault.
use Rattle.filechecks.proofs.Once.{Marked}
use Rattle.filechecks.proofs.order.bad_order.Given as goal

abbrev pub invariant-loop-node : goal.invariant-loop-node
invariant-loop-node l = Marked l.order l.marks l.node-index
