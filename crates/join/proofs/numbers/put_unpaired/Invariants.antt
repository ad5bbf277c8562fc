-- `join::numbers::put_unpaired` meets its contract: a node that waits goes to the next number, the others stay.
use Prim.Native.Nat.{◌≤◌}
use Rattle.join.proofs.Following.{Followed}
use Rattle.join.proofs.numbers.put_unpaired.Given as goal

abbrev pub invariant-loop-w : goal.invariant-loop-w
invariant-loop-w l = (l.w ≤ l.n2) × Followed l.n1 l.initial.goes l.goes l.next l.w
