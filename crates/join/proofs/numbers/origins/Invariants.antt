-- `join::numbers::origins` meets its contract: each turn stores one more node at the place that it goes to.
use Prim.Native.Nat.{◌≤◌}
use lib.ListN.{take}
use Rattle.join.proofs.Scattered.{Scattered}
use Rattle.join.proofs.numbers.origins.Given as goal

abbrev pub invariant-loop-w : goal.invariant-loop-w
invariant-loop-w l = (l.w ≤ l.n2) × Scattered (take l.n2 l.goes) (λ i. i) l.initial.from l.w l.from
