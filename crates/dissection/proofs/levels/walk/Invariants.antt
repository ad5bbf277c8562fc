-- `dissection::levels::walk` meets its contract: between two levels, the levels so far stand in the numbers and in the queue.
use mathlib.Core.Path.{◌≡◌}
use Prim.Native.Nat.{◌-◌}
use lib.ListN.{length, set}
use Rattle.plan.specs.Mesh.{adjacent}
use Rattle.mesh.specs.Lent.{as_lent}
use Rattle.dissection.specs.Numbers.{fresh}
use Rattle.dissection.proofs.Walks.{Walking}
use Rattle.dissection.proofs.levels.walk.Given as goal

-- The numbers before the loop differ from those before the walk at the root alone, which was fresh.
abbrev pub invariant-loop-hi : goal.invariant-loop-hi
invariant-loop-hi g l = (length l.numbers ≡ length l.initial.numbers) × (length l.queue ≡ length l.initial.queue) × Walking l.mesh.nodes (adjacent (as_lent l.mesh)) l.root (set l.initial.numbers l.root fresh) l.last l.width l.lo l.hi l.numbers l.queue

abbrev pub decreases-loop-hi : goal.decreases-loop-hi
decreases-loop-hi g l = l.mesh.nodes - l.lo
