-- `layout::columns::mark_neighbours` meets its contract: the loop marks the position of each neighbour.
use mathlib.Core.Path.{◌≡◌}
use lib.Dec.{eqb}
use lib.ListN.{length, take, get_or}
use Rattle.plan.specs.Lists.{exists}
use Rattle.layout.specs.Arrays.{Marked}
use Rattle.layout.proofs.columns.mark_neighbours.Given as goal

abbrev pub invariant-loop-w : goal.invariant-loop-w
invariant-loop-w l = (length l.marks ≡ length l.initial.marks) × Marked l.j (λ i. exists (λ w. eqb i (get_or l.ordered.positions.now w 0)) (take l.w-index l.w-items)) l.initial.marks l.marks
