-- `layout::columns::mark_neighbours` meets its contract: the loop marks the position of each neighbour.
use mathlib.Core.Path.{◌≡◌}
use Prim.Native.Nat.{◌<◌}
use native.Mathlib.Omega.{arith}
use borrow.Author.Rules.{rules}
use lib.ListN.{length, get_or}
use lib.Seq.{take_all}
use Rattle.plan.specs.Mesh.{neighbours_of}
use Rattle.mesh.specs.Lent.{as_lent}
use Rattle.mesh.proofs.Lists.{listed_node}
use Rattle.layout.specs.Arrays.{neighbour_position}
use Rattle.layout.proofs.Inverse.{inverse_inside}
use Rattle.layout.proofs.Marks.{marked_more}
use Rattle.layout.proofs.columns.mark_neighbours.Goals.{Start, At-loop-w, In-loop-w}
use Rattle.layout.proofs.columns.mark_neighbours.Goals as goal

-- the entries are the neighbours of the node at position j
whole : (c : At-loop-w) → c.neighbours-w-items.result.now ≡ neighbours_of (as_lent c.args.ordered.now.mesh) (get_or c.args.ordered.now.order.now c.args.j 0)
whole c = c.neighbours-w-items.ensures

-- an entry is a node
known : (c : In-loop-w) → get_or c.neighbours-w-items.result.now c.loop-w.w-index 0 < c.args.ordered.now.mesh.nodes
known c = listed_node (as_lent c.args.ordered.now.mesh) c.args.ordered.now.ordered.checked (get_or c.args.ordered.now.order.now c.args.j 0) c.neighbours-w-items.result.now c.neighbours-w-items.ensures c.loop-w.w-index (omega arith)

-- its position is a place of the marks
inside : (c : In-loop-w) → get_or c.args.ordered.now.positions.now (get_or c.neighbours-w-items.result.now c.loop-w.w-index 0) 0 < length c.loop-w.marks
inside c =
    let lt = inverse_inside (as_lent c.args.ordered.now.mesh) c.args.ordered.now.order.now c.args.ordered.now.positions.now c.args.ordered.now.ordered (get_or c.neighbours-w-items.result.now c.loop-w.w-index 0) (known c) in
    omega (arith, lt)

pub loop-w-preserved : goal.loop-w-preserved
loop-w-preserved c = (
  search rules,
  marked_more c.args.j (λ w. get_or c.args.ordered.now.positions.now w 0) c.neighbours-w-items.result.now c.loop-w.w-index c.args.marks.now c.loop-w.marks (omega arith) (inside (goal.at.loop-w-preserved c).In-loop-w) c.loop-w.invariant.1,
)

pub returns : goal.returns
unfolding neighbour_position
returns c = rw (take_all c.loop-w.w-index c.neighbours-w-items.result.now (omega arith), whole (goal.at.returns c).At-loop-w) at c.loop-w.invariant.1

pub bounds-ordered-w : goal.bounds-ordered-w
bounds-ordered-w c = let h = known (goal.at.bounds-ordered-w c).In-loop-w in omega (arith, c.args.ordered.now.ordered.long)

pub bounds-marks-ordered : goal.bounds-marks-ordered
bounds-marks-ordered c = inside (goal.at.bounds-marks-ordered c).In-loop-w
