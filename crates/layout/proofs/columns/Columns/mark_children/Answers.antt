-- `layout::columns::Columns::mark_children` meets its contract: the loop walks from child to child and marks the rows of each.
use mathlib.Core.Path.{◌≡◌, sym, ap, ◌∙◌}
use Prim.Native.Nat.{ℕ, ◌<◌}
use native.Mathlib.Omega.{arith}
use lib.ListN.{get_or}
use Rattle.plan.specs.Lists.{is_in, list_at}
use Rattle.layout.specs.Arrays.{child_below, child_row}
use Rattle.layout.proofs.Children.{way_down, walked_child, walked_more, walked_end}
use Rattle.layout.proofs.columns.Columns.mark_children.Goals.{In-loop-c}
use Rattle.layout.proofs.columns.Columns.mark_children.Goals as goal

-- the child that is met
child : (c : In-loop-c) → (c.loop-c.c < c.args.self.now.ordered.mesh.nodes) × (get_or c.args.self.now.tree.now c.loop-c.c 0 ≡ c.args.j)
child c = walked_child c.args.self.now.ordered.mesh.nodes c.args.self.now.tree.now (list_at c.args.self.now.column_starts.now c.args.rows.now) c.args.j c.args.marks.now c.loop-c.marks c.loop-c.c c.loop-c.invariant.1 c.loop-c-test.true

-- the next one
next_child : (c : In-loop-c) → get_or c.args.self.now.next.now c.loop-c.c 0 ≡ child_below c.args.self.now.tree.now c.args.j c.loop-c.c
next_child c =
    let here = child c in
    let lt : get_or c.args.self.now.tree.now c.loop-c.c 0 < c.args.self.now.ordered.mesh.nodes = omega (arith, here.1) in
    c.args.self.now.children.next c.loop-c.c here.0 lt
    ∙ ap (λ (p : ℕ). child_below c.args.self.now.tree.now p c.loop-c.c) here.1

pub list-requires : goal.list-requires
list-requires c =
    let here = child (goal.at.list-requires c).In-loop-c in
    (c.requires.by_index c.loop-c.c here.0 here.1).0

pub mark_rows-requires : goal.mark_rows-requires
mark_rows-requires c i m =
    let here = child (goal.at.mark_rows-requires c).In-loop-c in
    omega (arith, c.loop-c.invariant.0, (c.requires.by_index c.loop-c.c here.0 here.1).1 i (ap (is_in i) (sym c.list.ensures) ∙ m))

pub loop-c-smaller : goal.loop-c-smaller
loop-c-smaller c = rw (next_child (goal.at.loop-c-smaller c).In-loop-c) (way_down c.args.self.now.tree.now c.args.j c.loop-c.c c.loop-c-test.true)

pub loop-c-preserved : goal.loop-c-preserved
loop-c-preserved c = (
  c.mark_rows.auto.marks ∙ c.loop-c.invariant.0,
  walked_more c.args.self.now.ordered.mesh.nodes c.args.self.now.tree.now (list_at c.args.self.now.column_starts.now c.args.rows.now) c.args.j c.args.marks.now c.loop-c.marks c.loop-c.c c.loop-c.invariant.1
      c.mark_rows.new.marks (get_or c.args.self.now.next.now c.loop-c.c 0) c.loop-c-test.true
      (λ i. rw (← c.list.ensures) (c.mark_rows.ensures i)) (next_child (goal.at.loop-c-preserved c).In-loop-c),
)

pub returns : goal.returns
unfolding child_row
returns c = walked_end c.args.self.now.ordered.mesh.nodes c.args.self.now.tree.now (list_at c.args.self.now.column_starts.now c.args.rows.now) c.args.j c.args.marks.now c.loop-c.marks c.loop-c.c c.loop-c.invariant.1 c.loop-c-test.false (omega arith)

pub bounds-self-c : goal.bounds-self-c
bounds-self-c c =
    let h = child (goal.at.bounds-self-c c).In-loop-c in
    omega (arith, c.args.self.now.children.next_room)
