-- `layout::columns::Columns::add` meets its contract: the marks tell column j's rows, which are written behind those of the columns before it.
use mathlib.Core.Path.{◌≡◌, sym, ap, ◌∙◌}
use mathlib.Core.Bool.{true}
use mathlib.Core.List.{List}
use Prim.Native.Nat.{ℕ, ◌+◌, ◌-◌, ◌*◌, ◌^◌, ◌≤◌, ◌<◌}
use native.Mathlib.Omega.{arith}
use lib.ListN.{length, take, drop, get_or, length-take, length-drop}
use Rattle.plan.specs.Lists.{is_in, list_at, written}
use Rattle.plan.specs.Mesh.{max_nodes}
use Rattle.mesh.specs.Lent.{as_lent}
use Rattle.plan.specs.Elimination.{column}
use Rattle.theory.specs.Rows.{is_row}
use Rattle.theory.proofs.EliminationTree.{row_range}
use Rattle.layout.specs.Arrays.{rows_before}
use Rattle.theory.proofs.Written.{written_grow}
use Rattle.layout.proofs.Grown.{rows_more, starts-long, start_at, start-next, column-found, column-within}
use Rattle.layout.proofs.Rows.{Listed, child_column, Marking, still_unmarked, marked_column, marked_meets}
use Rattle.layout.proofs.columns.Columns.add.Goals.{Start, After-mark_children}
use Rattle.layout.proofs.columns.Columns.add.Goals as goal

-- the columns before j are found in the rows
listed : (c : Start) → Listed (as_lent c.args.self.now.ordered.mesh) c.args.self.now.ordered.order.now c.args.self.now.column_starts.now c.args.rows.now c.args.j
listed c c' lt = column-found (as_lent c.args.self.now.ordered.mesh) c.args.self.now.ordered.order.now c.args.self.now.column_starts.now c.args.self.now.starts c.args.rows.now c.args.j c' (omega arith) lt c.requires.before.2

-- where column j starts and ends
bounds : (c : Start) → let a : ℕ = get_or c.args.self.now.column_starts.now c.args.j 0 in
    let e : ℕ = get_or c.args.self.now.column_starts.now (c.args.j + 1) 0 in
    (c.args.self.now.ordered.mesh.nodes ≤ max_nodes) × (c.args.self.now.ordered.mesh.nodes < length c.args.self.now.column_starts.now) × (a ≡ length (rows_before (as_lent c.args.self.now.ordered.mesh) c.args.self.now.ordered.order.now c.args.j)) × (e ≡ a + length (column (as_lent c.args.self.now.ordered.mesh) c.args.self.now.ordered.order.now c.args.j)) × (e ≤ length c.args.rows.now)
bounds c =
    let m = (as_lent c.args.self.now.ordered.mesh) in (
      c.args.self.now.ordered.ordered.checked.few,
      starts-long m c.args.self.now.ordered.order.now c.args.self.now.column_starts.now c.args.self.now.starts,
      start_at m c.args.self.now.ordered.order.now c.args.self.now.column_starts.now c.args.self.now.starts c.args.j (omega arith),
      start-next m c.args.self.now.ordered.order.now c.args.self.now.column_starts.now c.args.self.now.starts c.args.j c.requires.inside.0,
      (column-within m c.args.self.now.ordered.order.now c.args.self.now.column_starts.now c.args.self.now.starts c.args.rows.now c.requires.inside.1 c.args.j c.requires.inside.0).ended,
    )

-- with both, the column is marked
marking : (c : After-mark_children) → Marking (as_lent c.args.self.now.ordered.mesh) c.args.self.now.ordered.order.now c.args.self.now.ordered.positions.now c.args.self.now.tree.now c.args.self.now.column_starts.now c.args.rows.now c.args.j c.args.marks.now c.mark_neighbours.new.marks c.mark_children.new.marks
marking c =
    record {
      ordered = c.args.self.now.ordered.ordered;
      parents = c.args.self.now.parents.1;
      few = omega (arith, c.args.self.now.ordered.ordered.checked.few);
      inside = c.requires.inside.0;
      listed = λ k lt. column-found (as_lent c.args.self.now.ordered.mesh) c.args.self.now.ordered.order.now c.args.self.now.column_starts.now c.args.self.now.starts c.args.rows.now c.args.j k (omega arith) lt c.requires.before.2;
      clear = c.requires.before.1;
      neighbours = c.mark_neighbours.ensures;
      children = c.mark_children.ensures;
    }

-- a row of a child is a position
inside : (c : Start) (k : ℕ) → k < c.args.self.now.ordered.mesh.nodes → get_or c.args.self.now.tree.now k 0 ≡ c.args.j → (i : ℕ) → is_in i (list_at c.args.self.now.column_starts.now c.args.rows.now k) ≡ true → i < c.args.self.now.ordered.mesh.nodes
unfolding is_row
inside c k lk e i h =
    let f = child_column (as_lent c.args.self.now.ordered.mesh) c.args.self.now.ordered.order.now c.args.self.now.tree.now c.args.self.now.parents.1 (omega (arith, c.args.self.now.ordered.ordered.checked.few)) c.args.j c.requires.inside.0 k lk e in
    (row_range (as_lent c.args.self.now.ordered.mesh) c.args.self.now.ordered.order.now i k (ap (is_in i) (sym (listed c k f.1)) ∙ h)).1

pub mark_children-requires : goal.mark_children-requires
mark_children-requires c =
    record {
      inside = c.requires.inside.0;
      by_index = λ k lk e. (
        column-within (as_lent c.args.self.now.ordered.mesh) c.args.self.now.ordered.order.now c.args.self.now.column_starts.now c.args.self.now.starts c.args.rows.now c.requires.inside.1 k lk,
        λ i h. omega (arith, inside (goal.at.mark_children-requires c).Start k lk e i h, c.requires.before.0, c.mark_neighbours.auto.marks),
      );
    }

pub write_column-requires : goal.write_column-requires
write_column-requires c =
    let b = bounds (goal.at.write_column-requires c).Start in
    let count : get_or c.args.self.now.column_starts.now (c.args.j + 1) 0 - get_or c.args.self.now.column_starts.now c.args.j 0 ≡ length (column (as_lent c.args.self.now.ordered.mesh) c.args.self.now.ordered.order.now c.args.j) = omega (arith, b) in record {
      n_le_max_nodes = (b.0, c.requires.inside.0, c.args.self.now.parents.0, omega (arith, c.requires.before.0, c.mark_children.auto.marks, c.mark_neighbours.auto.marks), marked_meets (marking (goal.at.write_column-requires c).After-mark_children));
      count_value = (count ∙ sym (ap length (marked_column (marking (goal.at.write_column-requires c).After-mark_children))), simp (length-take, length-drop) (omega (arith, b, count)));
    }

pub returns : goal.returns
returns c = (
  still_unmarked (marking (goal.at.returns c).After-mark_children),
  rw (rows_more (as_lent c.args.self.now.ordered.mesh) c.args.self.now.ordered.order.now c.args.j)
      (written_grow c.args.rows.now c.args.rows.now (rows_before (as_lent c.args.self.now.ordered.mesh) c.args.self.now.ordered.order.now c.args.j) (column (as_lent c.args.self.now.ordered.mesh) c.args.self.now.ordered.order.now c.args.j) c.write_column.new.rows (get_or c.args.self.now.column_starts.now c.args.j 0) c.requires.before.2
      (bounds (goal.at.returns c).Start).2 (c.write_column.ensures ∙ ap (λ (l : List ℕ). written l (take (length c.args.rows.now - get_or c.args.self.now.column_starts.now c.args.j 0) (drop (get_or c.args.self.now.column_starts.now c.args.j 0) c.args.rows.now))) (marked_column (marking (goal.at.returns c).After-mark_children)))),
)

pub bounds-self-j : goal.bounds-self-j
bounds-self-j c = let b = bounds (goal.at.bounds-self-j c).Start in omega arith

pub bounds-self-j-2 : goal.bounds-self-j-2
bounds-self-j-2 c = let b = bounds (goal.at.bounds-self-j-2 c).Start in omega arith

pub overflow_sub-e : goal.overflow_sub-e
overflow_sub-e c = let b = bounds (goal.at.overflow_sub-e c).Start in omega (arith)

pub slice_bounds-write_column-count : goal.slice_bounds-write_column-count
slice_bounds-write_column-count c = let b = bounds (goal.at.slice_bounds-write_column-count c).Start in omega arith

pub slice_bounds-write_column-start : goal.slice_bounds-write_column-start
slice_bounds-write_column-start c = let b = bounds (goal.at.slice_bounds-write_column-start c).Start in omega arith
