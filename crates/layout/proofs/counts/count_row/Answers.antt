-- `layout::counts::count_row` meets its contract: the loop climbs from each neighbour of the node at position i, and with them all columns
-- that have row i are counted.
use mathlib.Core.Path.{◌≡◌, refl, sym, ap, ◌∙◌}
use mathlib.Core.Logic.{inl, inr}
use mathlib.Core.Bool.{true}
use mathlib.Core.List.{List}
use Prim.Native.Nat.{ℕ, ◌<◌}
use native.Mathlib.Omega.{arith}
use borrow.Author.Rules.{rules}
use lib.ListN.{length, get_or, length-set}
use Rattle.plan.specs.Mesh.{neighbours_of}
use Rattle.mesh.specs.Lent.{as_lent}
use Rattle.theory.specs.Rows.{is_row}
use Rattle.theory.proofs.Bools.{eq_or_ne}
use Rattle.mesh.proofs.Lists.{entry_node}
use Rattle.layout.specs.Climbing.{Climbable}
use Rattle.layout.proofs.Climbing.{climbing-start, climbing-end, entry_row, entries-all}
use Rattle.layout.proofs.counts.count_row.Goals.{In-loop-w}
use Rattle.layout.proofs.counts.count_row.Goals as goal

pub loop-w-init : goal.loop-w-init
loop-w-init c =
    record {
      near = c.neighbours-w-items.ensures;
      climbing = climbing-start (as_lent c.args.ordered.now.mesh) c.args.ordered.now.order.now c.args.i c.requires.inside.0 c.args.tree.now c.args.marks.now c.args.counts.now _ (omega arith) (omega arith) c.requires.counted.0 c.requires.counted.1;
      reached = λ p h. absurd (omega arith);
      low = search rules;
      long_tree = refl;
      long_marks = refl;
      long_counts = refl;
      rest_tree = refl;
      rest_counts = refl;
    }

-- what a neighbour's position is
placed : (c : In-loop-w) → (get_or c.neighbours-w-items.result.now c.loop-w.w-index 0 < c.args.ordered.now.mesh.nodes)
    × (get_or c.args.ordered.now.positions.now (get_or c.neighbours-w-items.result.now c.loop-w.w-index 0) 0 < c.args.i → is_row (as_lent c.args.ordered.now.mesh) c.args.ordered.now.order.now c.args.i (get_or c.args.ordered.now.positions.now (get_or c.neighbours-w-items.result.now c.loop-w.w-index 0) 0) ≡ true)
placed c =
    let lt : c.loop-w.w-index < length (neighbours_of (as_lent c.args.ordered.now.mesh) (get_or c.args.ordered.now.order.now c.args.i 0)) = omega (arith, ap length c.loop-w.invariant.near) in
    rw c.loop-w.invariant.near (
      entry_node (as_lent c.args.ordered.now.mesh) c.args.ordered.now.ordered.checked (get_or c.args.ordered.now.order.now c.args.i 0) c.loop-w.w-index lt,
      entry_row (as_lent c.args.ordered.now.mesh) c.args.ordered.now.order.now c.args.ordered.now.positions.now c.args.ordered.now.ordered c.args.i c.requires.inside.0 c.loop-w.w-index lt,
    )

pub bounds-ordered-w : goal.bounds-ordered-w
bounds-ordered-w c = omega (arith, (placed (goal.at.bounds-ordered-w c).In-loop-w).0)

-- the climb from it
able : (c : In-loop-w) → Climbable c.args.i (get_or c.args.ordered.now.positions.now (get_or c.neighbours-w-items.result.now c.loop-w.w-index 0) 0) c.loop-w.tree c.loop-w.marks c.loop-w.counts
able c =
    record {
      mesh = (as_lent c.args.ordered.now.mesh);
      order = c.args.ordered.now.order.now;
      few = c.args.ordered.now.ordered.checked.few;
      inside = c.requires.inside.0;
      room_tree = omega arith;
      room_marks = omega (arith, length-set c.args.marks.now c.args.i c.args.i);
      room_counts = omega arith;
      climbing = c.loop-w.invariant.climbing;
      row = (placed c).1;
    }

pub climb-requires : goal.climb-requires
climb-requires c = able (goal.at.climb-requires c).In-loop-w

pub loop-w-preserved : goal.loop-w-preserved
unfolding able
loop-w-preserved c =
    let t = c.climb.ensures (able (goal.at.loop-w-preserved c).In-loop-w) in
    let entries : List ℕ = c.neighbours-w-items.result.now in
    record {
      near = c.loop-w.invariant.near;
      climbing = t.climbing;
      reached = λ p h lt. elim (eq_or_ne p c.loop-w.w-index) [
        | inl e ↦
            let q : get_or entries c.loop-w.w-index 0 ≡ get_or entries p 0 = ap (λ (x : ℕ). get_or entries x 0) (sym e) in
            rw (← q) (t.reached (rw (← q) at lt))
        | inr e ↦ t.kept _ (c.loop-w.invariant.reached p (omega (arith, e)) lt)
      ];
      low = search rules;
      long_tree = c.climb.auto.tree ∙ c.loop-w.invariant.long_tree;
      long_marks = c.climb.auto.marks ∙ c.loop-w.invariant.long_marks;
      long_counts = c.climb.auto.counts ∙ c.loop-w.invariant.long_counts;
      rest_tree = t.rest_tree ∙ c.loop-w.invariant.rest_tree;
      rest_counts = t.rest_counts ∙ c.loop-w.invariant.rest_counts;
    }

pub returns : goal.returns
returns c =
    record {
      counted = (
        climbing-end (as_lent c.args.ordered.now.mesh) c.args.ordered.now.order.now c.args.i c.requires.inside.0 c.loop-w.tree c.loop-w.marks c.loop-w.counts c.args.ordered.now.ordered.checked.symmetric c.loop-w.invariant.climbing
            (entries-all (as_lent c.args.ordered.now.mesh) c.args.ordered.now.order.now c.args.ordered.now.positions.now c.args.ordered.now.ordered c.args.i c.requires.inside.0 c.loop-w.marks
            (rw (← c.loop-w.invariant.near) (λ p h. c.loop-w.invariant.reached p (omega arith)))),
        c.loop-w.invariant.climbing.unmarked,
      );
      rest = (c.loop-w.invariant.rest_tree, c.loop-w.invariant.rest_counts);
    }
