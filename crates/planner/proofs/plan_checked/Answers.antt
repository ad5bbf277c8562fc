-- `planner::plan_checked` meets its contract: the slots are counted, and where they find room the dissection and its columns are written.
use mathlib.Core.Path.{◌≡◌, ◌∙◌}
use mathlib.Core.List.{map, flatten}
use Rattle.std.specs.Prelude.{Ok}
use Prim.Native.Nat.{◌≤◌}
use native.Mathlib.Omega.{arith}
use lib.ListN.{length, take}
use Rattle.plan.specs.Elimination.{columns}
use Rattle.plan.specs.Planning.{plan_of, hand_out, fill, buffers}
use Rattle.theory.specs.Checked.{Checked}
use Rattle.theory.proofs.Fitting.{unknowns_limits}
use Rattle.theory.proofs.Handed.{Room, enough_room, lengths_of}
use Rattle.mesh.specs.Lent.{as_lent}
use Rattle.dissection.specs.Blocks.{Dissected}
use Rattle.dissection.proofs.Heads.{dissected_parts}
use Rattle.planner.proofs.Planning.{dissected_order, parts_within, held_plan, held-slots, counted_slots, held-reply, checked_refused, checked-accepted}
use Rattle.planner.proofs.plan_checked.Goals.{After-dissect-d, After-sum-totals}
use Rattle.planner.proofs.plan_checked.Goals as goal

-- the mesh passed its checks
good : (c : After-dissect-d) → Checked (as_lent c.args.mesh.now)
good c = c.args.mesh.now.checked

-- the mesh passed its checks
good_at_after_sum_totals : (c : After-sum-totals) → Checked (as_lent c.args.mesh.now)
good_at_after_sum_totals c = c.args.mesh.now.checked

-- the arrays hold its dissection
dissected : (c : After-dissect-d) → Dissected (as_lent c.args.mesh.now) c.dissect-d.result.order c.dissect-d.result.heads c.dissect-d.result.left c.dissect-d.result.parts
dissected c = c.dissect-d.ensures

-- the arrays hold its dissection
dissected_at_after_sum_totals : (c : After-sum-totals) → Dissected (as_lent c.args.mesh.now) c.dissect-d.result.order c.dissect-d.result.heads c.dissect-d.result.left c.dissect-d.result.parts
dissected_at_after_sum_totals c = c.dissect-d.ensures

-- the buffers passed check 8
room : (c : After-dissect-d) → Room (as_lent c.args.mesh.now).nodes (lengths_of (buffers c.args.order.now c.args.positions.now c.args.sizes.now c.args.parents.now c.args.column_starts.now c.args.rows.now))
room c = enough_room (as_lent c.args.mesh.now).nodes (lengths_of (buffers c.args.order.now c.args.positions.now c.args.sizes.now c.args.parents.now c.args.column_starts.now c.args.rows.now)) c.requires.long_enough

-- ---- the columns are counted
-- the order's array has a place for each node
held_long : (c : After-dissect-d) → (as_lent c.args.mesh.now).nodes ≤ length c.dissect-d.result.order
held_long c = omega (arith, (good c).few, (dissected c).order_long)

pub count_columns-requires : goal.count_columns-requires
count_columns-requires c =
    let few = (good (goal.at.count_columns-requires c).After-dissect-d).few in record {
      ordered = (dissected_order (as_lent c.args.mesh.now) c.dissect-d.result.order c.dissect-d.result.heads c.dissect-d.result.parts (dissected (goal.at.count_columns-requires c).After-dissect-d));
      n_in_bounds = (omega (arith, few, c.filled-tree.ensures.1), omega (arith, few, c.filled-counts.ensures.1));
    }

-- the counts are those of the columns
counts : (c : After-sum-totals) → take (as_lent c.args.mesh.now).nodes c.count_columns.new.counts ≡ map length (columns (as_lent c.args.mesh.now) (take (as_lent c.args.mesh.now).nodes c.dissect-d.result.order))
counts c = c.count_columns.ensures.0

-- the tree's array and the counts' are long enough
tree_long : (c : After-sum-totals) → (as_lent c.args.mesh.now).nodes ≤ length c.count_columns.new.tree
tree_long c = omega (arith, (good_at_after_sum_totals c).few, c.count_columns.auto.tree, c.filled-tree.ensures.1)

counts_long : (c : After-sum-totals) → (as_lent c.args.mesh.now).nodes ≤ length c.count_columns.new.counts
counts_long c = omega (arith, (good_at_after_sum_totals c).few, c.count_columns.auto.counts, c.filled-counts.ensures.1)

-- the slots are the plan's
slots : (c : After-sum-totals) → c.sum-totals.result.slots ≡ (plan_of c.args.unknowns (as_lent c.args.mesh.now)).slots
slots c = c.sum-totals.ensures.0 ∙ counted_slots c.args.unknowns (as_lent c.args.mesh.now) (good_at_after_sum_totals c) c.dissect-d.result.order c.dissect-d.result.heads c.dissect-d.result.parts (dissected_at_after_sum_totals c) _ (counts c)

pub returns-then-rows-slots : goal.returns-then-rows-slots
returns-then-rows-slots c = checked_refused c.args.unknowns (as_lent c.args.mesh.now) (buffers c.args.order.now c.args.positions.now c.args.sizes.now c.args.parents.now c.args.column_starts.now c.args.rows.now) (omega (arith, slots (goal.at.returns-then-rows-slots c).After-sum-totals, c.if-rows-slots.true))

-- ---- the plan is written
pub write_order-requires : goal.write_order-requires
write_order-requires c = (held_long (goal.at.write_order-requires c).After-dissect-d, omega (arith, (room (goal.at.write_order-requires c).After-dissect-d).order))

pub write_parts-requires : goal.write_parts-requires
write_parts-requires c =
    let few : c.dissect-d.result.parts ≤ (as_lent c.args.mesh.now).nodes = parts_within (as_lent c.args.mesh.now) c.dissect-d.result.order c.dissect-d.result.heads c.dissect-d.result.parts (dissected (goal.at.write_parts-requires c).After-dissect-d) in
    ((dissected (goal.at.write_parts-requires c).After-dissect-d).heads_long, (good (goal.at.write_parts-requires c).After-dissect-d).few, (dissected_parts (as_lent c.args.mesh.now) (good (goal.at.write_parts-requires c).After-dissect-d) c.dissect-d.result.order c.dissect-d.result.heads c.dissect-d.result.parts (dissected (goal.at.write_parts-requires c).After-dissect-d)).0, omega (arith, few, (room (goal.at.write_parts-requires c).After-dissect-d).sizes), omega (arith, few, (room (goal.at.write_parts-requires c).After-dissect-d).parents))

pub lay_out-requires : goal.lay_out-requires
lay_out-requires c =
    let fit : length (flatten (columns (as_lent c.args.mesh.now) (take (as_lent c.args.mesh.now).nodes c.dissect-d.result.order))) ≤ length (buffers c.args.order.now c.args.positions.now c.args.sizes.now c.args.parents.now c.args.column_starts.now c.args.rows.now).rows =
    omega (arith, held-slots c.args.unknowns (as_lent c.args.mesh.now) (good (goal.at.lay_out-requires c).After-dissect-d) c.dissect-d.result.order c.dissect-d.result.heads c.dissect-d.result.parts (dissected (goal.at.lay_out-requires c).After-dissect-d), slots (goal.at.lay_out-requires c).After-sum-totals, c.if-rows-slots.false) in record {
      ordered = (dissected_order (as_lent c.args.mesh.now) c.dissect-d.result.order c.dissect-d.result.heads c.dissect-d.result.parts (dissected (goal.at.lay_out-requires c).After-dissect-d), tree_long (goal.at.lay_out-requires c).After-sum-totals, c.count_columns.ensures.1);
      n_in_bounds = (counts_long (goal.at.lay_out-requires c).After-sum-totals, counts (goal.at.lay_out-requires c).After-sum-totals);
      n_in_bounds_2 = ((room (goal.at.lay_out-requires c).After-dissect-d).positions, (room (goal.at.lay_out-requires c).After-dissect-d).column_starts, fit);
    }

pub overflow_cast-mesh : goal.overflow_cast-mesh
overflow_cast-mesh c = omega (arith, (good (goal.at.overflow_cast-mesh c).After-dissect-d).few)

pub overflow_cast-count : goal.overflow_cast-count
overflow_cast-count c = omega (arith, (good (goal.at.overflow_cast-count c).After-dissect-d).few, parts_within (as_lent c.args.mesh.now) c.dissect-d.result.order c.dissect-d.result.heads c.dissect-d.result.parts (dissected (goal.at.overflow_cast-count c).After-dissect-d))

pub overflow_cast-unknowns : goal.overflow_cast-unknowns
overflow_cast-unknowns c = omega (arith, unknowns_limits c.args.unknowns c.requires.few_unknowns)

pub returns : goal.returns
unfolding hand_out fill held_plan
returns c =
    checked-accepted c.args.unknowns (as_lent c.args.mesh.now) (good (goal.at.returns c).After-dissect-d) c.dissect-d.result.order c.dissect-d.result.heads c.dissect-d.result.parts (dissected (goal.at.returns c).After-dissect-d) (Ok c.new.result) (buffers c.args.order.now c.args.positions.now c.args.sizes.now c.args.parents.now c.args.column_starts.now c.args.rows.now) _ (omega (arith, slots (goal.at.returns c).After-sum-totals, c.if-rows-slots.false))
    (record {
      reply = held-reply c.args.unknowns (as_lent c.args.mesh.now) c.dissect-d.result.order c.dissect-d.result.heads c.dissect-d.result.parts _ c.sum-totals.result.slots c.sum-totals.result.multiplications c.new.result (counts (goal.at.returns c).After-sum-totals) c.sum-totals.ensures.0 c.sum-totals.ensures.1 c.new.ensures;
      order = c.write_order.ensures;
      positions = c.lay_out.ensures.positions_after;
      sizes = c.write_parts.ensures.0;
      parents = c.write_parts.ensures.1;
      column_starts = c.lay_out.ensures.column_starts_after;
      rows = c.lay_out.ensures.rows_after;
    })

pub shape_of-order : goal.shape_of-order
shape_of-order c = c.write_order.auto.order
