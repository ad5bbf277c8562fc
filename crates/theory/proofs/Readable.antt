-- What planning hands out passes checks 15 to 19 of reading, and 13's limits on n, p and s.
use mathlib.Core.Path.{◌≡◌, sym, ap, ◌∙◌}
use mathlib.Core.Bool.{false, not}
use mathlib.Core.List.{List, [], append-nil}
use Prim.Native.Nat.{ℕ, ◌-◌, ◌*◌, ◌/◌, ◌<◌}
use native.Mathlib.Omega.{arith}
use lib.ListN.{get_or}
use borrow.Author.Tests.{eq-eqb, ne_eqb, le-ltb}
use Rattle.plan.specs.Lists.{below, is_in, list_at}
use Rattle.plan.specs.Refusals.{first_fault}
use Rattle.plan.specs.Mesh.{max_nodes, Mesh, adjacent, mesh_checks, bad_node_count}
use Rattle.plan.specs.Choice.{george_liu}
use Rattle.plan.specs.Elimination.{column}
use Rattle.plan.specs.Parts.{part_of, at_or_above}
use Rattle.plan.specs.Planning.{Contents, plan_by, plan_of}
use Rattle.plan.specs.File.{bad_header, bad_order, bad_parts, bad_rows, outside_ancestors, not_nested, covered, not_covered, contents_checks}
use Rattle.theory.specs.Regions.{Takes}
use Rattle.theory.specs.Checked.{Checked}
use Rattle.theory.specs.Rows.{is_row}
use Rattle.theory.specs.PartTree.{PartTree}
use Rattle.theory.proofs.Lists.{none-exists}
use Rattle.theory.proofs.Ranges.{is_in-below}
use Rattle.theory.proofs.Sums.{total-some}
use Rattle.theory.proofs.Checked.{checked}
use Rattle.theory.proofs.Orders.{order-passes}
use Rattle.theory.proofs.PartChecks.{tree-passes}
use Rattle.theory.proofs.Dissection.{parts-few}
use Rattle.theory.proofs.Slots.{column_at, slots-last, slots-few}
use Rattle.theory.proofs.Eliminated.{columns-starts, columns-good, column-covered}
use Rattle.theory.proofs.Demand3.{row-nested}
use Rattle.theory.proofs.Choice.{george_liu_takes}
use Rattle.theory.proofs.Planned.{plan_with, plan-sizes, plan-once, plan-tree, plan-nested}

-- ---- by any choice that takes a non-empty part from each region

module _ (u : ℕ) (m : Mesh) (choose : List ℕ → List ℕ) (takes : Takes (adjacent m) choose) (good : Checked m) where
  abbrev plan : Contents
  plan = plan_with u m choose

  tree : PartTree m.nodes plan.sizes plan.parents
  tree = plan-tree u m choose takes

  -- 13: n is 1 to 4,096, p is 1 to n, s is at most n(n − 1)/2
  plan-header-good : bad_header plan ≡ false
  unfolding bad_header bad_node_count plan_by
  plan-header-good =
      let n : ℕ = m.nodes in
      let p : ℕ = plan.parts in
      let some : 0 < p = omega (arith, total-some plan.sizes (omega (arith, tree.whole, good.some)), plan-sizes u m choose) in
      rw (ne_eqb n 0 (λ e. omega (arith, good.some)), le-ltb max_nodes n good.few, ne_eqb p 0 (λ e. omega arith), le-ltb n p (parts-few (adjacent m) choose takes n))
      (le-ltb (n * (n - 1) / 2) plan.slots (slots-few m plan.order))

  -- 15: the order is each node once
  plan-order-good : bad_order plan ≡ false
  unfolding bad_order plan_by
  plan-order-good = ap not (order-passes m.nodes plan.order (plan-once u m choose takes))

  -- 16: the sizes are positive and sum to n, a father is 65,535 or a later part below p
  plan-parts-good : bad_parts plan ≡ false
  unfolding plan_by
  plan-parts-good = tree-passes plan (plan-sizes u m choose) tree

  -- 17: the counts sum to s, a column's rows are strictly ascending, above the column and below n
  plan-rows-good : bad_rows plan ≡ false
  unfolding bad_rows plan_by
  plan-rows-good =
      let last : get_or plan.column_starts m.nodes 0 ≡ plan.slots = simp append-nil at (slots-last m plan.order []) in
      rw (columns-starts m plan.order, eq-eqb (get_or plan.column_starts m.nodes 0) plan.slots last) (columns-good m plan.order)

  -- 18: each row lies in its column's part or a forefather of that part
  plan-nested-good : not_nested plan ≡ false
  unfolding not_nested outside_ancestors plan_by is_row
  plan-nested-good = none-exists (λ j. outside_ancestors plan.sizes plan.parents j (list_at plan.column_starts plan.rows j)) (below m.nodes) (λ j h.
      let at : list_at plan.column_starts plan.rows j ≡ column m plan.order j = column_at m plan.order j (is_in-below m.nodes j h) in
      none-exists (λ i. not (at_or_above plan.parents (part_of plan.sizes j) (part_of plan.sizes i))) (list_at plan.column_starts plan.rows j) (λ i t.
      ap not (row-nested m plan.order plan.sizes plan.parents good.symmetric (plan-once u m choose takes) tree (plan-nested u m choose takes good) i j
      (ap (is_in i) (sym at) ∙ t))))

  -- 19: a column's rows after its first are all in the first row's column
  plan-covered-good : not_covered plan ≡ false
  unfolding not_covered plan_by
  plan-covered-good =
      none-exists (λ j. not (covered plan.column_starts plan.rows (list_at plan.column_starts plan.rows j))) (below m.nodes)
      (λ j h. ap not (column-covered m plan.order j (is_in-below m.nodes j h)))

  -- 15 to 19
  plan_readable : first_fault (contents_checks plan) ≡ 0
  unfolding contents_checks first_fault
  plan_readable = rw (plan-order-good, plan-parts-good, plan-rows-good, plan-nested-good, plan-covered-good)

-- ---- by George and Liu's choice, of a mesh that passes its checks

-- 13: n, p and s are within their limits
pub planned-header : (u : ℕ) (m : Mesh) → first_fault (mesh_checks m) ≡ 0 → bad_header (plan_of u m) ≡ false
unfolding plan_of
planned-header u m passes = plan-header-good u m (george_liu m) (george_liu_takes m) (checked m passes)

-- 15 to 19
pub planned_readable : (u : ℕ) (m : Mesh) → first_fault (mesh_checks m) ≡ 0 → first_fault (contents_checks (plan_of u m)) ≡ 0
unfolding plan_of
planned_readable u m passes = plan_readable u m (george_liu m) (george_liu_takes m) (checked m passes)
