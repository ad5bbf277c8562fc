-- Demand 3 of any order whose parts are nested: its three statements over the columns as they are handed out.
use mathlib.Core.Path.{◌≡◌, sym, ap, ◌∙◌}
use mathlib.Core.Logic.{◌≢◌}
use mathlib.Core.Bool.{true}
use mathlib.Core.List.{List, ◌++◌, flatten}
use Prim.Native.Nat.{ℕ, ◌≤◌}
use native.Mathlib.Omega.{arith}
use lib.ListN.{length, get_or}
use Rattle.plan.specs.Lists.{is_in, total}
use Rattle.plan.specs.Mesh.{Mesh}
use Rattle.plan.specs.Elimination.{columns, starts_of}
use Rattle.plan.specs.Parts.{region_of_part, boundary, part_of, at_or_above, part_bound, boundary_size, bound}
use Rattle.plan.specs.Demand3.{Demand3}
use Rattle.theory.specs.Counting.{Order}
use Rattle.theory.specs.Checked.{Symmetric}
use Rattle.theory.specs.Rows.{edge_at, is_row}
use Rattle.theory.specs.PartTree.{PartTree, Nested, boundary_count}
use Rattle.theory.proofs.Ranges.{map_ext_up_from}
use Rattle.theory.proofs.Orders.{order-length}
use Rattle.theory.proofs.Via.{Via, joined_via}
use Rattle.theory.proofs.Columns.{edge-mirror, row_fact}
use Rattle.theory.proofs.PathTheorem.{row-path}
use Rattle.theory.proofs.NestedRows.{row_above, row-borders}
use Rattle.theory.proofs.Bound.{rows-bounded}
use Rattle.theory.proofs.Boundary.{in_boundary, boundary_size_lem}
use Rattle.theory.proofs.Slots.{slot_row, slots-last, slots_counted}

module _ (m : Mesh) (order sizes parents : List ℕ) (symmetric : Symmetric m) (once : Order m.nodes order)
    (tree : PartTree m.nodes sizes parents) (nested : Nested m.nodes (edge_at m order) sizes parents) where
  -- a row is joined to its column by a path over earlier positions
  row_via : (i j : ℕ) → is_row m order i j ≡ true → Via (edge_at m order) j j i
  row_via i j h = joined_via (edge_at m order) (edge-mirror m order symmetric) j j i (row_fact m order i j h).1.joined

  -- "i lies in j's own part or a forefather of it"
  pub row-nested : (i j : ℕ) → is_row m order i j ≡ true → at_or_above parents (part_of sizes j) (part_of sizes i) ≡ true
  row-nested i j h =
      let r = row_fact m order i j h in
      row_above m.nodes (edge_at m order) sizes parents tree (edge-mirror m order symmetric) nested j i r.1.later r.0 (row_via i j h)

  -- a row outside the column's part is a node bordering the part's region
  pub row_in_boundary : (i j : ℕ) → is_row m order i j ≡ true → part_of sizes i ≢ part_of sizes j
      → is_in (get_or order i 0) (boundary m (region_of_part order sizes parents (part_of sizes j))) ≡ true
  row_in_boundary i j h other =
      let r = row_fact m order i j h in
      in_boundary m order sizes parents once (part_of sizes j) i r.0
      (row-borders m.nodes (edge_at m order) sizes parents tree (edge-mirror m order symmetric) nested j i r.1.later r.0 (row_via i j h) other)

  -- "the plan's slots, all columns together, number at most the sum, over all its parts, of size × (nodes bordering the part's region) + size × (size
  -- − 1) / 2"
  pub slots-bounded : length (flatten (columns m order)) ≤ bound m order sizes parents
  unfolding bound
  slots-bounded =
      let byNodes : ℕ → ℕ = λ q. part_bound (get_or sizes q 0) (boundary_size m order sizes parents q) in
      let byPositions : ℕ → ℕ = λ q. part_bound (get_or sizes q 0) (boundary_count m.nodes (edge_at m order) sizes parents q) in
      omega (
        arith,
        slots_counted m order,
        rows-bounded m.nodes (edge_at m order) sizes parents tree (edge-mirror m order symmetric) nested (is_row m order) (λ i j l h t. row_via i j t),
        ap total (map_ext_up_from byNodes byPositions (length sizes) 0 (λ q l h. ap (part_bound (get_or sizes q 0)) (boundary_size_lem m order sizes parents once q))),
      )

  -- demand 3, whatever stands in the buffers behind the column starts and the rows
  pub nested-demand3 : (more rest : List ℕ) → Demand3 m order sizes parents (starts_of (columns m order) ++ more) (flatten (columns m order) ++ rest)
  nested-demand3 more rest = record {
    paths = λ i j li lj. rw (slot_row m order more rest i j lj) (row-path m order symmetric (order-length m.nodes order once) i j li lj);
    nested = λ i j li lj h. row-nested i j (sym (slot_row m order more rest i j lj) ∙ h);
    bounded = omega (arith, slots-last m order more, slots-bounded);
  }
