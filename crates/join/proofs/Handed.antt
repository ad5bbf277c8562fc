-- What the lengths of the lists of a merging tell: what checks 3, 26 and 8 find, and what is handed out.
use mathlib.Core.Path.{◌≡◌, refl, sym, ap, ◌∙◌}
use mathlib.Core.List.{List, map}
use Prim.Native.Nat.{ℕ, ◌≤◌, ◌<◌}
use native.Mathlib.Omega.{arith}
use lib.Dec.{ltb}
use lib.ListN.{length, take}
use Rattle.std.specs.Prelude.{Err}
use Rattle.plan.specs.declared.refusal.Refusal.{Refusal}
use Rattle.plan.specs.Lists.{exists, total}
use Rattle.plan.specs.Refusals.{number_of, first_fault}
use Rattle.plan.specs.Mesh.{max_neighbours, Mesh, too_many_entries, list_too_long}
use Rattle.mesh.specs.Lent.{as_lent}
use Rattle.plan.specs.MadeMesh.{mesh_of, MeshBuffers, mesh_lengths, mesh_capacity, mesh_buffers_too_short, made_checks}
use Rattle.theory.proofs.Refusals.{no_fault}
use Rattle.theory.proofs.Compressed.{total-lengths}
use Rattle.theory.proofs.MadeMesh.{made-long}
use Rattle.theory.proofs.HandedMesh.{refused-mesh, mesh-fits}
use Rattle.join.specs.declared.lists.Merging.{Merging}
use Rattle.join.specs.Merged.{lists_of, made_by}
use Rattle.join.specs.Checks.{list_checks, ListsHanded}
use Rattle.join.proofs.MergedLists.{lists_many}

module _ (m : Merging) (found : MeshBuffers) (counts : List ℕ) (counted : take m.nodes counts ≡ map length (lists_of m m.nodes))
    (slots : ℕ) (summed : slots ≡ total (take m.nodes counts)) where
  -- the sum of the lengths is the number of entries
  pub entries_summed : slots ≡ length (made_by m).neighbours
  unfolding mesh_of
  entries_summed = summed ∙ ap total counted ∙ total-lengths (lists_of m m.nodes)

  -- so what the checks find of these numbers, they find of the joined mesh
  pub found_of_lists : (k : ℕ) → ((j : Mesh) → j.nodes ≡ m.nodes → length j.neighbours ≡ slots → list_too_long j ≡ exists (ltb max_neighbours) (take m.nodes counts)
      → k ≡ first_fault (list_checks j (mesh_lengths (length found.starts) (length found.neighbours)))) → k ≡ first_fault (list_checks (made_by m) (mesh_capacity found))
  unfolding mesh_of mesh_capacity
  found_of_lists k told =
      told (made_by m) refl (sym entries_summed)
      (made-long m.nodes (lists_of m m.nodes) (lists_many (as_lent m.first) (as_lent m.second) m.goes.now m.from.now m.nodes) ∙ ap (exists (ltb max_neighbours)) (sym counted))

module _ (m : Merging) (found : MeshBuffers) where
  -- of a fault its number, and the buffers as they were
  pub lists_refused : (r : Refusal) → number_of r ≡ first_fault (list_checks (made_by m) (mesh_capacity found)) → ListsHanded (made_by m) (Err r) found found
  lists_refused r h = rw (sym h) (refused-mesh (made_by m) found r)

  -- where there is none, the buffers have room
  pub lists_fit : 0 ≡ first_fault (list_checks (made_by m) (mesh_capacity found)) → (m.nodes < length found.starts) × (length (made_by m).neighbours ≤ length found.neighbours)
  unfolding list_checks made_checks mesh_of
  lists_fit none =
      let c3 = no_fault 3 (too_many_entries (made_by m)) _ (omega arith) (sym none) in
      let c26 = no_fault 26 (list_too_long (made_by m)) _ (omega arith) c3.1 in
      mesh-fits (made_by m) found (no_fault 8 (mesh_buffers_too_short (made_by m) (mesh_capacity found)) _ (omega arith) c26.1).0
