-- Checks 3, 26 and 8 of the joined mesh, which need its lists, and what is handed out of a mesh that has passed those before.
use Rattle.std.specs.Prelude.{drop, Result}
use Rattle.plan.specs.declared.MeshCounts.{MeshCounts}
use Rattle.plan.specs.declared.refusal.Refusal.{Refusal}
use Rattle.plan.specs.Refusals.{Checks, first_fault}
use Rattle.plan.specs.Mesh.{Mesh}
use Rattle.plan.specs.MadeMesh.{MeshBuffers, MeshCapacity, mesh_capacity, made_checks, hand_mesh, MeshFilled}

unfoldable pub list_checks : Mesh → MeshCapacity → Checks
list_checks m room = drop 1 (made_checks m room)

-- the answer and the buffers
abbrev pub ListsHanded : Mesh → Result MeshCounts Refusal → MeshBuffers → MeshBuffers → Type 0
ListsHanded m answer found left = MeshFilled (hand_mesh (first_fault (list_checks m (mesh_capacity found))) m) answer found left
