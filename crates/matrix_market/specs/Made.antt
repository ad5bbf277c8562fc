-- The checks of a mesh that is made, 1, 3, 26 and 8, in two halves: those that need its counts alone, and those that follow when its lists are known.
use Rattle.std.specs.Prelude.{take, drop, Result}
use Rattle.plan.specs.declared.MeshCounts.{MeshCounts}
use Rattle.plan.specs.declared.refusal.Refusal.{Refusal}
use Rattle.plan.specs.Refusals.{Checks, first_fault}
use Rattle.plan.specs.Mesh.{Mesh}
use Rattle.plan.specs.MadeMesh.{MeshBuffers, MeshCapacity, mesh_capacity, made_checks, hand_mesh, MeshFilled}

unfoldable pub size_checks : Mesh → MeshCapacity → Checks
size_checks m room = take 2 (made_checks m room)

unfoldable pub list_checks : Mesh → MeshCapacity → Checks
list_checks m room = drop 2 (made_checks m room)

-- the answer and the buffers, of a mesh that has passed the first half
abbrev pub ListsHanded : Mesh → Result MeshCounts Refusal → MeshBuffers → MeshBuffers → Type 0
ListsHanded m answer found left = MeshFilled (hand_mesh (first_fault (list_checks m (mesh_capacity found))) m) answer found left
