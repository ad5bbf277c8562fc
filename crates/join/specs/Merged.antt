-- The lists and the mesh that two meshes of the code make, merged by where nodes go and come from.
use Rattle.std.specs.Prelude.{List, ℕ}
use Rattle.plan.specs.Mesh.{Mesh}
use Rattle.plan.specs.MadeMesh.{mesh_of}
use Rattle.mesh.specs.Lent.{as_lent}
use Rattle.join.specs.Lists.{merged_list, merged_lists}
use Rattle.join.specs.declared.lists.Merging.{Merging}

-- node v's list, and those of the first n nodes
abbrev pub list_of : Merging → ℕ → List ℕ
list_of m v = merged_list (as_lent m.first) (as_lent m.second) m.goes.now m.from.now v

abbrev pub lists_of : Merging → ℕ → List (List ℕ)
lists_of m n = merged_lists (as_lent m.first) (as_lent m.second) m.goes.now m.from.now n

abbrev pub made_by : Merging → Mesh
made_by m = mesh_of m.nodes (lists_of m m.nodes)
