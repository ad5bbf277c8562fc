-- The book's mesh that a mesh of the code is, in each of its states: its numbers as lent.
use Rattle.plan.specs.Mesh.{Mesh, lent}
use Rattle.mesh.specs.declared.lent.LentMesh.{LentMesh}
use Rattle.mesh.specs.declared.listed.Listed.{Listed}
use Rattle.mesh.specs.declared.checked.CheckedMesh.{CheckedMesh}

-- as it is lent
abbrev pub lent_by : LentMesh → Mesh
lent_by m = lent m.nodes m.starts.now m.neighbours.now

-- behind checks 1 and 2
abbrev pub listed_by : Listed → Mesh
listed_by m = lent m.nodes m.starts.now m.neighbours.now

-- and behind all
abbrev pub as_lent : CheckedMesh → Mesh
as_lent m = lent m.nodes m.starts.now m.neighbours.now
