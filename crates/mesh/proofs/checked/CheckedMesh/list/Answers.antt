-- `mesh::CheckedMesh::list` meets its contract: the list lies within the entries.
use Rattle.mesh.specs.Lent.{as_lent}
use Rattle.mesh.proofs.Lists.{checked-within}
use Rattle.mesh.proofs.checked.CheckedMesh.list.Goals as goal

pub list-requires : goal.list-requires
list-requires c = checked-within (as_lent c.args.self.now) c.args.self.now.checked c.args.v c.requires
