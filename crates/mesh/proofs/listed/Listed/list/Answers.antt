-- `mesh::Listed::list` meets its contract: the list lies within the entries.
use Rattle.mesh.specs.Lent.{listed_by}
use Rattle.mesh.proofs.Lists.{list_within}
use Rattle.mesh.proofs.listed.Listed.list.Goals as goal

pub list-requires : goal.list-requires
list-requires c = list_within (listed_by c.args.self.now) c.args.self.now.started c.args.v c.requires
