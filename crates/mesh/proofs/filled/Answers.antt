-- `mesh::filled` meets its contract: the array is one number over and over.
use mathlib.Core.Path.{refl}
use Rattle.mesh.specs.Lists.{filled_with}
use Rattle.mesh.proofs.Lists.{filled-length}
use Rattle.mesh.proofs.filled.Goals as goal

pub returns : goal.returns
unfolding filled_with
returns c = (refl, filled-length c.args.x)
