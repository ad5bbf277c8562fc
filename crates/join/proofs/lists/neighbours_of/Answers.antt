-- `join::lists::neighbours_of` meets its contract: past its nodes a mesh has no neighbours.
use mathlib.Core.Path.{sym}
use native.Mathlib.Omega.{arith}
use Rattle.theory.proofs.Checked.{list_out}
use Rattle.mesh.specs.Lent.{as_lent}
use Rattle.join.proofs.lists.neighbours_of.Goals as goal

pub returns-else-v-mesh : goal.returns-else-v-mesh
returns-else-v-mesh c = sym (list_out (as_lent c.args.mesh.now) c.args.v c.args.mesh.now.checked.starts.many (omega arith))
