-- `mesh::LentMesh::check` meets its contract: a mesh of which no check found a fault is checked.
use Rattle.std.proofs.Common.{◌≡◌, rules}
use Rattle.plan.specs.Refusals.{first_fault}
use Rattle.plan.specs.Mesh.{mesh_checks}
use Rattle.theory.proofs.Checked.{checked}
use Rattle.mesh.specs.Lent.{lent_by}
use Rattle.mesh.proofs.lent.LentMesh.check.Goals.{Else-one_sided}
use Rattle.mesh.proofs.lent.LentMesh.check.Goals as goal

-- behind the last check there is no fault
passed : (c : Else-one_sided) → first_fault (mesh_checks (lent_by c.args.self.now)) ≡ 0
unfolding first_fault mesh_checks
passed c = search rules

pub invariant_of-result : goal.invariant_of-result
invariant_of-result c = record { checked = checked (lent_by c.args.self.now) (passed (goal.at.invariant_of-result c).Else-one_sided) }
