-- `mesh::bad_node_count` meets its contract: the two tests are those of `bad_node_count`.
use borrow.Author.Tests.{eq-eqb, ne_eqb}
use Rattle.plan.specs.Mesh.{bad_node_count}
use Rattle.mesh.proofs.bad_node_count.Goals as goal

pub returns-then-n-eq0 : goal.returns-then-n-eq0
unfolding bad_node_count
returns-then-n-eq0 c = simp (eq-eqb _ _ c.if-n-eq0.true)

pub returns-else-n-eq0 : goal.returns-else-n-eq0
unfolding bad_node_count
returns-else-n-eq0 c = simp (ne_eqb _ _ c.if-n-eq0.false)
