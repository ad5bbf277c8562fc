-- `plan::Plan::bad_unknowns` meets its contract: the two tests are those of `bad_unknowns`.
use borrow.Author.Tests.{eq-eqb, ne_eqb}
use Rattle.plan.specs.Planning.{bad_unknowns}
use Rattle.plan.proofs.Plan.bad_unknowns.Goals as goal

pub returns-then-unknowns-eq0 : goal.returns-then-unknowns-eq0
unfolding bad_unknowns
returns-then-unknowns-eq0 c = simp (eq-eqb _ _ c.if-unknowns-eq0.true)

pub returns-else-unknowns-eq0 : goal.returns-else-unknowns-eq0
unfolding bad_unknowns
returns-else-unknowns-eq0 c = simp (ne_eqb _ _ c.if-unknowns-eq0.false)
