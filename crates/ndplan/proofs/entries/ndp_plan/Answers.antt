-- `ndplan::entries::ndp_plan` meets its contract: the reply tells the answer of planning.
use Rattle.std.proofs.Common.{ap, ◌∙◌}
use Rattle.ndplan.specs.Replies.{plan_answer_of}
use Rattle.ndplan.proofs.Replied.{plan-told}
use Rattle.ndplan.proofs.entries.ndp_plan.Goals as goal

pub returns : goal.returns
returns c =
    let answer = ap plan_answer_of c.into.ensures ∙ plan-told c.plan.result in
    rw answer (c.plan.ensures, c.into.ensures)
