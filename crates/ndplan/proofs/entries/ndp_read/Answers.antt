-- `ndplan::entries::ndp_read` meets its contract: the reply tells the answer of reading.
use Rattle.std.proofs.Common.{ap, ◌∙◌}
use Rattle.ndplan.specs.Replies.{plan_answer_of}
use Rattle.ndplan.proofs.Replied.{plan-told}
use Rattle.ndplan.proofs.entries.ndp_read.Goals as goal

pub returns : goal.returns
returns c =
    let answer = ap plan_answer_of c.into.ensures ∙ plan-told c.read.result in
    rw answer (c.read.ensures, c.into.ensures)
