-- `ndplan::entries::ndp_write` meets its contract: the reply tells the answer of writing.
use Rattle.std.proofs.Common.{ap, ◌∙◌}
use Rattle.ndplan.specs.Replies.{write_answer_of}
use Rattle.ndplan.proofs.Replied.{write_told}
use Rattle.ndplan.proofs.entries.ndp_write.Goals as goal

pub returns : goal.returns
returns c =
    let answer = ap write_answer_of c.into.ensures ∙ write_told c.write.result in
    rw answer (c.write.ensures, c.into.ensures)
