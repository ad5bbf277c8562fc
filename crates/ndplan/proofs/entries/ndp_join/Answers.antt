-- `ndplan::entries::ndp_join` meets its contract: the reply tells the answer of joining.
use Rattle.std.proofs.Common.{ap, ◌∙◌}
use Rattle.ndplan.specs.Replies.{mesh_answer_of}
use Rattle.ndplan.proofs.Replied.{mesh-told}
use Rattle.ndplan.proofs.entries.ndp_join.Goals as goal

pub returns : goal.returns
returns c =
    let answer = ap mesh_answer_of c.into.ensures ∙ mesh-told c.join.result in
    rw answer (c.join.ensures, c.into.ensures)
