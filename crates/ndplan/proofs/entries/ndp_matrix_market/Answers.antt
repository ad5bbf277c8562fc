-- `ndplan::entries::ndp_matrix_market` meets its contract: the reply tells the answer of reading the text.
use Rattle.std.proofs.Common.{ap, ◌∙◌}
use Rattle.ndplan.specs.Replies.{mesh_answer_of}
use Rattle.ndplan.proofs.Replied.{mesh-told}
use Rattle.ndplan.proofs.entries.ndp_matrix_market.Goals as goal

pub returns : goal.returns
returns c =
    let answer = ap mesh_answer_of c.into.ensures ∙ mesh-told c.read.result in
    rw answer (c.read.ensures, c.into.ensures)
