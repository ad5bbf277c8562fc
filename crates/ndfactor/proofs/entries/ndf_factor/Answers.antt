-- `ndfactor::entries::ndf_factor` meets its contract: the reply tells the answer of factoring.
use mathlib.Core.Path.{◌≡◌, sym, ap, ◌∙◌}
use Rattle.ndfactor.specs.Replies.{ndf_report, factor_answer_of}
use Rattle.ndfactor.proofs.Told.{answer_told}
use Rattle.ndfactor.proofs.entries.ndf_factor.Goals as goal

pub returns : goal.returns
returns c =
    let answer : factor_answer_of c.from.result ≡ c.factor.result = ap factor_answer_of c.from.ensures ∙ answer_told c.factor.result in
    record {
      told = c.from.ensures ∙ ap ndf_report (sym answer);
      factored = rw answer c.factor.ensures;
    }
