-- `lexer::skip_blanks` meets its contract.
use Rattle.std.proofs.Common.{refl, sym, ◌∙◌, not, arith}
use lib.Seq.{drop-length}
use Rattle.plan.specs.MatrixMarket.{is_blank}
use Rattle.lexer.specs.Suffixes.{not_blank}
use Rattle.lexer.proofs.Cuts.{place_found, place_none}
use Rattle.lexer.proofs.skip_blanks.Goals as goal

pub returns-in-Some : goal.returns-in-Some
returns-in-Some c =
    let place = place_found not_blank (λ b. not (is_blank b)) (λ b t. refl) c.args.text.now c.args.at c.in-Some.k (sym c.first_other.ensures ∙ c.in-Some.is) in
    (omega (arith, place.0), place.1)

pub returns-in-None : goal.returns-in-None
returns-in-None c = (omega arith, drop-length c.args.text.now ∙ sym (place_none not_blank (λ b. not (is_blank b)) (λ b t. refl) c.args.text.now c.args.at (sym c.first_other.ensures ∙ c.in-None.is)))
