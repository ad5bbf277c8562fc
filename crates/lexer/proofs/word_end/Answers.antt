-- `lexer::word_end` meets its contract: the first place where the word ends.
use Rattle.std.proofs.Common.{◌≡◌, true, false, refl, drop, rules}
use Rattle.std.proofs.lemmas.Iterator.{first_from_Range}
use Rattle.lexer.specs.Suffixes.{word_ends}
use Rattle.lexer.proofs.Cuts.{first_place}
use Rattle.lexer.proofs.word_end.Goals as goal

pub returns : goal.returns
returns c =
    let t = c.args.text.now in
    rw c.unwrap_or.ensures (first_place word_ends refl t c.args.at c.requires c.find.result
    (first_from_Range _ _ _ _ (λ i. word_ends (drop i t) ≡ true) (λ i. word_ends (drop i t) ≡ false) c.find.ensures.ran (λ x q k. search rules) (λ x q k. search rules)))
