-- `lexer::keyword` meets its contract.
use mathlib.Core.Path.{◌≡◌, sym, ap, ◌∙◌}
use mathlib.Core.List.{List, map}
use Prim.Native.Nat.{ℕ, ◌<◌}
use lib.ListN.{length, drop}
use Rattle.plan.specs.Lists.{same, segment}
use Rattle.plan.specs.MatrixMarket.{lower}
use Rattle.lexer.specs.Suffixes.{word_ends, behind_letters, behind_blanks, words_at, At, first_is_word}
use Rattle.lexer.proofs.Cuts.{up_to-segment}
use Rattle.lexer.proofs.Words.{words_keyword}
use Rattle.lexer.proofs.Suffixes.{words_at_lem}
use Rattle.lexer.proofs.keyword.Goals.{After-same_lowered}
use Rattle.lexer.proofs.keyword.Goals as goal

-- the word behind blanks is the one that is looked for
keyword_at : (text word : List ℕ) (at i e : ℕ) → 0 < length word → At text i (behind_blanks (drop at text)) → At text e (behind_letters (drop i text))
    → first_is_word word (words_at text at) ≡ same (map lower (segment text i e)) word
keyword_at text word at i e some skipped ended =
    ap (first_is_word word) (words_at_lem text at i skipped)
    ∙ words_keyword word (drop i text) some
    ∙ ap (λ (l : List ℕ). same (map lower l) word) (sym (up_to-segment word_ends text i e skipped.0 ended))

found : (c : After-same_lowered) → c.same_lowered.result ≡ first_is_word c.args.word.now (words_at c.args.text.now c.args.at)
found c =
    c.same_lowered.ensures
    ∙ sym (keyword_at c.args.text.now c.args.word.now c.args.at c.skip_blanks-i.result c.word_end-e.result c.requires.1 c.skip_blanks-i.ensures c.word_end-e.ensures.0)

pub returns-then-same_lowered : goal.returns-then-same_lowered
returns-then-same_lowered c = (sym (found (goal.at.returns-then-same_lowered c).After-same_lowered) ∙ c.if-same_lowered.true, (c.word_end-e.ensures.0.0, c.word_end-e.ensures.0.1 ∙ ap behind_letters c.skip_blanks-i.ensures.1))

pub returns-else-same_lowered : goal.returns-else-same_lowered
returns-else-same_lowered c = sym (found (goal.at.returns-else-same_lowered c).After-same_lowered) ∙ c.if-same_lowered.false
