-- `lexer::comment` meets its contract.
use mathlib.Core.Path.{◌≡◌, refl, sym, ap, ◌∙◌}
use mathlib.Core.List.{List, [], ◌∷◌}
use Rattle.std.specs.Prelude.{nat_eq}
use Rattle.std.specs.List.{starts_with}
use Prim.Native.Nat.{ℕ}
use mathlib.Core.Bool.{true}
use lib.Dec.{eqb}
use borrow.Author.Tests.{eq-eqb, eqb-true}
use Rattle.theory.proofs.Bools.{iff_eq, and_left, and_both}
use Rattle.lexer.proofs.Cuts.{left_all}
use lib.ListN.{drop}
use Rattle.plan.specs.MatrixMarket.{is_comment}
use Rattle.lexer.specs.Suffixes.{starts, behind_blanks, words_at, At}
use Rattle.lexer.proofs.Words.{words_comment}
use Rattle.lexer.proofs.Suffixes.{words_at_lem, not_blank_at}
use Rattle.lexer.proofs.comment.Goals as goal

-- it is the byte behind blanks that tells
comment_at : (text : List ℕ) (at i : ℕ) → At text i (behind_blanks (drop at text)) → is_comment (words_at text at) ≡ starts (λ b. eqb b 37) (drop i text)
comment_at text at i skipped = ap is_comment (words_at_lem text at i skipped) ∙ words_comment (drop i text) (not_blank_at text at i skipped)

percent : (t : List ℕ) → starts_with nat_eq t (37 ∷ []) ≡ starts (λ b. eqb b 37) t
percent [] = refl
percent (b ∷ t) = iff_eq _ _ (λ h. eq-eqb b 37 (sym (eqb-true 37 b (and_left (eqb 37 b) true h)))) (λ h. and_both (eqb 37 b) true (eq-eqb 37 b (sym (eqb-true b 37 h))) refl)

pub returns : goal.returns
returns c = c.starts_with.ensures.value ∙ ap (λ (l : List ℕ). starts_with nat_eq l (37 ∷ [])) (left_all c.args.text.now c.skip_blanks-i.result) ∙ percent (drop c.skip_blanks-i.result c.args.text.now) ∙ sym (comment_at c.args.text.now c.args.at c.skip_blanks-i.result c.skip_blanks-i.ensures)
