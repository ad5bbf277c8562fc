-- `lexer::line_over` meets its contract.
use mathlib.Core.Path.{◌≡◌, sym, ap, ◌∙◌}
use mathlib.Core.Bool.{not, not-not}
use mathlib.Core.List.{List}
use Prim.Native.Nat.{ℕ}
use lib.ListN.{drop}
use Rattle.plan.specs.MatrixMarket.{not_empty}
use Rattle.lexer.specs.Suffixes.{line_ends, behind_line, behind_blanks, words_at, At}
use Rattle.lexer.proofs.Words.{words_some}
use Rattle.lexer.proofs.Suffixes.{words_at_lem, feed_blanks}
use Rattle.lexer.proofs.line_over.Goals as goal

-- the line is over where it ends behind blanks
over_at : (text : List ℕ) (at i : ℕ) → At text i (behind_blanks (drop at text)) → not (not_empty (words_at text at)) ≡ line_ends (drop i text)
over_at text at i skipped = ap (λ ws. not (not_empty ws)) (words_at_lem text at i skipped) ∙ ap not (words_some (drop i text)) ∙ not-not (line_ends (drop i text))

pub returns-then-line_ends : goal.returns-then-line_ends
returns-then-line_ends c = (
  over_at c.args.text.now c.args.at c.skip_blanks-i.result c.skip_blanks-i.ensures ∙ sym c.line_ends.ensures ∙ c.if-line_ends.true,
  (c.next_line.ensures.0, c.next_line.ensures.1 ∙ ap behind_line c.skip_blanks-i.ensures.1 ∙ feed_blanks (drop c.args.at c.args.text.now)),
)

pub returns-else-line_ends : goal.returns-else-line_ends
returns-else-line_ends c = over_at c.args.text.now c.args.at c.skip_blanks-i.result c.skip_blanks-i.ensures ∙ sym c.line_ends.ensures ∙ c.if-line_ends.false
