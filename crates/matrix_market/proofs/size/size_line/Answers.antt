-- `size::size_line` meets its contract: blank lines and comments are passed.
use mathlib.Core.Path.{sym, ◌∙◌}
use Prim.Native.Nat.{◌<◌}
use native.Mathlib.Omega.{arith}
use lib.ListN.{length}
use borrow.Author.Rules.{rules}
use borrow.Author.Tests.{not-false}
use Rattle.lexer.proofs.Suffixes.{line_passed}
use Rattle.matrix_market.proofs.Heads.{skip_blank, skip_comment, skip_none, skip_over, first_words_lem, no_words}
use Rattle.matrix_market.proofs.Words.{over_none, over_some}
use Rattle.matrix_market.proofs.size.size_line.Goals as goal

pub loop-i-smaller-in-Some : goal.loop-i-smaller-in-Some
loop-i-smaller-in-Some c =
    let lt : c.loop-i.i < length c.args.text.now = search rules in
    omega (arith, lt, line_passed c.args.text.now c.loop-i.i c.in-Some.next lt (over_some _ _ _ _ c.line_over.ensures c.in-Some.is).1)

pub loop-i-preserved-in-Some : goal.loop-i-preserved-in-Some
loop-i-preserved-in-Some c =
    let over = over_some _ _ _ _ c.line_over.ensures c.in-Some.is in
    (over.1.0, c.loop-i.invariant.1 ∙ skip_blank c.args.text.now c.loop-i.i c.in-Some.next over)

pub loop-i-smaller : goal.loop-i-smaller
loop-i-smaller c =
    let lt : c.loop-i.i < length c.args.text.now = search rules in
    omega (arith, lt, line_passed c.args.text.now c.loop-i.i c.next_line-i.result lt c.next_line-i.ensures)

pub loop-i-preserved : goal.loop-i-preserved
loop-i-preserved c = (
  c.next_line-i.ensures.0,
  c.loop-i.invariant.1
      ∙ skip_comment c.args.text.now c.loop-i.i c.next_line-i.result (not-false _ (over_none _ _ _ c.line_over.ensures c.in_default.is)) (sym c.comment.ensures ∙ c.if-comment.true) c.next_line-i.ensures,
)

pub returns-else-comment : goal.returns-else-comment
returns-else-comment c =
    let some = not-false _ (over_none _ _ _ c.line_over.ensures c.in_default.is) in
    (c.loop-i.invariant.0, c.loop-i.invariant.1 ∙ skip_none c.args.text.now c.loop-i.i some (sym c.comment.ensures ∙ c.if-comment.false), first_words_lem c.args.text.now c.loop-i.i some)

pub returns : goal.returns
returns c = (c.loop-i.invariant.0, c.loop-i.invariant.1 ∙ skip_over c.args.text.now c.loop-i.i c.loop-i.invariant.0 (search rules), no_words c.args.text.now c.loop-i.i c.loop-i.invariant.0 (search rules))
