-- `pairs::read_pair` meets its contract.
use mathlib.Core.Path.{◌∙◌}
use borrow.Author.Tests.{not-false}
use Rattle.matrix_market.proofs.Words.{numbers-start, numbers-next, numbers-value, numbers-none, numbers_over, numbers-behind, number-some, number_none, number_some, over_none, over_some}
use Rattle.matrix_market.proofs.pairs.read_pair.Goals as goal

-- the first word is no number
pub returns-in_err-next : goal.returns-in_err-next
returns-in_err-next c =
    rw c.from_residual.ensures (
      not-false _ (over_none _ _ _ c.line_over.ensures c.in_err-next.was),
      numbers-none _ _ _ 0 (numbers-start c.args.text.now c.args.at c.requires) 1 (number_none _ _ _ c.number.ensures c.in_default.is),
    )

-- the second is none
pub returns-in_err-column : goal.returns-in_err-column
returns-in_err-column c =
    let row = number_some _ _ _ _ c.number.ensures c.in-Some.is in
    let one = numbers-next _ _ _ 0 (numbers-start c.args.text.now c.args.at c.requires) c.in-Some.row row in
    rw c.from_residual-in_err-column.ensures (number-some _ row.found, numbers-none _ _ _ 1 one 0 (number_none _ _ _ c.number-2.ensures c.in_err-column.was))

-- two numbers, and the line goes on
pub returns-in_err-next-2 : goal.returns-in_err-next-2
returns-in_err-next-2 c =
    let row = number_some _ _ _ _ c.number.ensures c.in-Some.is in
    let one = numbers-next _ _ _ 0 (numbers-start c.args.text.now c.args.at c.requires) c.in-Some.row row in
    let two = numbers-next _ _ _ 1 one c.in_ok-column.column (number_some _ _ _ _ c.number-2.ensures c.in_ok-column.was) in
    rw c.from_residual-in_err-next-2.ensures (number-some _ row.found, numbers_over _ _ _ 2 two ∙ over_none _ _ _ c.line_over-2.ensures c.in_err-next-2.was)

pub returns : goal.returns
returns c =
    let start = numbers-start c.args.text.now c.args.at c.requires in
    let row = number_some _ _ _ _ c.number.ensures c.in-Some.is in
    let column = number_some _ _ _ _ c.number-2.ensures c.in_ok-column.was in
    let one = numbers-next _ _ _ 0 start c.in-Some.row row in
    let two = numbers-next _ _ _ 1 one c.in_ok-column.column column in
    let end = over_some _ _ _ _ c.line_over-2.ensures c.in_ok-next-2.was in (
      record {
        good = numbers_over _ _ _ 2 two ∙ end.0;
        row = numbers-value _ _ _ 0 start c.in-Some.row row;
        column = numbers-value _ _ _ 1 one c.in_ok-column.column column;
      },
      numbers-behind _ _ _ 2 two _ end.1,
    )
