-- `size::read_size` meets its contract: three numbers, then the line is over.
use mathlib.Core.Path.{◌∙◌}
use Rattle.matrix_market.proofs.Words.{numbers-start, numbers-next, numbers-value, numbers-none, numbers_over, numbers-behind, number_none, number_some, over_none, over_some}
use Rattle.matrix_market.proofs.size.read_size.Goals as goal

pub returns-in_err-rows : goal.returns-in_err-rows
returns-in_err-rows c = rw c.from_residual.ensures (numbers-none _ _ _ 0 (numbers-start c.args.text.now c.args.at c.requires) 2 (number_none _ _ _ c.number.ensures c.in_err-rows.was))

pub returns-in_err-columns : goal.returns-in_err-columns
returns-in_err-columns c =
    let one = numbers-next _ _ _ 0 (numbers-start c.args.text.now c.args.at c.requires) c.in_ok-rows.rows (number_some _ _ _ _ c.number.ensures c.in_ok-rows.was) in
    rw c.from_residual-in_err-columns.ensures (numbers-none _ _ _ 1 one 1 (number_none _ _ _ c.number-2.ensures c.in_err-columns.was))

pub returns-in_err-pairs : goal.returns-in_err-pairs
returns-in_err-pairs c =
    let one = numbers-next _ _ _ 0 (numbers-start c.args.text.now c.args.at c.requires) c.in_ok-rows.rows (number_some _ _ _ _ c.number.ensures c.in_ok-rows.was) in
    let two = numbers-next _ _ _ 1 one c.in_ok-columns.columns (number_some _ _ _ _ c.number-2.ensures c.in_ok-columns.was) in
    rw c.from_residual-in_err-pairs.ensures (numbers-none _ _ _ 2 two 0 (number_none _ _ _ c.number-3.ensures c.in_err-pairs.was))

pub returns-in_err-next : goal.returns-in_err-next
returns-in_err-next c =
    let one = numbers-next _ _ _ 0 (numbers-start c.args.text.now c.args.at c.requires) c.in_ok-rows.rows (number_some _ _ _ _ c.number.ensures c.in_ok-rows.was) in
    let two = numbers-next _ _ _ 1 one c.in_ok-columns.columns (number_some _ _ _ _ c.number-2.ensures c.in_ok-columns.was) in
    let three = numbers-next _ _ _ 2 two c.in_ok-pairs.pairs (number_some _ _ _ _ c.number-3.ensures c.in_ok-pairs.was) in
    rw c.from_residual-in_err-next.ensures (numbers_over _ _ _ 3 three ∙ over_none _ _ _ c.line_over.ensures c.in_err-next.was)

pub returns : goal.returns
returns c =
    let start = numbers-start c.args.text.now c.args.at c.requires in
    let rows = number_some _ _ _ _ c.number.ensures c.in_ok-rows.was in
    let columns = number_some _ _ _ _ c.number-2.ensures c.in_ok-columns.was in
    let pairs = number_some _ _ _ _ c.number-3.ensures c.in_ok-pairs.was in
    let one = numbers-next _ _ _ 0 start c.in_ok-rows.rows rows in
    let two = numbers-next _ _ _ 1 one c.in_ok-columns.columns columns in
    let three = numbers-next _ _ _ 2 two c.in_ok-pairs.pairs pairs in
    let end = over_some _ _ _ _ c.line_over.ensures c.in_ok-next.was in
    record {
      good = numbers_over _ _ _ 3 three ∙ end.0;
      rows = numbers-value _ _ _ 0 start c.in_ok-rows.rows rows;
      columns = (numbers-value _ _ _ 1 one c.in_ok-columns.columns columns).0;
      pairs = numbers-value _ _ _ 2 two c.in_ok-pairs.pairs pairs;
      next = numbers-behind _ _ _ 3 three _ end.1;
    }
