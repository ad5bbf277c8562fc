-- `rowchecks::columns::outside` meets its contract: none of the rows before place k breaks 18's rule.
use Rattle.rowchecks.proofs.ColumnDown.{Inside}
use Rattle.rowchecks.proofs.columns.outside.Given as goal

abbrev pub invariant-loop-k : goal.invariant-loop-k
invariant-loop-k g l = Inside l.ranges.n l.ranges.lows.now l.ranges.ends.now l.j (g.R.Rows.numbers l.column) l.k
