-- `rowchecks::columns::sound` meets its contract: the rows from place k on break neither rule, and `behind` is the first of them.
use Rattle.rowchecks.proofs.ColumnDown.{Down}
use Rattle.rowchecks.proofs.columns.sound.Given as goal

abbrev pub invariant-loop-k : goal.invariant-loop-k
invariant-loop-k g l = Down l.ranges.n l.ranges.lows.now l.ranges.ends.now l.j (g.R.Rows.numbers l.column) l.behind l.k
