-- `rowchecks::columns::same` meets its contract: what differs so far is whether the rows before place k do.
use Rattle.rowchecks.proofs.Covering.{Compared}
use Rattle.rowchecks.proofs.columns.same.Given as goal

abbrev pub invariant-loop-k : goal.invariant-loop-k
invariant-loop-k g l = Compared (g.R.Rows.numbers l.a) (g.R.Rows.numbers l.b) l.k l.differ
