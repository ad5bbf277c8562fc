-- `rowchecks::columns::all_marked` meets its contract: no row before place k lacks the mark.
use lib.Dec.{eqb}
use lib.ListN.{get_or}
use Rattle.theory.proofs.Scans.{Clear, element_at, fails}
use Rattle.rowchecks.proofs.columns.all_marked.Given as goal

abbrev pub invariant-loop-k : goal.invariant-loop-k
invariant-loop-k g l = Clear (element_at (fails (λ i. eqb (get_or l.marks i 0) l.j)) (g.R.Rows.numbers l.column)) l.k
