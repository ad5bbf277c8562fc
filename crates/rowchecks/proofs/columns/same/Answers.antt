-- `rowchecks::columns::same` meets its contract: what differs so far is whether the rows before place k do.
use native.Mathlib.Omega.{arith}
use Rattle.rowchecks.proofs.Covering.{compared_more, compared_all}
use Rattle.rowchecks.proofs.columns.same.Goals as goal

pub loop-k-preserved : goal.loop-k-preserved
loop-k-preserved g c =
    rw (c.row.ensures, c.row-in-loop-k.ensures)
    (compared_more (g.R.Rows.numbers c.args.a) (g.R.Rows.numbers c.args.b) c.loop-k.k c.loop-k.differ
    (omega (arith, c.count-k-end.ensures)) (omega (arith, c.count-k-end.ensures, c.requires)) c.loop-k.invariant)

pub returns : goal.returns
returns g c =
    compared_all (g.R.Rows.numbers c.args.a) (g.R.Rows.numbers c.args.b) c.loop-k.k c.loop-k.differ
    (omega (arith, c.count-k-end.ensures)) (omega (arith, c.count-k-end.ensures, c.requires)) c.loop-k.invariant
