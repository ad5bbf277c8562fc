-- `rowchecks::columns::all_marked` meets its contract: no row before place k lacks the mark.
use mathlib.Core.Path.{sym, ap, ◌∙◌}
use mathlib.Core.Bool.{Bool, not}
use Prim.Native.Nat.{ℕ, ◌<◌}
use native.Mathlib.Omega.{arith}
use lib.Dec.{eqb}
use lib.ListN.{length, get_or}
use borrow.Author.Tests.{eq-eqb, ne_eqb}
use Rattle.theory.proofs.Lists.{is_in-get_or}
use Rattle.theory.proofs.Scans.{element_at, fails, clear_more, one_fails, none_fails}
use Rattle.rowchecks.proofs.columns.all_marked.Goals.{Start, After-row}
use Rattle.rowchecks.proofs.columns.all_marked.Given.{Over}
use Rattle.rowchecks.proofs.columns.all_marked.Goals as goal

-- whether a row has the mark
abbrev test : (g : Over) (c : Start g) → ℕ → Bool
test g c i = eqb (get_or c.args.marks.now i 0) c.args.j

-- a row is a place of the marks
inside : (g : Over) (c : After-row g) → c.row.result < length c.args.marks.now
inside g c =
    let rows = g.R.Rows.numbers c.args.column in
    omega (arith, c.row.ensures, c.requires (get_or rows c.loop-k.k 0) (is_in-get_or rows c.loop-k.k 0 (omega (arith, c.count-k-end.ensures))))

pub returns-then-marks-row : goal.returns-then-marks-row
returns-then-marks-row g c =
    sym (one_fails (test g (goal.at.returns-then-marks-row g c).Start) (g.R.Rows.numbers c.args.column) c.loop-k.k (omega (arith, c.count-k-end.ensures))
    (ap (test g (goal.at.returns-then-marks-row g c).Start) (sym c.row.ensures) ∙ ne_eqb _ _ c.if-marks-row.true))

pub loop-k-preserved : goal.loop-k-preserved
loop-k-preserved g c =
    clear_more (element_at (fails (test g (goal.at.loop-k-preserved g c).Start)) (g.R.Rows.numbers c.args.column)) c.loop-k.k c.loop-k.invariant
    (ap (fails (test g (goal.at.loop-k-preserved g c).Start)) (sym c.row.ensures) ∙ ap not (eq-eqb _ _ c.if-marks-row.false))

pub returns : goal.returns
returns g c = sym (none_fails (test g (goal.at.returns g c).Start) (g.R.Rows.numbers c.args.column) c.loop-k.k (omega (arith, c.count-k-end.ensures)) c.loop-k.invariant)

pub offset_bounds-marks-row : goal.offset_bounds-marks-row
offset_bounds-marks-row g c = let h = inside g (goal.at.offset_bounds-marks-row g c).After-row in omega arith

pub bounds-marks-row : goal.bounds-marks-row
bounds-marks-row g c = inside g (goal.at.bounds-marks-row g c).After-row
