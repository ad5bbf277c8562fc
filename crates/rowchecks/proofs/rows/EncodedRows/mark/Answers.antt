-- `rowchecks::rows::EncodedRows::mark` meets its contract: the loop marks each row.
use mathlib.Core.Path.{refl}
use Prim.Native.Nat.{◌<◌}
use native.Mathlib.Omega.{arith}
use borrow.Author.Rules.{rules}
use lib.ListN.{length, get_or}
use lib.Seq.{take_all}
use Rattle.theory.proofs.Lists.{is_in-get_or}
use Rattle.layout.proofs.Marks.{marked_more}
use Rattle.rowchecks.specs.Rows.{rows_in}
use Rattle.rowchecks.proofs.rows.EncodedRows.mark.Goals.{After-row}
use Rattle.rowchecks.proofs.rows.EncodedRows.mark.Goals as goal

-- a row is a place of the marks
inside : (c : After-row) → c.row.result < length c.loop-k.marks
inside c =
    let rows = rows_in c.args.self.now.0.now in
    let lt = c.requires (get_or rows c.loop-k.k 0) (is_in-get_or rows c.loop-k.k 0 (omega (arith, c.count-k-end.ensures))) in
    omega (arith, lt, c.row.ensures)

pub loop-k-preserved : goal.loop-k-preserved
loop-k-preserved c =
    let rows = rows_in c.args.self.now.0.now in (
      search rules,
      rw c.row.ensures
          (marked_more c.args.j (λ w. w) rows c.loop-k.k c.args.marks.now c.loop-k.marks
          (omega (arith, c.count-k-end.ensures)) (rw c.row.ensures at (inside (goal.at.loop-k-preserved c).After-row)) c.loop-k.invariant.1),
    )

pub returns : goal.returns
returns c = rw (take_all c.loop-k.k (rows_in c.args.self.now.0.now) (omega (arith, c.count-k-end.ensures))) at c.loop-k.invariant.1

pub loop-k-init : goal.loop-k-init
loop-k-init c = (refl, λ i. refl)

pub offset_bounds-marks-row : goal.offset_bounds-marks-row
offset_bounds-marks-row c = let h = inside (goal.at.offset_bounds-marks-row c).After-row in omega arith

pub bounds-marks-row : goal.bounds-marks-row
bounds-marks-row c = inside (goal.at.bounds-marks-row c).After-row
