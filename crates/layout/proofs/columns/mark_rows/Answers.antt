-- `layout::columns::mark_rows` meets its contract: the loop marks each row.
use mathlib.Core.List.{List}
use Prim.Native.Nat.{ℕ, ◌<◌}
use native.Mathlib.Omega.{arith}
use borrow.Author.Rules.{rules}
use lib.ListN.{length, get_or}
use Rattle.theory.proofs.Lists.{is_in-get_or}
use Rattle.layout.proofs.Marks.{marked_more}
use Rattle.layout.proofs.columns.mark_rows.Goals.{In-loop-i}
use Rattle.layout.proofs.columns.mark_rows.Goals as goal

-- a row is a place of the marks
inside : (c : In-loop-i) → get_or c.args.rows.now c.loop-i.i-index 0 < length c.loop-i.marks
inside c =
    let lt = c.requires (get_or c.args.rows.now c.loop-i.i-index 0) (is_in-get_or c.args.rows.now c.loop-i.i-index 0 (omega arith)) in
    omega (arith, lt)

pub loop-i-preserved : goal.loop-i-preserved
loop-i-preserved c =
    let rows : List ℕ = c.args.rows.now in (
      search rules,
      marked_more c.args.j (λ w. w) rows c.loop-i.i-index c.args.marks.now c.loop-i.marks (omega arith) (inside (goal.at.loop-i-preserved c).In-loop-i) c.loop-i.invariant.1,
    )

pub bounds-marks-i : goal.bounds-marks-i
bounds-marks-i c = inside (goal.at.bounds-marks-i c).In-loop-i
