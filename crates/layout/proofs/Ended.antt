-- Check 17 of a plan and check 22 of a layout: they are one test where the column starts end at s, the number of rows.
use mathlib.Core.Path.{◌≡◌, ap}
use mathlib.Core.Logic.{◌≢◌}
use mathlib.Core.Bool.{Bool, true, not, ◌||◌}
use native.Mathlib.Omega.{arith}
use lib.Dec.{eqb}
use lib.ListN.{length, get_or}
use borrow.Author.Tests.{eq-eqb, ne_eqb, le-ltb}
use Rattle.plan.specs.Mesh.{bad_starts}
use Rattle.plan.specs.Planning.{Contents}
use Rattle.plan.specs.File.{bad_rows}
use Rattle.plan.specs.Questions.{bad_layout}
use Rattle.theory.proofs.Bools.{or_left, or_right}

module _ (c : Contents) where
  -- they end at s
  pub rows-ended : get_or c.column_starts c.nodes 0 ≡ c.slots → c.slots ≡ length c.rows → bad_rows c ≡ bad_layout c.nodes c.column_starts c.rows
  unfolding bad_rows bad_layout
  rows-ended e long =
      rw (eq-eqb (get_or c.column_starts c.nodes 0) c.slots e, le-ltb (length c.rows) (get_or c.column_starts c.nodes 0) (omega arith))

  -- they do not, which check 17 refuses
  pub rows_unended : get_or c.column_starts c.nodes 0 ≢ c.slots → bad_rows c ≡ true
  unfolding bad_rows
  rows_unended ne =
      let starts : Bool = bad_starts c.nodes c.column_starts in
      let ends : Bool = eqb (get_or c.column_starts c.nodes 0) c.slots in
      or_left (starts || not ends) _ (or_right starts (not ends) (ap not (ne_eqb (get_or c.column_starts c.nodes 0) c.slots ne)))
