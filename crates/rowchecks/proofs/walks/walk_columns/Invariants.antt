-- `rowchecks::walks::walk_columns` meets its contract: column after column is added to what is carried.
use mathlib.Core.List.{List}
use Prim.Native.Nat.{ℕ, ◌≤◌}
use Rattle.plan.specs.RowFaults.{Carried}
use Rattle.rowchecks.specs.Rows.{parts_and_rows, Ranges}
use Rattle.rowchecks.proofs.walks.walk_columns.Given as goal

abbrev pub invariant-loop-j : goal.invariant-loop-j
invariant-loop-j g l =
    (l.j ≤ l.ranges.n) × ((sizes parents : List ℕ) → Ranges l.ranges.n sizes parents l.ranges.lows.now l.ranges.ends.now
    → Carried l.j (parts_and_rows l.ranges.n sizes parents l.column_starts (g.R.Rows.numbers l.rows)) l.faults.unordered l.faults.outside)
