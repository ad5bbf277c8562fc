-- `rowchecks::walks::not_covered` meets its contract: the loop tries each column, and no mark is of a column to come.
use mathlib.Core.Path.{◌≡◌}
use lib.ListN.{length}
use Rattle.plan.specs.Mesh.{max_nodes}
use Rattle.theory.proofs.Scans.{Clear}
use Rattle.layout.specs.Arrays.{Unmarked}
use Rattle.rowchecks.proofs.Covering.{breaks}
use Rattle.rowchecks.proofs.walks.not_covered.Given as goal

abbrev pub invariant-loop-j : goal.invariant-loop-j
invariant-loop-j g l = (length l.marks ≡ max_nodes) × Unmarked l.n l.j l.marks × Clear (breaks l.column_starts (g.R.Rows.numbers l.rows)) l.j
