-- `layout::columns::write_column` meets its contract: the loop climbs from parent to parent and writes those that have the mark.
use mathlib.Core.Path.{◌≡◌}
use Prim.Native.Nat.{◌-◌}
use lib.ListN.{length}
use Rattle.layout.proofs.Climbs.{Ascent}
use Rattle.layout.proofs.columns.write_column.Given as goal

abbrev pub invariant-loop-at : goal.invariant-loop-at
invariant-loop-at l = (length l.rows ≡ length l.initial.rows) × Ascent l.n l.j l.tree l.marks l.initial.rows l.rows l.k l.at

abbrev pub decreases-loop-at : goal.decreases-loop-at
decreases-loop-at l = l.n - l.k
