-- `layout::columns::Columns::mark_children` meets its contract: the loop walks from child to child and marks the rows of each.
use mathlib.Core.Path.{◌≡◌}
use lib.ListN.{length}
use Rattle.plan.specs.Lists.{list_at}
use Rattle.layout.proofs.Children.{Walked, way_down_lem}
use Rattle.layout.proofs.columns.Columns.mark_children.Given as goal

abbrev pub invariant-loop-c : goal.invariant-loop-c
invariant-loop-c l = (length l.marks ≡ length l.initial.marks) × Walked l.self.ordered.mesh.nodes l.self.tree.now (list_at l.self.column_starts.now l.rows) l.j l.initial.marks l.marks l.c

abbrev pub decreases-loop-c : goal.decreases-loop-c
decreases-loop-c l = way_down_lem l.c
