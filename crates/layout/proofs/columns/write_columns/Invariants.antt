-- `layout::columns::write_columns` meets its contract: the loop writes one column more each turn.
use mathlib.Core.Path.{◌≡◌}
use Prim.Native.Nat.{◌≤◌}
use lib.ListN.{length}
use Rattle.plan.specs.Lists.{written}
use Rattle.plan.specs.Mesh.{max_nodes}
use Rattle.mesh.specs.Lent.{as_lent}
use Rattle.layout.specs.Arrays.{Unmarked, rows_before}
use Rattle.layout.proofs.columns.write_columns.Given as goal

abbrev pub invariant-loop-j : goal.invariant-loop-j
invariant-loop-j l = (l.j ≤ l.mesh.nodes) × (length l.rows ≡ length l.initial.rows) × (length l.marks ≡ max_nodes) × Unmarked l.mesh.nodes l.j l.marks × (l.rows ≡ written (rows_before (as_lent l.mesh) l.order l.j) l.initial.rows)
