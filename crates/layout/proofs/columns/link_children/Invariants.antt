-- `layout::columns::link_children` meets its contract: the loop links one column more each turn.
use mathlib.Core.Path.{◌≡◌}
use Prim.Native.Nat.{◌≤◌}
use lib.ListN.{length}
use Rattle.layout.specs.Arrays.{Children}
use Rattle.layout.proofs.columns.link_children.Given as goal

abbrev pub invariant-loop-c : goal.invariant-loop-c
invariant-loop-c l = (l.c ≤ l.n) × (length l.first ≡ length l.initial.first) × (length l.next ≡ length l.initial.next) × Children l.n l.tree l.c l.first l.next
