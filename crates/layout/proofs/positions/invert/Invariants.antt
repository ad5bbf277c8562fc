-- `layout::positions::invert` meets its contract: each turn gives one more node its position.
use Prim.Native.Nat.{◌≤◌}
use lib.ListN.{length}
use Rattle.layout.proofs.Inverse.{Inverted}
use Rattle.layout.proofs.positions.invert.Given as goal

abbrev pub invariant-loop-i : goal.invariant-loop-i
invariant-loop-i l = (l.i ≤ length l.order) × Inverted (length l.order) l.order l.i l.initial.positions l.positions
