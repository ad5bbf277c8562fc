-- `layout::checks::bad_layout` meets its contract: starts without a fault are n + 1.
use mathlib.Core.Path.{◌≡◌, sym, ◌∙◌}
use Prim.Native.Nat.{◌+◌}
use native.Mathlib.Omega.{arith}
use lib.ListN.{length}
use Rattle.theory.proofs.Checked.{good-starts}
use Rattle.layout.proofs.checks.bad_layout.Goals.{Else-bad_starts}
use Rattle.layout.proofs.checks.bad_layout.Goals as goal

many : (c : Else-bad_starts) → length c.args.column_starts.now ≡ c.args.n + 1
many c = (good-starts c.args.n c.args.column_starts.now (sym c.bad_starts.ensures ∙ c.if-bad_starts.false)).many

pub offset_bounds-column_starts-n : goal.offset_bounds-column_starts-n
offset_bounds-column_starts-n c = omega (arith, many (goal.at.offset_bounds-column_starts-n c).Else-bad_starts)

pub bounds-column_starts-n : goal.bounds-column_starts-n
bounds-column_starts-n c = omega (arith, many (goal.at.bounds-column_starts-n c).Else-bad_starts)
