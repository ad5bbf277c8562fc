-- `size::size_line` meets its contract: blank lines and comments are passed.
use mathlib.Core.Path.{◌≡◌}
use Prim.Native.Nat.{◌-◌, ◌≤◌}
use lib.ListN.{length}
use Rattle.plan.specs.MatrixMarket.{skip_comments}
use Rattle.lexer.specs.Suffixes.{lines_at}
use Rattle.matrix_market.proofs.size.size_line.Given as goal

abbrev pub invariant-loop-i : goal.invariant-loop-i
invariant-loop-i l = (l.i ≤ length l.text) × (skip_comments (lines_at l.text l.at) ≡ skip_comments (lines_at l.text l.i))

abbrev pub decreases-loop-i : goal.decreases-loop-i
decreases-loop-i l = length l.text - l.i
