-- `layout::columns::mark_rows` meets its contract: the loop marks each row.
use mathlib.Core.Path.{◌≡◌}
use lib.ListN.{length, take}
use Rattle.plan.specs.Lists.{is_in}
use Rattle.layout.specs.Arrays.{Marked}
use Rattle.layout.proofs.columns.mark_rows.Given as goal

abbrev pub invariant-loop-i : goal.invariant-loop-i
invariant-loop-i l = (length l.marks ≡ length l.initial.marks) × Marked l.j (λ i. is_in i (take l.i-index l.rows)) l.initial.marks l.marks
