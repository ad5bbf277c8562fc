-- `rowchecks::rows::EncodedRows::mark` meets its contract: the loop marks each row.
use mathlib.Core.Path.{◌≡◌}
use lib.ListN.{length, take}
use Rattle.plan.specs.Lists.{is_in}
use Rattle.layout.specs.Arrays.{Marked}
use Rattle.rowchecks.specs.Rows.{rows_in}
use Rattle.rowchecks.proofs.rows.EncodedRows.mark.Given as goal

abbrev pub invariant-loop-k : goal.invariant-loop-k
invariant-loop-k l = (length l.marks ≡ length l.initial.marks) × Marked l.j (λ i. is_in i (take l.k (rows_in l.self.0.now))) l.initial.marks l.marks
