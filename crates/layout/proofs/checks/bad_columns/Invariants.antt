-- `layout::checks::bad_columns` meets its contract: the loop tries each column.
use mathlib.Core.Bool.{Bool}
use mathlib.Core.List.{List}
use Prim.Native.Nat.{ℕ}
use Rattle.plan.specs.Lists.{list_at}
use Rattle.plan.specs.File.{bad_column}
use Rattle.theory.proofs.Scans.{Clear}
use Rattle.layout.proofs.checks.bad_columns.Given as goal

-- whether column j breaks the rule
abbrev pub breaks : ℕ → List ℕ → List ℕ → ℕ → Bool
breaks n column_starts rows j = bad_column n j (list_at column_starts rows j)

abbrev pub invariant-loop-j : goal.invariant-loop-j
invariant-loop-j l = Clear (breaks l.n l.column_starts l.rows) l.j
