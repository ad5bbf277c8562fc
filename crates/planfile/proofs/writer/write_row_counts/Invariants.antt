-- `planfile::writer::write_row_counts` meets its contract: the loop writes the row counts one after the other.
use mathlib.Core.List.{List}
use Prim.Native.Nat.{ℕ, ◌+◌, ◌-◌}
use lib.ListN.{get_or}
use Rattle.plan.specs.File.{encode16}
use Rattle.theory.proofs.Coding.{Blocks}
use Rattle.planfile.proofs.writer.write_row_counts.Given as goal

-- column j's row count
abbrev pub many : List ℕ → ℕ → ℕ
many starts j = get_or starts (j + 1) 0 - get_or starts j 0

-- its bytes
abbrev pub count : List ℕ → ℕ → List ℕ
count starts j = encode16 (many starts j)

abbrev pub invariant-loop-j : goal.invariant-loop-j
invariant-loop-j l = Blocks (count l.column_starts) 2 l.n l.initial.bytes l.bytes l.j
