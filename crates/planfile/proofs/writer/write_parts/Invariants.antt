-- `planfile::writer::write_parts` meets its contract: the loop writes the parts' pairs of size and parent one after the other.
use mathlib.Core.List.{List, ◌++◌}
use Prim.Native.Nat.{ℕ}
use lib.ListN.{length, get_or}
use Rattle.plan.specs.File.{encode16}
use Rattle.theory.proofs.Coding.{Blocks}
use Rattle.planfile.proofs.writer.write_parts.Given as goal

-- the bytes of part q
abbrev pub pair : List ℕ → List ℕ → ℕ → List ℕ
pair sizes parents q = encode16 (get_or sizes q 0) ++ encode16 (get_or parents q 0)

abbrev pub invariant-loop-q : goal.invariant-loop-q
invariant-loop-q l = Blocks (pair l.sizes l.parents) 4 (length l.sizes) l.initial.bytes l.bytes l.q
