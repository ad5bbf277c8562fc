-- `coding::write16s` meets its contract: the loop writes the numbers one after the other.
use mathlib.Core.List.{List}
use Prim.Native.Nat.{ℕ}
use lib.ListN.{length, get_or}
use Rattle.plan.specs.File.{encode16}
use Rattle.theory.proofs.Coding.{Blocks}
use Rattle.coding.proofs.write16s.Given as goal

-- the bytes of number k
abbrev pub number : List ℕ → ℕ → List ℕ
number numbers k = encode16 (get_or numbers k 0)

abbrev pub invariant-loop-k : goal.invariant-loop-k
invariant-loop-k l = Blocks (number l.numbers) 2 (length l.numbers) l.initial.bytes l.bytes l.k
