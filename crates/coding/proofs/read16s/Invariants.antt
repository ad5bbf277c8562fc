-- `coding::read16s` meets its contract: the loop writes the numbers one after the other.
use mathlib.Core.Path.{◌≡◌}
use mathlib.Core.List.{List}
use Prim.Native.Nat.{ℕ, ◌≤◌}
use lib.ListN.{length}
use Rattle.plan.specs.Lists.{written}
use Rattle.plan.specs.File.{decode16s}
use Rattle.coding.proofs.read16s.Given as goal

-- the first k numbers stand at the front of a buffer that held `found`
pub record Read (bytes : List ℕ) (at apart count : ℕ) (found numbers : List ℕ) (k : ℕ) : Type 0 where
  pub few : k ≤ count
  pub long : length numbers ≡ length found
  pub front : numbers ≡ written (decode16s bytes at apart k) found

abbrev pub invariant-loop-k : goal.invariant-loop-k
invariant-loop-k l = Read l.bytes l.at l.apart l.count l.initial.number-items l.number-items l.k
