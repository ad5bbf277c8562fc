-- `text::input::read_starts` meets its contract: the loop writes each start.
use mathlib.Core.Path.{◌≡◌}
use mathlib.Core.List.{List}
use Prim.Native.Nat.{ℕ}
use lib.ListN.{length, take}
use Rattle.plan.specs.Lists.{written}
use Rattle.plan.specs.Listing.{input_mesh}
use Rattle.text.proofs.input.read_starts.Given as goal

-- the first k of l stand at the front of a buffer that held `found`
pub record Front (l found buffer : List ℕ) (k : ℕ) : Type 0 where
  pub long : length buffer ≡ length found
  pub front : buffer ≡ written (take k l) found

abbrev pub invariant-loop-k : goal.invariant-loop-k
invariant-loop-k l = Front (input_mesh l.input).starts l.initial.starts l.starts l.k
