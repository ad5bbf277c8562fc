-- `dissection::numbers::renumber` meets its contract: the loop renumbers one node after the other.
use mathlib.Core.Path.{◌≡◌}
use Prim.Native.Nat.{ℕ}
use lib.ListN.{length, get_or}
use Rattle.dissection.proofs.Renumbering.{Renumbering}
use Rattle.dissection.proofs.numbers.renumber.Given as goal

abbrev pub invariant-loop-v : goal.invariant-loop-v
invariant-loop-v g l =
    (length l.numbers ≡ length l.initial.numbers)
    × ((f : ℕ → ℕ) → ((x r : ℕ) → goal.F-post g l.change x r → r ≡ f x) → Renumbering (λ v. f (get_or l.initial.numbers v 0)) l.nodes l.initial.numbers l.v-index l.numbers)
