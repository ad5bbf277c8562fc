-- `dissection::numbers::fill` meets its contract: the loop renumbers one node after the other.
use Rattle.dissection.proofs.Renumbering.{Renumbering}
use Rattle.dissection.proofs.numbers.fill.Given as goal

abbrev pub invariant-loop-v : goal.invariant-loop-v
invariant-loop-v l = Renumbering (λ _. l.x) l.nodes l.initial.numbers l.v-index l.numbers
