-- `dissection::numbers::transfer` meets its contract: the loop renumbers one node after the other.
use lib.ListN.{get_or}
use Rattle.dissection.proofs.Renumbering.{Renumbering}
use Rattle.dissection.proofs.numbers.transfer.Given as goal

abbrev pub invariant-loop-v : goal.invariant-loop-v
invariant-loop-v l = Renumbering (λ v. get_or l.from v 0) l.nodes l.initial.numbers l.v-index l.numbers
