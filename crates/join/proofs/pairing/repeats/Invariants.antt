-- `join::pairing::repeats` meets its contract: each node met is marked, and one that is met again stands twice.
use Rattle.join.proofs.Seen.{Seen}
use Rattle.join.proofs.pairing.repeats.Given as goal

abbrev pub invariant-loop-v : goal.invariant-loop-v
invariant-loop-v l = Seen l.nodes l.seen l.v-index
