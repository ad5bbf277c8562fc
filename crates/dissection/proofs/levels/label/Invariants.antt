-- `dissection::levels::label` meets its contract: the loop finds one component after the other.
use mathlib.Core.Path.{◌≡◌}
use lib.ListN.{length}
use Rattle.plan.specs.Mesh.{adjacent}
use Rattle.mesh.specs.Lent.{as_lent}
use Rattle.dissection.proofs.Labels.{Labelling}
use Rattle.dissection.proofs.levels.label.Given as goal

abbrev pub invariant-loop-v : goal.invariant-loop-v
invariant-loop-v g l =
    (length l.numbers ≡ length l.initial.numbers)
    × (length l.queue ≡ length l.initial.queue)
    × (length l.begins ≡ length l.initial.begins)
    × Labelling l.region.mesh.nodes (adjacent (as_lent l.region.mesh)) l.region.nodes.now l.at l.initial.numbers l.v-index l.numbers l.begins l.count
