-- `dissection::root::first_better` meets its contract: no candidate passed improves.
use mathlib.Core.Path.{◌≡◌}
use lib.ListN.{length, drop}
use Rattle.plan.specs.Lists.{keep}
use Rattle.plan.specs.Choice.{improves}
use Rattle.mesh.specs.Lent.{as_lent}
use Rattle.dissection.specs.Standing.{Regional}
use Rattle.dissection.proofs.root.first_better.Given as goal

abbrev pub invariant-loop-candidate : goal.invariant-loop-candidate
invariant-loop-candidate g l =
    (length l.numbers ≡ length l.initial.numbers) × (length l.queue ≡ length l.initial.queue) × Regional (as_lent l.region.mesh) l.region.nodes.now l.numbers l.queue
    × (keep (improves (as_lent l.region.mesh) l.region.nodes.now l.root.node) l.found ≡ keep (improves (as_lent l.region.mesh) l.region.nodes.now l.root.node) (drop l.candidate-index l.found))
