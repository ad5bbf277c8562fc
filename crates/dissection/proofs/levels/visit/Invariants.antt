-- `dissection::levels::visit` meets its contract: the entries before place k have been touched.
use lib.ListN.{take}
use Rattle.plan.specs.Lists.{is_in}
use Rattle.dissection.specs.Spread.{Spread}
use Rattle.dissection.proofs.levels.visit.Given as goal

abbrev pub invariant-loop-w : goal.invariant-loop-w
invariant-loop-w g l = Spread l.mesh.nodes l.x l.tail l.initial.numbers l.initial.queue (λ v. is_in v (take l.w-index l.w-items)) l.numbers l.queue l.end
