-- `dissection::levels::advance` meets its contract: the lists of the nodes passed have been visited, from the places behind place hi on.
use lib.ListN.{take}
use Rattle.plan.specs.Lists.{exists}
use Rattle.plan.specs.Mesh.{adjacent}
use Rattle.mesh.specs.Lent.{as_lent}
use Rattle.dissection.specs.Spread.{Spread}
use Rattle.dissection.proofs.levels.advance.Given as goal

abbrev pub invariant-loop-u : goal.invariant-loop-u
invariant-loop-u g l = Spread l.mesh.nodes l.x 0 l.initial.numbers l.initial.places (λ v. exists (λ u. adjacent (as_lent l.mesh) u v) (take l.u-index l.u-items)) l.numbers l.places l.end
