-- `mesh::contains`: what has been found is whether x is among the entries so far.
use Rattle.std.proofs.Common.{◌≡◌, take}
use Rattle.plan.specs.Lists.{is_in}
use Rattle.mesh.proofs.contains.Given as goal

abbrev pub invariant-loop-y : goal.invariant-loop-y
invariant-loop-y l = l.found ≡ is_in l.x (take l.y-index l.entries)
