-- `dissection::cut::separate` meets its contract: of the nodes passed, those of the separator are left out.
use Rattle.mesh.specs.Lent.{as_lent}
use Rattle.dissection.proofs.Renumbering.{Renumbering}
use Rattle.dissection.proofs.Cuts.{left_out}
use Rattle.dissection.proofs.cut.separate.Given as goal

abbrev pub invariant-loop-v : goal.invariant-loop-v
invariant-loop-v l = Renumbering (left_out (as_lent l.region.mesh) l.j l.initial.numbers) l.region.nodes.now l.initial.numbers l.v-index l.numbers
