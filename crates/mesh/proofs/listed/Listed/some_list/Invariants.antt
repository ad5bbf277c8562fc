-- `mesh::Listed::some_list`: no list before node v breaks the rule, whichever it is that the closure tells.
use Rattle.std.proofs.Common.{Bool, List, ℕ}
use Rattle.plan.specs.Mesh.{neighbours_of}
use Rattle.theory.proofs.Scans.{Clear}
use Rattle.mesh.specs.Lent.{listed_by}
use Rattle.mesh.specs.Lists.{TellsLists}
use Rattle.mesh.proofs.listed.Listed.some_list.Given as goal

abbrev pub invariant-loop-v : goal.invariant-loop-v
invariant-loop-v g l = (rule : ℕ → List ℕ → Bool) → TellsLists g.F.Fn l.breaks rule → Clear (λ v. rule v (neighbours_of (listed_by l.self) v)) l.v
