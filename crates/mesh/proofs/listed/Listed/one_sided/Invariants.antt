-- `mesh::Listed::one_sided` meets its contract: the outer loop tries each node, the inner one each entry of its list, and the first entry that passes ends
-- both.
use mathlib.Core.Path.{◌≡◌}
use mathlib.Core.Bool.{Bool, false, not}
use Prim.Native.Nat.{ℕ}
use Rattle.plan.specs.Lists.{exists}
use Rattle.plan.specs.Mesh.{Mesh, neighbours_of, adjacent}
use Rattle.theory.proofs.Scans.{Clear, element_at}
use Rattle.mesh.specs.Lent.{listed_by}
use Rattle.mesh.proofs.listed.Listed.one_sided.Given as goal

-- whether the entry w of v's list is one-sided
abbrev pub lone : Mesh → ℕ → ℕ → Bool
lone m v w = not (adjacent m w v)

-- whether v's list has such an entry
abbrev pub lone_in : Mesh → ℕ → Bool
lone_in m v = exists (lone m v) (neighbours_of m v)

abbrev pub invariant-loop-w : goal.invariant-loop-w
invariant-loop-w l = (l.missing ≡ false) × Clear (element_at (lone (listed_by l.self) l.v) l.w-items) l.w-index

abbrev pub invariant-nodes : goal.invariant-nodes
invariant-nodes l = (l.missing ≡ false) × Clear (lone_in (listed_by l.self)) l.v
