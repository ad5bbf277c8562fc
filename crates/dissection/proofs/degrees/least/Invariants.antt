-- `dissection::degrees::least` meets its contract: after i nodes each group is led by the least of its nodes among them.
use mathlib.Core.Path.{◌≡◌}
use Prim.Native.Nat.{◌≤◌}
use lib.ListN.{length, take}
use Rattle.mesh.specs.Lent.{as_lent}
use Rattle.dissection.specs.Degrees.{degree_by}
use Rattle.dissection.proofs.LeastDegrees.{Leading}
use Rattle.dissection.proofs.degrees.least.Given as goal

abbrev pub invariant-loop-v : goal.invariant-loop-v
invariant-loop-v l =
    (l.v-index ≤ length l.region.nodes.now) × (length l.best ≡ length l.initial.best) × (length l.degrees ≡ length l.initial.degrees)
    × Leading (degree_by (as_lent l.region.mesh) l.numbers) l.groups l.count (take l.v-index l.region.nodes.now) l.best l.degrees
