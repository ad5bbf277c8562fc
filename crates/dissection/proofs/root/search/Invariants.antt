-- `dissection::root::search` meets its contract: what is found from the root at hand is the region's root, and the search ends at it.
use mathlib.Core.Path.{◌≡◌}
use mathlib.Core.Bool.{false}
use mathlib.Core.List.{List}
use Prim.Native.Nat.{ℕ}
use lib.ListN.{length}
use Rattle.plan.specs.Mesh.{Mesh}
use Rattle.plan.specs.Choice.{improves, root_of}
use Rattle.theory.proofs.RootSearch.{improvers}
use Rattle.mesh.specs.Lent.{as_lent}
use Rattle.dissection.specs.Numbers.{Only}
use Rattle.dissection.specs.Standing.{Regional, Standing}
use Rattle.dissection.specs.Rooted.{Measured}
use Rattle.dissection.proofs.Roots.{found_from}
use Rattle.dissection.proofs.root.search.Given as goal

-- what holds of the root at hand, and of the array in which others are tried
pub record Searched (m : Mesh) (nodes numbers trial queue : List ℕ) (root last widest former : ℕ) : Type 0 where
  pub regional : Regional m nodes numbers queue
  pub tried : Only m.nodes nodes trial
  pub measured : Measured m nodes root last widest
  pub standing : Standing m nodes root numbers
  pub behind : improves m nodes root former ≡ false
  pub found : found_from m nodes root ≡ root_of m nodes

abbrev pub invariant-loop-root : goal.invariant-loop-root
invariant-loop-root g l =
    (length l.numbers ≡ length l.initial.numbers) × (length l.trial ≡ length l.initial.trial) × (length l.queue ≡ length l.initial.queue) × (length l.found ≡ length l.initial.found)
    × Searched (as_lent l.region.mesh) l.region.nodes.now l.numbers l.trial l.queue l.root.node l.root.last l.root.width l.former

abbrev pub decreases-loop-root : goal.decreases-loop-root
decreases-loop-root g l = improvers (as_lent l.region.mesh) l.region.nodes.now l.root.node
