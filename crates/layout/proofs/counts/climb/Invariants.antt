-- `layout::counts::climb` meets its contract: each turn counts and marks one column on the way up, and the parent is later than the column.
use mathlib.Core.Path.{◌≡◌}
use mathlib.Core.List.{List}
use Prim.Native.Nat.{ℕ, ◌-◌, ◌≤◌, ◌<◌}
use lib.ListN.{length, get_or}
use Rattle.plan.specs.Mesh.{max_nodes}
use Rattle.layout.specs.Climbing.{Climbable}
use Rattle.layout.proofs.Climbing.{Way}
use Rattle.layout.proofs.counts.climb.Given as goal

-- column k is next on the way from `start`, whatever the mesh and the order; it lies within the lists, which are as long as they were, and
-- its count is small
pub record Inv (i start : ℕ) (tree₀ marks₀ counts₀ tree marks counts : List ℕ) (k : ℕ) : Type 0 where
  pub way : (w : Climbable i start tree₀ marks₀ counts₀) → Way w.mesh w.order i start tree₀ marks₀ counts₀ tree marks counts k
  pub long_tree : length tree ≡ length tree₀
  pub long_marks : length marks ≡ length marks₀
  pub long_counts : length counts ≡ length counts₀
  pub in_tree : k < length tree
  pub in_marks : k < length marks
  pub in_counts : k < length counts
  pub few : get_or counts k 0 ≤ max_nodes

abbrev pub invariant-loop-marks : goal.invariant-loop-marks
invariant-loop-marks l = Inv l.i l.start l.initial.tree l.initial.marks l.initial.counts l.tree l.marks l.counts l.k

abbrev pub decreases-loop-marks : goal.decreases-loop-marks
decreases-loop-marks l = l.i - l.k
