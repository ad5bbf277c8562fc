-- `layout::counts::count_row` meets its contract: the loop climbs from each neighbour of the node at position i, and with them all columns
-- that have row i are counted.
use mathlib.Core.Path.{◌≡◌}
use mathlib.Core.List.{List}
use Prim.Native.Nat.{ℕ, ◌≤◌, ◌<◌}
use lib.ListN.{length, drop, get_or}
use Rattle.plan.specs.Mesh.{Mesh, neighbours_of}
use Rattle.mesh.specs.Lent.{as_lent}
use Rattle.layout.specs.Climbing.{Climbing}
use Rattle.layout.proofs.counts.count_row.Given as goal

-- the earlier neighbours among the first e entries are marked
pub record Inv (m : Mesh) (order positions : List ℕ) (i : ℕ) (entries tree₀ marks₀ counts₀ tree marks counts : List ℕ) (e : ℕ) : Type 0 where
  pub near : entries ≡ neighbours_of m (get_or order i 0)
  pub climbing : Climbing m order i i tree marks counts
  pub reached : (p : ℕ) → p < e → get_or positions (get_or entries p 0) 0 < i → get_or marks (get_or positions (get_or entries p 0) 0) 0 ≡ i
  pub low : e ≤ length entries
  pub long_tree : length tree ≡ length tree₀
  pub long_marks : length marks ≡ length marks₀
  pub long_counts : length counts ≡ length counts₀
  pub rest_tree : drop m.nodes tree ≡ drop m.nodes tree₀
  pub rest_counts : drop m.nodes counts ≡ drop m.nodes counts₀

abbrev pub invariant-loop-w : goal.invariant-loop-w
invariant-loop-w l = Inv (as_lent l.ordered.mesh) l.ordered.order.now l.ordered.positions.now l.i l.w-items l.initial.tree l.initial.marks l.initial.counts l.tree l.marks l.counts l.w-index
