-- `layout::counts::count_rows` meets its contract: row after row is counted.
use mathlib.Core.Path.{◌≡◌}
use mathlib.Core.List.{List}
use Prim.Native.Nat.{ℕ, ◌≤◌}
use lib.ListN.{length, drop}
use Rattle.plan.specs.Mesh.{max_nodes, Mesh}
use Rattle.mesh.specs.Lent.{as_lent}
use Rattle.layout.specs.Arrays.{Unmarked, CountedBelow}
use Rattle.layout.proofs.counts.count_rows.Given as goal

-- the rows below i are counted, and what is behind the columns is as found
pub record Inv (m : Mesh) (order tree₀ counts₀ tree counts marks : List ℕ) (i : ℕ) : Type 0 where
  pub counted : CountedBelow m order i tree counts
  pub unmarked : Unmarked m.nodes i marks
  pub low : i ≤ m.nodes
  pub long_tree : length tree ≡ length tree₀
  pub long_counts : length counts ≡ length counts₀
  pub long_marks : length marks ≡ max_nodes
  pub rest_tree : drop m.nodes tree ≡ drop m.nodes tree₀
  pub rest_counts : drop m.nodes counts ≡ drop m.nodes counts₀

abbrev pub invariant-loop-i : goal.invariant-loop-i
invariant-loop-i l = Inv (as_lent l.mesh) l.order l.initial.tree l.initial.counts l.tree l.counts l.marks l.i
