-- The lists of the joined mesh, by an array that tells where the nodes of the second mesh go and one that tells where those of the joined mesh come
-- from.
use Rattle.std.specs.Prelude.{◌≡◌, false, List, map, ℕ, ◌≤◌, length, take, get_or}
use Rattle.plan.specs.Lists.{below, twice}
use Rattle.plan.specs.Mesh.{max_nodes, Mesh, neighbours_of}
use Rattle.theory.specs.Checked.{Checked}
use Rattle.join.specs.Merging.{merged, gone}

-- node v's list
unfoldable pub merged_list : Mesh → Mesh → List ℕ → List ℕ → ℕ → List ℕ
merged_list a b goes from v = merged (gone goes (neighbours_of b (get_or from v 0))) (neighbours_of a v)

-- those of the first n nodes
unfoldable pub merged_lists : Mesh → Mesh → List ℕ → List ℕ → ℕ → List (List ℕ)
merged_lists a b goes from n = map (merged_list a b goes from) (below n)

-- two meshes that pass their checks, and arrays that are long enough; no two nodes of the second mesh go to the same one
pub record Mergeable (a b : Mesh) (goes from : List ℕ) (n : ℕ) : Type 0 where
  pub first : Checked a
  pub second : Checked b
  pub few : n ≤ max_nodes
  pub going : b.nodes ≤ length goes
  pub coming : n ≤ length from
  pub apart : twice (take b.nodes goes) ≡ false
