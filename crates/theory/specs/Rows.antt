-- Neighbours, rows and first rows by position, in the words of the theorems.
use Rattle.std.specs.Prelude.{Bool, ℕ, get_or}
use mathlib.Core.List.{List, head_d}
use Rattle.plan.specs.Lists.{is_in}
use Rattle.plan.specs.Mesh.{Mesh, adjacent}
use Rattle.plan.specs.Elimination.{column}

-- whether the nodes at two positions are neighbours
unfoldable pub edge_at : Mesh → List ℕ → ℕ → ℕ → Bool
edge_at m order a b = adjacent m (get_or order a 0) (get_or order b 0)

-- whether column j has row i
unfoldable pub is_row : Mesh → List ℕ → ℕ → ℕ → Bool
is_row m order i j = is_in i (column m order j)

-- the first row of column j, its parent in the elimination tree; the number of nodes where it has none
unfoldable pub first_row : Mesh → List ℕ → ℕ → ℕ
first_row m order j = head_d (column m order j) m.nodes
