-- Paths (document 01, "From mesh to parts"), and the three statements of the user's demand 3 (docs/GUIDE.md) over the buffers that planning hands out
-- (document 01, "The layout").
use Rattle.std.specs.Prelude.{Bool, true, ◌&&◌, ◌≡◌, ◌↔◌, List, [], ◌∷◌, ◌++◌, ℕ, ◌≤◌, ◌<◌, ltb, get_or}
use Rattle.plan.specs.Lists.{every, is_in, index_of, list_at}
use Rattle.plan.specs.Mesh.{Mesh, adjacent}
use Rattle.plan.specs.Parts.{part_of, at_or_above, bound}

-- "A path is a list of nodes, each a neighbour in the mesh of the one before it."
unfoldable pub is_path : Mesh → List ℕ → Bool
is_path m [] = true
is_path m (v ∷ []) = true
is_path m (v ∷ (w ∷ ws)) = adjacent m v w && is_path m (w ∷ ws)

-- whether every node of a list is earlier than position j: "Earlier means a smaller position"
unfoldable pub all_earlier : List ℕ → ℕ → List ℕ → Bool
all_earlier order j nodes = every (λ v. ltb (index_of v order) j) nodes

-- A path from node v to node w with every node between them earlier than j: "The nodes between are all but the first and the last; two neighbours
-- make a path with none between."
pub record EarlierPath (m : Mesh) (order : List ℕ) (j v w : ℕ) : Type 0 where
  pub between : List ℕ
  pub path : is_path m (v ∷ (between ++ (w ∷ []))) ≡ true
  pub passed : all_earlier order j between ≡ true

-- "row i of column j has a slot exactly when i stands in the lent rows from column start j up to, not including, column start j + 1"
unfoldable pub has_slot : List ℕ → List ℕ → ℕ → ℕ → Bool
has_slot column_starts rows i j = is_in i (list_at column_starts rows j)

-- Demand 3, for the used entries of order, sizes and parents, and the column starts and rows as they are handed out.
pub record Demand3 (m : Mesh) (order sizes parents column_starts rows : List ℕ) : Type 0 where
  -- "row i of column j has a slot exactly when i is later than j and a path in the mesh joins their nodes with every node between them earlier than
  -- j"
  pub paths :
      (i j : ℕ) → i < m.nodes → j < m.nodes →
      (has_slot column_starts rows i j ≡ true) ↔ ((j < i) × EarlierPath m order j (get_or order j 0) (get_or order i 0))
  -- "where it has one, i lies in j's own part or a forefather of it"
  pub nested :
      (i j : ℕ) → i < m.nodes → j < m.nodes →
      has_slot column_starts rows i j ≡ true → at_or_above parents (part_of sizes j) (part_of sizes i) ≡ true
  -- "the plan's slots, all columns together, number at most the sum, over all its parts, of .."; "all slots together number column start n"
  pub bounded : get_or column_starts m.nodes 0 ≤ bound m order sizes parents
