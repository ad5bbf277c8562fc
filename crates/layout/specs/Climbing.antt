-- What the working arrays hold while row i is counted, by climbing from its earlier neighbours.
use Rattle.std.specs.Prelude.{◌≡◌, ◌≢◌, true, cond, List, ℕ, ◌+◌, ◌≤◌, ◌<◌, eqb, length, drop, get_or}
use Rattle.plan.specs.Mesh.{Mesh, max_nodes}
use Rattle.theory.specs.Rows.{is_row, first_row}
use Rattle.layout.specs.Arrays.{Unmarked, parent_below, row_count_below}

-- the first row that is not counted in column k: i + 1 where the column has row i's mark, i elsewhere
abbrev pub counted_up_to : List ℕ → ℕ → ℕ → ℕ
counted_up_to marks i k = cond (eqb (get_or marks k 0) i) (i + 1) i

-- Row i, counted as far as its marks tell: the marked columns have the row, and with a column its parent is marked, but for the parent
-- `next`, which is yet to be looked at. Position i has the mark too.
pub record Climbing (m : Mesh) (order : List ℕ) (i next : ℕ) (tree marks counts : List ℕ) : Type 0 where
  pub parent : (k : ℕ) → k < m.nodes → get_or tree k 0 ≡ parent_below m order (counted_up_to marks i k) k
  pub rows : (k : ℕ) → k < m.nodes → get_or counts k 0 ≡ row_count_below m order (counted_up_to marks i k) k
  pub self : get_or marks i 0 ≡ i
  pub sound : (k : ℕ) → k < m.nodes → k ≢ i → get_or marks k 0 ≡ i → is_row m order i k ≡ true
  pub closed : (k : ℕ) → k < m.nodes → get_or marks k 0 ≡ i → first_row m order k < i → first_row m order k ≢ next → get_or marks (first_row m order k) 0 ≡ i
  pub unmarked : Unmarked m.nodes (i + 1) marks

-- what a climb starts from: row i of a mesh in an order, and a column that has it, unless the column is not before i
pub record Climbable (i start : ℕ) (tree marks counts : List ℕ) : Type 0 where
  pub mesh : Mesh
  pub order : List ℕ
  pub few : mesh.nodes ≤ max_nodes
  pub inside : i < mesh.nodes
  pub room_tree : mesh.nodes ≤ length tree
  pub room_marks : mesh.nodes ≤ length marks
  pub room_counts : mesh.nodes ≤ length counts
  pub climbing : Climbing mesh order i i tree marks counts
  pub row : start < i → is_row mesh order i start ≡ true

-- what it leaves: the column is marked, and so are those that were; and behind the columns the tree and the counts are as found
pub record Climbed (m : Mesh) (order : List ℕ) (i start : ℕ) (tree₀ marks₀ counts₀ tree marks counts : List ℕ) : Type 0 where
  pub climbing : Climbing m order i i tree marks counts
  pub reached : start < i → get_or marks start 0 ≡ i
  pub kept : (k : ℕ) → get_or marks₀ k 0 ≡ i → get_or marks k 0 ≡ i
  pub rest_tree : drop m.nodes tree ≡ drop m.nodes tree₀
  pub rest_counts : drop m.nodes counts ≡ drop m.nodes counts₀
