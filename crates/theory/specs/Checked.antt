-- What the theorems ask of a mesh: mirrored lists, or all that checks 1 to 7 and 26 say.
use Rattle.std.specs.Prelude.{◌≡◌, true, false, List, ℕ, ◌+◌, ◌≤◌, ◌<◌, length, get_or}
use Rattle.plan.specs.Lists.{ascending, falls}
use Rattle.plan.specs.Mesh.{max_nodes, max_entries, max_neighbours, Mesh, neighbours_of, adjacent}

-- "w stands in v's list exactly when v stands in w's"
pub record Symmetric (m : Mesh) : Type 0 where
  pub mirror : (v w : ℕ) → adjacent m v w ≡ true → adjacent m w v ≡ true

-- the starts of n lists: n + 1 of them, the first 0, none less than the one before
pub record Starts (n : ℕ) (starts : List ℕ) : Type 0 where
  pub many : length starts ≡ n + 1
  pub zero_first : get_or starts 0 0 ≡ 0
  pub rising : falls starts ≡ false

-- What checks 1 to 7 and 26 say of a mesh that passes them, check by check, of all numbers v and w: past the nodes the lists are empty.
pub record Checked (m : Mesh) : Type 0 where
  -- 1
  pub some : 0 < m.nodes
  pub few : m.nodes ≤ max_nodes
  -- 2
  pub starts : Starts m.nodes m.starts
  pub last : get_or m.starts m.nodes 0 ≡ length m.neighbours
  -- 3
  pub entries : length m.neighbours ≤ max_entries
  -- 4
  pub inside : (v w : ℕ) → adjacent m v w ≡ true → (v < m.nodes) × (w < m.nodes)
  -- 5
  pub loopless : (v : ℕ) → adjacent m v v ≡ false
  -- 6
  pub ascends : (v : ℕ) → ascending (neighbours_of m v) ≡ true
  -- 26
  pub short : (v : ℕ) → length (neighbours_of m v) ≤ max_neighbours
  -- 7
  pub symmetric : Symmetric m
