-- What the working arrays of the layout hold.
use Rattle.std.specs.Prelude.{◌≡◌, ◌≢◌, Bool, cond, ◌&&◌, ℕ, zero, suc, ◌≤◌, ◌<◌, ltb, eqb, length, get_or}
use mathlib.Core.List.{List, map, flatten}
use Rattle.plan.specs.Lists.{exists, keep, list_at, below, is_in, index_of}
use Rattle.plan.specs.Mesh.{Mesh, neighbours_of}
use Rattle.plan.specs.Elimination.{column}
use Rattle.theory.specs.Counting.{count, Order}
use Rattle.theory.specs.Checked.{Checked}
use Rattle.theory.specs.Rows.{is_row, first_row}
use Rattle.mesh.specs.Lists.{none}

-- a mesh that passed its checks, an order of its nodes, and the position of each node
pub record Ordered (m : Mesh) (order positions : List ℕ) : Type 0 where
  pub checked : Checked m
  pub once : Order m.nodes order
  pub placed : (v : ℕ) → v < m.nodes → get_or positions v 0 ≡ index_of v order
  pub long : m.nodes ≤ length positions

-- a parent in the elimination tree, the first row of a column, as far as the rows below i tell
abbrev pub parent_below : Mesh → List ℕ → ℕ → ℕ → ℕ
parent_below m order i k = cond (ltb (first_row m order k) i) (first_row m order k) none

-- the rows of column k below i, counted
abbrev pub row_count_below : Mesh → List ℕ → ℕ → ℕ → ℕ
row_count_below m order i k = count (λ r. is_row m order r k) (below i)

-- the elimination tree and the counts as far as the rows below i tell
pub record CountedBelow (m : Mesh) (order : List ℕ) (i : ℕ) (tree counts : List ℕ) : Type 0 where
  pub parent : (k : ℕ) → k < m.nodes → get_or tree k 0 ≡ parent_below m order i k
  pub rows : (k : ℕ) → k < m.nodes → get_or counts k 0 ≡ row_count_below m order i k

-- the elimination tree: each column's parent is its first row; none where it has no row
abbrev pub Tree : Mesh → List ℕ → List ℕ → Type 0
Tree m order tree = (k : ℕ) → k < m.nodes → get_or tree k 0 ≡ parent_below m order m.nodes k

-- the same as a list
unfoldable pub tree_of : Mesh → List ℕ → List ℕ
tree_of m order = map (parent_below m order m.nodes) (below m.nodes)

-- each column's parent is a later column, or none
abbrev pub Rising : ℕ → List ℕ → Type 0
Rising n tree = (c : ℕ) → c < n → get_or tree c 0 ≢ none → (c < get_or tree c 0) × (get_or tree c 0 < n)

-- the greatest column below `bound` whose parent is p; none where there is none
unfoldable pub child_below : List ℕ → ℕ → ℕ → ℕ
child_below tree p zero = none
child_below tree p (suc bound) = cond (eqb (get_or tree bound 0) p) bound (child_below tree p bound)

-- the children of each column among the columns below `bound`, the greatest first: the first one of p, and behind each column with a
-- parent the next one of the same parent
pub record Children (n : ℕ) (tree : List ℕ) (bound : ℕ) (firsts nexts : List ℕ) : Type 0 where
  pub first : (p : ℕ) → p < n → get_or firsts p 0 ≡ child_below tree p bound
  pub next : (c : ℕ) → c < bound → get_or tree c 0 < n → get_or nexts c 0 ≡ child_below tree (get_or tree c 0) c
  pub first_room : n ≤ length firsts
  pub next_room : n ≤ length nexts

-- the positions that `touched` tells get the mark j, and the others keep theirs
abbrev pub Marked : ℕ → (ℕ → Bool) → List ℕ → List ℕ → Type 0
Marked j touched before after = (i : ℕ) → get_or after i 0 ≡ cond (touched i) j (get_or before i 0)

-- none of n positions has a position from j on as its mark
abbrev pub Unmarked : ℕ → ℕ → List ℕ → Type 0
Unmarked n j marks = (i r : ℕ) → i < n → j ≤ r → r < n → get_or marks i 0 ≢ r

-- whether i is the position of a neighbour of the node at position j
unfoldable pub neighbour_position : Mesh → List ℕ → List ℕ → ℕ → ℕ → Bool
neighbour_position m order positions j i = exists (λ w. eqb i (get_or positions w 0)) (neighbours_of m (get_or order j 0))

-- whether a child of column j lists i
unfoldable pub child_row : ℕ → List ℕ → List ℕ → List ℕ → ℕ → ℕ → Bool
child_row n tree column_starts rows j i = exists (λ c. eqb (get_or tree c 0) j && is_in i (list_at column_starts rows c)) (below n)

-- the positions after j and below `bound` that have the mark j
unfoldable pub marked_below : List ℕ → ℕ → ℕ → List ℕ
marked_below marks j bound = keep (λ i. ltb j i && eqb (get_or marks i 0) j) (below bound)

-- k is column j or an ancestor of it: met on the way up the parents from j
pub data Ancestor (tree : List ℕ) (j : ℕ) : ℕ → Type 0 where
  self : Ancestor tree j j
  parent : {k : ℕ} → Ancestor tree j k → get_or tree k 0 ≢ none → Ancestor tree j (get_or tree k 0)

-- the way up from column j among n columns passes over no position that has the mark j
pub record Meets (n j : ℕ) (tree marks : List ℕ) : Type 0 where
  pub rising : Rising n tree
  pub met : (k i : ℕ) → Ancestor tree j k → k < i → i < n → get_or marks i 0 ≡ j → get_or tree k 0 ≤ i

-- the rows of the first j columns, one column after the other
unfoldable pub rows_before : Mesh → List ℕ → ℕ → List ℕ
rows_before m order j = flatten (map (column m order) (below j))
