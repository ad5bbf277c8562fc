-- What is shown of joining (document 02, E10): where nodes go, which are neighbours, and that what is handed out passes planning's checks.
use Rattle.std.specs.Prelude.{◌≡◌, ◌⊎◌, true, false, [], map, ℕ, ◌+◌, ◌≤◌, ◌<◌, length, take, get_or, Ok}
use Rattle.plan.specs.declared.MeshCounts.{MeshCounts}
use Rattle.plan.specs.Lists.{is_in}
use Rattle.plan.specs.Refusals.{first_fault}
use Rattle.plan.specs.Mesh.{Mesh, lent, neighbours_of, adjacent, mesh_checks}
use Rattle.plan.specs.MadeMesh.{MeshBuffers, MeshCapacity}
use Rattle.plan.specs.Joining.{Pairing, pairing, bad_pairing, paired_twice, goes_to, joined_nodes, comes_from, joined_neighbours, joined_mesh, joining, MeshesJoined}

-- ---- where nodes go

-- Where the nodes of the second mesh go, for pairs without a fault of 32 or 33.
pub record NodesGo (n₁ n₂ : ℕ) (p : Pairing) : Type 0 where
  -- a paired one goes to its node of the first mesh
  pub paired : (k : ℕ) → k < length p.second → goes_to n₁ p (get_or p.second k 0) ≡ get_or p.first k 0
  -- an unpaired one goes behind the nodes of the first mesh
  pub behind : (w : ℕ) → w < n₂ → is_in w p.second ≡ false → n₁ ≤ goes_to n₁ p w
  -- "in their order"
  pub in_order : (v w : ℕ) → v < w → w < n₂ → is_in v p.second ≡ false → is_in w p.second ≡ false → goes_to n₁ p v < goes_to n₁ p w
  -- each becomes a node of the joined mesh
  pub inside : (w : ℕ) → w < n₂ → goes_to n₁ p w < joined_nodes n₁ n₂ p
  -- no two become the same node, and a node of the joined mesh comes from the one that goes to it
  pub apart : (w : ℕ) → w < n₂ → comes_from n₁ n₂ p (goes_to n₁ p w) ≡ w
  pub back : (v : ℕ) → comes_from n₁ n₂ p v < n₂ → goes_to n₁ p (comes_from n₁ n₂ p v) ≡ v
  -- each node of the joined mesh behind those of the first comes from one
  pub all : (v : ℕ) → n₁ ≤ v → v < joined_nodes n₁ n₂ p → comes_from n₁ n₂ p v < n₂
  -- there are as many nodes as in both meshes, less the pairs
  pub many : joined_nodes n₁ n₂ p + length p.second ≡ n₁ + n₂

abbrev pub WhereNodesGo : Type 0
WhereNodesGo = (n₁ n₂ : ℕ) (p : Pairing) → bad_pairing n₁ n₂ p ≡ false → paired_twice p ≡ false → NodesGo n₁ n₂ p

-- ---- neighbours

-- "Two nodes of the joined mesh are neighbours exactly when, in either mesh, the nodes they come from were."
abbrev pub NeighboursAsStated : Type 0
NeighboursAsStated =
    (a b : Mesh) (p : Pairing) (room : MeshCapacity) → (joining a b p room).reply.number ≡ 0 → (v w : ℕ)
    → adjacent (joined_mesh a b p) v w ≡ joined_neighbours a b p v w

-- Neighbours of either mesh stay neighbours where they go, and no others become so.
pub record NeighboursKept (a b : Mesh) (p : Pairing) : Type 0 where
  pub first : (v w : ℕ) → adjacent a v w ≡ true → adjacent (joined_mesh a b p) v w ≡ true
  pub second : (v w : ℕ) → adjacent b v w ≡ true → adjacent (joined_mesh a b p) (goes_to a.nodes p v) (goes_to a.nodes p w) ≡ true
  pub others : (v w : ℕ) → adjacent (joined_mesh a b p) v w ≡ true
      → (adjacent a v w ≡ true) ⊎ ((x : ℕ) × (y : ℕ) × (adjacent b x y ≡ true) × (goes_to a.nodes p x ≡ v) × (goes_to a.nodes p y ≡ w))

abbrev pub NeighboursStay : Type 0
NeighboursStay = (a b : Mesh) (p : Pairing) (room : MeshCapacity) → (joining a b p room).reply.number ≡ 0 → NeighboursKept a b p

-- The neighbours of an unpaired node of the first mesh keep their numbers.
abbrev pub UnpairedStay : Type 0
UnpairedStay =
    (a b : Mesh) (p : Pairing) (room : MeshCapacity) → (joining a b p room).reply.number ≡ 0 → (v : ℕ) → v < a.nodes → is_in v p.first ≡ false
    → neighbours_of (joined_mesh a b p) v ≡ neighbours_of a v

-- Joining with no pairs puts the meshes side by side: the second's nodes follow, and so do their lists.
pub record Beside (a b m : Mesh) : Type 0 where
  pub nodes : m.nodes ≡ a.nodes + b.nodes
  pub first : (v : ℕ) → v < a.nodes → neighbours_of m v ≡ neighbours_of a v
  pub second : (w : ℕ) → w < b.nodes → neighbours_of m (a.nodes + w) ≡ map (λ x. a.nodes + x) (neighbours_of b w)

abbrev pub SideBySide : Type 0
SideBySide =
    (a b : Mesh) (room : MeshCapacity) → (joining a b (pairing [] []) room).reply.number ≡ 0 → Beside a b (joined_mesh a b (pairing [] []))

-- ---- what is handed out

-- An accepted joining gives a mesh that passes planning's checks of a mesh, 1 to 7 and 26.
abbrev pub JoinedPasses : Type 0
JoinedPasses =
    (a b : Mesh) (p : Pairing) (room : MeshCapacity) → (joining a b p room).reply.number ≡ 0 → first_fault (mesh_checks (joined_mesh a b p)) ≡ 0

-- So does what is handed out, lent to planning by the counts that were answered; it is the joined mesh.
abbrev pub JoinedHanded : Type 0
JoinedHanded =
    (a b : Mesh) (p : Pairing) (c : MeshCounts) (found left : MeshBuffers) → MeshesJoined a b p (Ok c) found left
    → (lent c.nodes (take (c.nodes + 1) left.starts) (take c.entries left.neighbours) ≡ joined_mesh a b p)
    × (first_fault (mesh_checks (joined_mesh a b p)) ≡ 0)
