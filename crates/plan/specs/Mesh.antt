-- Document 01, "The mesh as lent", and checks 1 to 7 with 26 of document 02, E3.
use Rattle.std.specs.Prelude.{Bool, not, ◌||◌, List, [], ◌∷◌, ℕ, ◌+◌, leb, ltb, eqb, length, get_or}
use Rattle.plan.specs.Lists.{exists, below, is_in, list_at, ascending, falls}
use Rattle.plan.specs.Refusals.{Checks}

-- "The limits are constants of the plan's own kind": "At most 4,096 nodes and 65,536 neighbour entries", and "A father is 65,535 for none."
abbrev pub max_nodes : ℕ
max_nodes = 4096

abbrev pub max_entries : ℕ
max_entries = 65536

abbrev pub no_parent : ℕ
no_parent = 65535

-- Document 02, E3: "Make 26 the limit for every node"
abbrev pub max_neighbours : ℕ
max_neighbours = 26

-- Document 02, E7: "Every plan now carries the number of unknowns for each node, 1 to 6."
abbrev pub max_unknowns : ℕ
max_unknowns = 6

-- "A mesh has n nodes, 0 to n − 1. The starts are n + 1 numbers of 32 bits and the neighbours are numbers of 16 bits". n is lent by itself; the
-- widths are those of the slices.
pub record Mesh : Type 0 where
  pub nodes : ℕ
  pub starts : List ℕ
  pub neighbours : List ℕ

-- the mesh that n, the starts and the neighbours make
abbrev pub lent : ℕ → List ℕ → List ℕ → Mesh
lent n starts neighbours = record { nodes = n; starts = starts; neighbours = neighbours }

-- "node v's list runs from start v up to, not including, start v + 1"
unfoldable pub neighbours_of : Mesh → ℕ → List ℕ
neighbours_of m v = list_at m.starts m.neighbours v

-- whether w stands in v's list
unfoldable pub adjacent : Mesh → ℕ → ℕ → Bool
adjacent m v w = is_in w (neighbours_of m v)

-- 1: n is 0 or above 4,096
unfoldable pub bad_node_count : ℕ → Bool
bad_node_count n = eqb n 0 || ltb max_nodes n

-- starts of n lists: "not n + 1 long, first not 0, falling"
unfoldable pub bad_starts : ℕ → List ℕ → Bool
bad_starts n starts = not (eqb (length starts) (n + 1)) || not (eqb (get_or starts 0 0) 0) || falls starts

-- 2: starts not n + 1 long, first not 0, falling, or last not the neighbours' length
unfoldable pub bad_mesh_starts : Mesh → Bool
bad_mesh_starts m = bad_starts m.nodes m.starts || not (eqb (get_or m.starts m.nodes 0) (length m.neighbours))

-- 3: more than 65,536 entries
unfoldable pub too_many_entries : Mesh → Bool
too_many_entries m = ltb max_entries (length m.neighbours)

-- 4: a neighbour is n or more
unfoldable pub neighbour_outside : Mesh → Bool
neighbour_outside m = exists (leb m.nodes) m.neighbours

-- 5: a node lists itself
unfoldable pub lists_itself : Mesh → Bool
lists_itself m = exists (λ v. adjacent m v v) (below m.nodes)

-- 6: a list is not strictly ascending
unfoldable pub not_ascending : Mesh → Bool
not_ascending m = exists (λ v. not (ascending (neighbours_of m v))) (below m.nodes)

-- 26: "a list longer than 26 entries"
unfoldable pub list_too_long : Mesh → Bool
list_too_long m = exists (λ v. ltb max_neighbours (length (neighbours_of m v))) (below m.nodes)

-- 7: an entry is one-sided
unfoldable pub one_sided : Mesh → Bool
one_sided m = exists (λ v. exists (λ w. not (adjacent m w v)) (neighbours_of m v)) (below m.nodes)

-- checks 1 to 7; 26 comes "after 6 and before 7"
unfoldable pub mesh_checks : Mesh → Checks
mesh_checks m =
    (1, bad_node_count m.nodes)
    ∷ (2, bad_mesh_starts m)
    ∷ (3, too_many_entries m)
    ∷ (4, neighbour_outside m)
    ∷ (5, lists_itself m)
    ∷ (6, not_ascending m)
    ∷ (26, list_too_long m)
    ∷ (7, one_sided m)
    ∷ []
