-- Document 02, E10: two meshes joined along a list of pairs; checks 1 to 7 with 26 of the first mesh, then of the second, 32, 33, then 1, 3, 26 and
-- 8 of the joined one.
use Rattle.std.specs.Prelude.{Bool, not, cond, ◌||◌, List, [], ◌∷◌, ◌++◌, map, ℕ, ◌+◌, leb, eqb, length, get_or, Result}
use Rattle.plan.specs.declared.MeshCounts.{MeshCounts}
use Rattle.plan.specs.declared.refusal.Refusal.{Refusal}
use Rattle.plan.specs.Lists.{exists, below, is_in, without, twice, index_of}
use Rattle.plan.specs.Refusals.{Checks, first_fault}
use Rattle.plan.specs.Mesh.{Mesh, adjacent, mesh_checks}
use Rattle.plan.specs.Elimination.{tabulate}
use Rattle.plan.specs.MadeMesh.{mesh_of, MeshBuffers, MeshCapacity, mesh_capacity, made_checks, MeshOutcome, hand_mesh, MeshFilled}

-- "a list of pairs, a node of the first with a node of the second": pair k is made of entry k of `first`, a node of the first mesh, and entry k of
-- `second`, a node of the second
pub record Pairing : Type 0 where
  pub first : List ℕ
  pub second : List ℕ

abbrev pub pairing : List ℕ → List ℕ → Pairing
pairing first second = record { first = first; second = second }

-- 32: "the pairs' two lists differ in length, or a pair names a node that does not exist". The meshes have n₁ and n₂ nodes.
unfoldable pub bad_pairing : ℕ → ℕ → Pairing → Bool
bad_pairing n₁ n₂ p = not (eqb (length p.first) (length p.second)) || exists (leb n₁) p.first || exists (leb n₂) p.second

-- 33: "a node of either mesh paired twice"
unfoldable pub paired_twice : Pairing → Bool
paired_twice p = twice p.first || twice p.second

-- ---- where nodes go, and where they come from

-- "The first mesh keeps its node numbers; the second's unpaired nodes follow in their order." So a node of the first mesh goes to its own number.
-- This is where node w of the second goes: a paired one to its node of the first mesh, an unpaired one to n₁ and as many more as there are unpaired
-- ones before it.
unfoldable pub goes_to : ℕ → Pairing → ℕ → ℕ
goes_to n₁ p w = cond (is_in w p.second) (get_or p.first (index_of w p.second) 0) (n₁ + length (without p.second (below w)))

-- the nodes of the joined mesh: those of the first, and the second's unpaired ones
unfoldable pub joined_nodes : ℕ → ℕ → Pairing → ℕ
joined_nodes n₁ n₂ p = n₁ + length (without p.second (below n₂))

-- The node of the second mesh that node v of the joined one comes from, the one that goes to v; n₂, which is no node, where none does.
unfoldable pub comes_from : ℕ → ℕ → Pairing → ℕ → ℕ
comes_from n₁ n₂ p v = index_of v (map (goes_to n₁ p) (below n₂))

-- ---- the joined mesh

-- "Two nodes of the joined mesh are neighbours exactly when, in either mesh, the nodes they come from were." In the first mesh these are the nodes of
-- the same numbers. In a mesh that passes its checks a number that is no node has no neighbours, nor is it one.
unfoldable pub joined_neighbours : Mesh → Mesh → Pairing → ℕ → ℕ → Bool
joined_neighbours a b p v w = adjacent a v w || adjacent b (comes_from a.nodes b.nodes p v) (comes_from a.nodes b.nodes p w)

unfoldable pub joined_lists : Mesh → Mesh → Pairing → List (List ℕ)
joined_lists a b p = tabulate (joined_nodes a.nodes b.nodes p) (joined_neighbours a b p)

unfoldable pub joined_mesh : Mesh → Mesh → Pairing → Mesh
joined_mesh a b p = mesh_of (joined_nodes a.nodes b.nodes p) (joined_lists a b p)

-- ---- what is handed out

-- 32 and 33: "Both follow the checks of the first mesh, then of the second."
unfoldable pub lent_checks : Mesh → Mesh → Pairing → Checks
lent_checks a b p = mesh_checks a ++ (mesh_checks b ++ ((32, bad_pairing a.nodes b.nodes p) ∷ (33, paired_twice p) ∷ []))

-- "The joined mesh passes checks 1, 3 and 26, then 8 for its buffers."
unfoldable pub join_checks : Mesh → Mesh → Pairing → MeshCapacity → Checks
join_checks a b p room = lent_checks a b p ++ made_checks (joined_mesh a b p) room

-- joining, whole
unfoldable pub joining : Mesh → Mesh → Pairing → MeshCapacity → MeshOutcome
joining a b p room = hand_mesh (first_fault (join_checks a b p room)) (joined_mesh a b p)

-- The promise of joining: the answer and both buffers are those of `joining`.
abbrev pub MeshesJoined : Mesh → Mesh → Pairing → Result MeshCounts Refusal → MeshBuffers → MeshBuffers → Type 0
MeshesJoined a b p answer found left = MeshFilled (joining a b p (mesh_capacity found)) answer found left
