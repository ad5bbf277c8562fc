-- Document 02, E10: pairs of meshes joined, in one table, and the one statement that every row of it holds.
use Rattle.std.specs.Prelude.{Bool, true, ◌&&◌, ◌≡◌, refl, List, [], ◌∷◌, map, ℕ, ◌+◌, ◌-◌, eqb, length, replicate}
use Rattle.plan.specs.Lists.{every, up_from, same}
use Rattle.plan.specs.Refusals.{first_fault}
use Rattle.plan.specs.Answers.{Reply, accepted, refused}
use Rattle.plan.specs.Mesh.{Mesh}
use Rattle.plan.specs.MadeMesh.{mesh_of, MeshBuffers, mesh_buffers, mesh_lengths, mesh_capacity, made_checks, MeshOutcome, fill_mesh}
use Rattle.plan.specs.Joining.{Pairing, pairing, joined_nodes, join_checks, joining}
use Rattle.plan.specs.Everything.{everything}
use Rattle.plan.specs.Starred.{stale, holds_front, same_reply}

-- no node; two that are not neighbours; two that are; two of which only 0 lists the other
abbrev pub none : List (List ℕ)
none = []

abbrev pub apart : List (List ℕ)
apart = [] ∷ [] ∷ []

abbrev pub edge : List (List ℕ)
edge = (1 ∷ []) ∷ (0 ∷ []) ∷ []

abbrev pub half_edge : List (List ℕ)
half_edge = (1 ∷ []) ∷ [] ∷ []

-- 0-1-2; the same closed; 0-1-2-3, closed; 0-1-2 with node 3 next to each
abbrev pub chain : List (List ℕ)
chain = (1 ∷ []) ∷ (0 ∷ 2 ∷ []) ∷ (1 ∷ []) ∷ []

abbrev pub triangle : List (List ℕ)
triangle = (1 ∷ 2 ∷ []) ∷ (0 ∷ 2 ∷ []) ∷ (0 ∷ 1 ∷ []) ∷ []

abbrev pub ring : List (List ℕ)
ring = (1 ∷ 3 ∷ []) ∷ (0 ∷ 2 ∷ []) ∷ (1 ∷ 3 ∷ []) ∷ (0 ∷ 2 ∷ []) ∷ []

abbrev pub fan : List (List ℕ)
fan = (1 ∷ 3 ∷ []) ∷ (0 ∷ 2 ∷ 3 ∷ []) ∷ (1 ∷ 3 ∷ []) ∷ (0 ∷ 1 ∷ 2 ∷ []) ∷ []

-- node 0 with so many neighbours
abbrev pub star : ℕ → List (List ℕ)
star k = up_from 1 k ∷ replicate k (0 ∷ [])

-- Two meshes by the lists of their nodes, and the two lists of the pairs, first the nodes of the first mesh.
pub data JoinRow : Type 0 where
  -- the joined mesh by its lists, lent buffers one entry longer than needed
  gives : (a b : List (List ℕ)) → (first second : List ℕ) → (lists : List (List ℕ)) → JoinRow
  -- the joined mesh by starts and neighbours that fill both buffers
  fills : (a b : List (List ℕ)) → (first second : List ℕ) → (starts neighbours : List ℕ) → JoinRow
  -- the number of a refusal, lent two buffers of 12 entries; lent so many starts and neighbours
  refuses : (number : ℕ) → (a b : List (List ℕ)) → (first second : List ℕ) → JoinRow
  refuses_in : (starts neighbours : ℕ) → (number : ℕ) → (a b : List (List ℕ)) → (first second : List ℕ) → JoinRow
  -- the numbers of all checks
  ordered : (numbers : List ℕ) → JoinRow
  -- meshes of so many nodes, not laid out: the first of the joined mesh's checks 1, 3, 26 and 8 for as many nodes as it has, no entries and no room
  counts : (n₁ n₂ : ℕ) → (first second : List ℕ) → (number : ℕ) → JoinRow

abbrev pub laid_out : List (List ℕ) → Mesh
laid_out lists = mesh_of (length lists) lists

-- whether joining into so many starts and neighbours replies so, and leaves these at the front of the two buffers
unfoldable pub join_agrees : List (List ℕ) → List (List ℕ) → Pairing → ℕ → ℕ → Reply → List ℕ → List ℕ → Bool
join_agrees a b p s e reply starts neighbours =
    let found : MeshBuffers = mesh_buffers (stale s) (stale e) in
    let o : MeshOutcome = joining (laid_out a) (laid_out b) p (mesh_capacity found) in
    let left : MeshBuffers = fill_mesh o found in
    same_reply o.reply reply && holds_front s starts left.starts && holds_front e neighbours left.neighbours

unfoldable pub join_holds : JoinRow → Bool
join_holds (gives a b first second lists) =
    let m : Mesh = laid_out lists in
    let n : ℕ = m.nodes in
    let e : ℕ = length m.neighbours in
    join_agrees a b (pairing first second) (n + 2) (e + 1) (accepted (n ∷ e ∷ [])) m.starts m.neighbours
join_holds (fills a b first second starts neighbours) =
    let n : ℕ = length starts - 1 in
    let e : ℕ = length neighbours in
    join_agrees a b (pairing first second) (n + 1) e (accepted (n ∷ e ∷ [])) starts neighbours
join_holds (refuses k a b first second) = join_agrees a b (pairing first second) 12 12 (refused k) [] []
join_holds (refuses_in s e k a b first second) = join_agrees a b (pairing first second) s e (refused k) [] []
join_holds (ordered numbers) = same (map (λ c. c.0) (join_checks (laid_out edge) (laid_out edge) (pairing [] []) (mesh_lengths 0 0))) numbers
join_holds (counts n₁ n₂ first second k) =
    let m : Mesh = mesh_of (joined_nodes n₁ n₂ (pairing first second)) [] in
    eqb (first_fault (made_checks m (mesh_lengths 0 0))) k

unfoldable pub join_rows : List JoinRow
join_rows =
    -- no pairs: side by side
    gives triangle edge [] [] ((1 ∷ 2 ∷ []) ∷ (0 ∷ 2 ∷ []) ∷ (0 ∷ 1 ∷ []) ∷ (4 ∷ []) ∷ (3 ∷ []) ∷ [])
    -- chains end to end, the last node with the first; the first with the last, the second's nodes before it still follow the first mesh's; the middles
    ∷ gives chain chain (2 ∷ []) (0 ∷ []) ((1 ∷ []) ∷ (0 ∷ 2 ∷ []) ∷ (1 ∷ 3 ∷ []) ∷ (2 ∷ 4 ∷ []) ∷ (3 ∷ []) ∷ [])
    ∷ gives chain chain (0 ∷ []) (2 ∷ []) ((1 ∷ 4 ∷ []) ∷ (0 ∷ 2 ∷ []) ∷ (1 ∷ []) ∷ (4 ∷ []) ∷ (0 ∷ 3 ∷ []) ∷ [])
    ∷ gives chain chain (1 ∷ []) (1 ∷ []) ((1 ∷ []) ∷ (0 ∷ 2 ∷ 3 ∷ 4 ∷ []) ∷ (1 ∷ []) ∷ (1 ∷ []) ∷ (1 ∷ []) ∷ [])
    -- heel and forefoot along an edge, which is in both and stands once; its pairs in the other order; along three nodes, the second's descending
    ∷ gives ring ring (1 ∷ 2 ∷ []) (0 ∷ 3 ∷ []) ((1 ∷ 3 ∷ []) ∷ (0 ∷ 2 ∷ 4 ∷ []) ∷ (1 ∷ 3 ∷ 5 ∷ []) ∷ (0 ∷ 2 ∷ []) ∷ (1 ∷ 5 ∷ []) ∷ (2 ∷ 4 ∷ []) ∷ [])
    ∷ gives ring ring (2 ∷ 1 ∷ []) (3 ∷ 0 ∷ []) ((1 ∷ 3 ∷ []) ∷ (0 ∷ 2 ∷ 4 ∷ []) ∷ (1 ∷ 3 ∷ 5 ∷ []) ∷ (0 ∷ 2 ∷ []) ∷ (1 ∷ 5 ∷ []) ∷ (2 ∷ 4 ∷ []) ∷ [])
    ∷ gives fan fan (0 ∷ 1 ∷ 2 ∷ []) (2 ∷ 1 ∷ 0 ∷ []) ((1 ∷ 3 ∷ 4 ∷ []) ∷ (0 ∷ 2 ∷ 3 ∷ 4 ∷ []) ∷ (1 ∷ 3 ∷ 4 ∷ []) ∷ (0 ∷ 1 ∷ 2 ∷ []) ∷ (0 ∷ 1 ∷ 2 ∷ []) ∷ [])
    -- the second's nodes 1, 3 and 4 follow as 2, 3 and 4: 0 and 2 are paired. Nodes 1, 2 and 3 of the list of the second's node 0 go to 3, 1 and 0
    ∷ gives apart ((1 ∷ []) ∷ (0 ∷ 2 ∷ []) ∷ (1 ∷ 3 ∷ []) ∷ (2 ∷ 4 ∷ []) ∷ (3 ∷ []) ∷ []) (1 ∷ 0 ∷ []) (0 ∷ 2 ∷ []) ((2 ∷ 3 ∷ []) ∷ (2 ∷ []) ∷ (0 ∷ 1 ∷ []) ∷ (0 ∷ 4 ∷ []) ∷ (3 ∷ []) ∷ [])
    ∷ gives edge (star 3) (1 ∷ 0 ∷ []) (2 ∷ 3 ∷ []) ((1 ∷ 2 ∷ []) ∷ (0 ∷ 2 ∷ []) ∷ (0 ∷ 1 ∷ 3 ∷ []) ∷ (2 ∷ []) ∷ [])
    -- all nodes of both paired: each with itself; two exchanged; turned by one, which is not its own way back
    ∷ gives ring ring (0 ∷ 1 ∷ 2 ∷ 3 ∷ []) (0 ∷ 1 ∷ 2 ∷ 3 ∷ []) ring
    ∷ gives ring ring (0 ∷ 1 ∷ 2 ∷ 3 ∷ []) (0 ∷ 2 ∷ 1 ∷ 3 ∷ []) ((1 ∷ 2 ∷ 3 ∷ []) ∷ (0 ∷ 2 ∷ 3 ∷ []) ∷ (0 ∷ 1 ∷ 3 ∷ []) ∷ (0 ∷ 1 ∷ 2 ∷ []) ∷ [])
    ∷ gives chain chain (0 ∷ 1 ∷ 2 ∷ []) (1 ∷ 2 ∷ 0 ∷ []) triangle
    -- paired nodes that are neighbours in the first alone, in the second alone; in neither, though both have the same neighbour
    ∷ gives edge apart (0 ∷ 1 ∷ []) (0 ∷ 1 ∷ []) edge
    ∷ gives apart edge (0 ∷ 1 ∷ []) (1 ∷ 0 ∷ []) edge
    ∷ gives apart chain (0 ∷ 1 ∷ []) (0 ∷ 2 ∷ []) ((2 ∷ []) ∷ (2 ∷ []) ∷ (0 ∷ 1 ∷ []) ∷ [])
    -- all nodes of the second paired; of the first
    ∷ gives chain edge (2 ∷ 1 ∷ []) (0 ∷ 1 ∷ []) chain
    ∷ gives edge chain (1 ∷ 0 ∷ []) (2 ∷ 1 ∷ []) ((1 ∷ 2 ∷ []) ∷ (0 ∷ []) ∷ (0 ∷ []) ∷ [])
    -- the numbers of the checks in their order
    ∷ ordered (1 ∷ 2 ∷ 3 ∷ 4 ∷ 5 ∷ 6 ∷ 26 ∷ 7 ∷ 1 ∷ 2 ∷ 3 ∷ 4 ∷ 5 ∷ 6 ∷ 26 ∷ 7 ∷ 32 ∷ 33 ∷ 1 ∷ 3 ∷ 26 ∷ 8 ∷ [])
    -- the first mesh's checks, then the second's: 7 before 1, 1 before 7. The second's before 32 and 33: lists of unlike length and a node twice
    ∷ refuses 7 half_edge none [] []
    ∷ refuses 1 none half_edge [] []
    ∷ refuses 7 edge half_edge (0 ∷ 0 ∷ []) (1 ∷ [])
    -- 32: the first list longer, the second; node n of the first in the last pair, of the second, where the other mesh has such a node; beyond n
    ∷ refuses 32 edge edge (0 ∷ 1 ∷ []) (0 ∷ [])
    ∷ refuses 32 edge edge [] (0 ∷ [])
    ∷ refuses 32 edge chain (0 ∷ 2 ∷ []) (0 ∷ 2 ∷ [])
    ∷ refuses 32 chain edge (0 ∷ 2 ∷ []) (0 ∷ 2 ∷ [])
    ∷ refuses 32 edge edge (7 ∷ []) (0 ∷ [])
    ∷ refuses 32 edge edge (0 ∷ []) (7 ∷ [])
    -- 33: a node of the first, of the second, not next to one another in the list
    ∷ refuses 33 chain chain (2 ∷ 0 ∷ 2 ∷ []) (0 ∷ 1 ∷ 2 ∷ [])
    ∷ refuses 33 chain chain (0 ∷ 1 ∷ 2 ∷ []) (1 ∷ 0 ∷ 1 ∷ [])
    -- 32 before 33: lists of unlike length and a node twice; a node twice in one list and one that does not exist in the other
    ∷ refuses 32 edge edge (0 ∷ 0 ∷ []) (0 ∷ [])
    ∷ refuses 32 chain chain (0 ∷ 0 ∷ []) (1 ∷ 3 ∷ [])
    -- 1: 4,096 nodes and one that is paired; and one that is not
    ∷ counts 4096 1 (9 ∷ []) (0 ∷ []) 8
    ∷ counts 4096 1 [] [] 1
    -- 26: a node with 26 neighbours and one more, with room for all; the same neighbour in both, 26 together; 33 before 26 and 8; 26 before 8
    ∷ refuses_in 29 54 26 (star 26) edge (0 ∷ []) (0 ∷ [])
    ∷ gives (star 26) edge (0 ∷ 1 ∷ []) (0 ∷ 1 ∷ []) (star 26)
    ∷ refuses_in 0 0 33 (star 26) chain (0 ∷ 0 ∷ []) (0 ∷ 2 ∷ [])
    ∷ refuses_in 0 0 26 (star 26) edge (0 ∷ []) (0 ∷ [])
    -- 8: a start too few; a neighbour too few; room for just all, the shared edge counted once
    ∷ refuses_in 6 14 8 ring ring (1 ∷ 2 ∷ []) (0 ∷ 3 ∷ [])
    ∷ refuses_in 7 13 8 ring ring (1 ∷ 2 ∷ []) (0 ∷ 3 ∷ [])
    ∷ fills ring ring (1 ∷ 2 ∷ []) (0 ∷ 3 ∷ []) (0 ∷ 2 ∷ 5 ∷ 8 ∷ 10 ∷ 12 ∷ 14 ∷ []) (1 ∷ 3 ∷ 0 ∷ 2 ∷ 4 ∷ 1 ∷ 3 ∷ 5 ∷ 0 ∷ 2 ∷ 1 ∷ 5 ∷ 2 ∷ 4 ∷ [])
    ∷ []

-- every row of the table holds
pub joins : every join_holds join_rows ≡ true
unfolding everything stale holds_front same_reply join_agrees join_holds join_rows
joins = refl
