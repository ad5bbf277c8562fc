-- Document 02, E3: lists of 26 and of 27 entries, alone and beside other faults, in one table, and the one statement that every row of it holds.
use Rattle.std.specs.Prelude.{Bool, true, ◌≡◌, refl, List, [], ◌∷◌, ◌++◌, ℕ, eqb, length, replicate}
use Rattle.plan.specs.Lists.{every, up_from}
use Rattle.plan.specs.Refusals.{first_fault}
use Rattle.plan.specs.Mesh.{mesh_checks}
use Rattle.plan.specs.MadeMesh.{mesh_of}
use Rattle.plan.specs.Everything.{everything}

-- the lists of a mesh's nodes, and the number of its first fault (0 for none)
abbrev pub MeshRow : Type 0
MeshRow = ℕ × List (List ℕ)

unfoldable pub mesh_holds : MeshRow → Bool
mesh_holds (k, lists) = eqb (first_fault (mesh_checks (mesh_of (length lists) lists))) k

unfoldable pub meshes : List MeshRow
meshes =
    -- a node with 26 neighbours, the first or the last; with 27, with 28
    (0, up_from 1 26 ∷ replicate 26 (0 ∷ []))
    ∷ (0, replicate 26 (26 ∷ []) ++ (up_from 0 26 ∷ []))
    ∷ (26, up_from 1 27 ∷ replicate 27 (0 ∷ []))
    ∷ (26, replicate 27 (27 ∷ []) ++ (up_from 0 27 ∷ []))
    ∷ (26, up_from 1 28 ∷ replicate 28 (0 ∷ []))
    -- one-sided entries: 26 before 7, also where the long list comes later
    ∷ (7, up_from 1 26 ∷ replicate 26 [])
    ∷ (26, up_from 1 27 ∷ replicate 27 [])
    ∷ (26, (1 ∷ []) ∷ [] ∷ up_from 3 27 ∷ replicate 27 (2 ∷ []))
    -- not ascending: 6 before 26, also where the long list comes earlier
    ∷ (6, (2 ∷ 1 ∷ up_from 3 25) ∷ replicate 27 (0 ∷ []))
    ∷ (6, up_from 1 27 ∷ (2 ∷ 0 ∷ []) ∷ (0 ∷ 1 ∷ []) ∷ replicate 25 (0 ∷ []))
    -- 5 and 4 before 26: the node itself among 27 entries, an entry that is n
    ∷ (5, up_from 0 27 ∷ replicate 26 (0 ∷ []))
    ∷ (4, up_from 1 27 ∷ replicate 26 (0 ∷ []))
    ∷ []

-- every row of the table holds
pub limited : every mesh_holds meshes ≡ true
unfolding everything mesh_holds meshes
limited = refl
