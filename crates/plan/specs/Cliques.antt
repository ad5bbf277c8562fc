-- Document 02, E2: "With this an uncut part is always a set of nodes that are all next to one another, and we want that shown."
use Rattle.std.specs.Prelude.{Bool, true, ◌||◌, ◌≡◌, List, [], ℕ, ◌<◌, eqb, length, get_or}
use Rattle.plan.specs.Lists.{every, ascending}
use Rattle.plan.specs.Refusals.{first_fault}
use Rattle.plan.specs.Mesh.{Mesh, adjacent, mesh_checks}
use Rattle.plan.specs.Levels.{components}
use Rattle.plan.specs.Choice.{george_liu}
use Rattle.plan.specs.Parts.{nodes_of_part, uncut_parts}

-- whether a node is next to every node of a list, itself left out
unfoldable pub next_to_all : Mesh → List ℕ → ℕ → Bool
next_to_all m nodes v = every (λ w. eqb v w || adjacent m v w) nodes

-- Clique: "a set of nodes that are all next to one another"
unfoldable pub clique : Mesh → List ℕ → Bool
clique m nodes = every (next_to_all m nodes) nodes

-- The clique rule by parts, over the used entries of order, sizes and parents as they are handed out, as many parents as sizes: "an uncut part is always
-- a set of nodes that are all next to one another".
unfoldable pub uncut_cliques : Mesh → List ℕ → List ℕ → List ℕ → Bool
uncut_cliques m order sizes parents = every (λ q. clique m (nodes_of_part order sizes q)) (uncut_parts parents)

-- The clique rule by regions, which does not rest on what the tree tells: of a mesh that passes its checks, whichever nodes are not yet
-- chosen, a region ("a connected component of the nodes not yet chosen") that the choice leaves whole ("the whole region is one part, uncut") is a clique.
abbrev pub UncutRegions : Type 0
UncutRegions =
    (m : Mesh) (unchosen : List ℕ) (k : ℕ) → first_fault (mesh_checks m) ≡ 0 → ascending unchosen ≡ true → k < length (components (adjacent m) unchosen)
    → let region : List ℕ = get_or (components (adjacent m) unchosen) k [] in
    george_liu m region ≡ region → clique m region ≡ true
