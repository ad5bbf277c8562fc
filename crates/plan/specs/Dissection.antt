-- Document 01, "From mesh to parts": the dissection by any choice of a region's part, the numbering of its parts, and their parents.
use mathlib.Core.List.{List, [], ◌∷◌, ◌++◌, map, flatten}
use Rattle.std.specs.Prelude.{ℕ, zero, suc, ◌+◌, length}
use Rattle.plan.specs.Lists.{below, without, index_of}
use Rattle.plan.specs.Mesh.{no_parent}
use Rattle.plan.specs.Levels.{Graph, components}

-- The dissection of a list of regions: of the first one its part (`members`) and the dissection of what is left of it (`children`), then that of the
-- other regions. A part's parent is document 01's father.
pub data Forest : Type 0 where
  empty : Forest
  tree : (members : List ℕ) → (children others : Forest) → Forest

-- "A region is a connected component of the nodes not yet chosen." "What is left of the region falls into components, each a region; their parts'
-- father is this part." At most `most` regions deep and wide.
unfoldable pub dissect : ℕ → Graph → (List ℕ → List ℕ) → List (List ℕ) → Forest
dissect zero edge choose regions = empty
dissect (suc most) edge choose [] = empty
dissect (suc most) edge choose (region ∷ regions) =
    let part : List ℕ = choose region in
    tree part (dissect most edge choose (components edge (without part region))) (dissect most edge choose regions)

-- "The first regions are the components of the whole mesh". Each part has a node, so as many steps as nodes are enough.
unfoldable pub dissection : Graph → (List ℕ → List ℕ) → ℕ → Forest
dissection edge choose n = dissect n edge choose (components edge (below n))

-- The parts by number: "the regions left by a cut come first, by smallest node, each numbered whole; then the cut's own part".
unfoldable pub parts : Forest → List (List ℕ)
parts empty = []
parts (tree members children others) = parts children ++ (members ∷ parts others)

-- the parents of a forest whose first part has number `first` and whose outermost parts have the parent `parent`
unfoldable pub parents_from : ℕ → ℕ → Forest → List ℕ
parents_from first parent empty = []
parents_from first parent (tree members children others) =
    let own : ℕ = first + length (parts children) in
    parents_from first own children ++ (parent ∷ parents_from (suc own) parent others)

-- the parents by part number; "A part of a first region has no father."
unfoldable pub parents : Forest → List ℕ
parents f = parents_from 0 no_parent f

-- the order, position to node: "Positions count from 0."
unfoldable pub order : Forest → List ℕ
order f = flatten (parts f)

-- the part sizes
unfoldable pub sizes : Forest → List ℕ
sizes f = map length (parts f)

-- The positions of nodes 0 to n − 1, node to position: document 01's places.
unfoldable pub positions : ℕ → List ℕ → List ℕ
positions n nodes = map (λ v. index_of v nodes) (below n)
