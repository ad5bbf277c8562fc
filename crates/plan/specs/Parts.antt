-- Document 01, "From mesh to parts": the tree of parts, read from the part sizes and the parents as they are handed out.
use Rattle.std.specs.Prelude.{Bool, not, cond, ◌&&◌, ◌||◌, List, [], ◌∷◌, map, ℕ, zero, suc, ◌+◌, ◌-◌, ◌*◌, ◌/◌, ltb, eqb, length, get_or}
use Rattle.plan.specs.Lists.{exists, keep, below, is_in, total}
use Rattle.plan.specs.Mesh.{no_parent, Mesh, adjacent}

-- The part in which position i lies: "Parts take the positions in turn, each as many as its size." Behind all parts it is their number, no part.
unfoldable pub part_of : List ℕ → ℕ → ℕ
part_of [] i = 0
part_of (s ∷ ss) i = cond (ltb i s) 0 (suc (part_of ss (i - s)))

-- part q's parent
unfoldable pub parent_of : List ℕ → ℕ → ℕ
parent_of parents q = get_or parents q no_parent

-- the nearest `most` ancestors
unfoldable pub ancestors_up_to : ℕ → List ℕ → ℕ → List ℕ
ancestors_up_to zero parents q = []
ancestors_up_to (suc most) parents q =
    let more : List ℕ = parent_of parents q ∷ ancestors_up_to most parents (parent_of parents q) in
    cond (eqb (parent_of parents q) no_parent) [] more

-- Ancestors, nearest first: document 01's forefathers, "its father and its father's forefathers". A parent is a later part, so there are no more than
-- parts.
unfoldable pub ancestors : List ℕ → ℕ → List ℕ
ancestors parents q = ancestors_up_to (length parents) parents q

-- Whether part r is part q or an ancestor of it; in the latter case q "stands below" r.
unfoldable pub at_or_above : List ℕ → ℕ → ℕ → Bool
at_or_above parents q r = eqb q r || is_in r (ancestors parents q)

-- the nodes at the positions that pass a test
unfoldable pub nodes_where : (ℕ → Bool) → List ℕ → List ℕ
nodes_where test order = map (λ i. get_or order i 0) (keep test (below (length order)))

-- the nodes of part q
unfoldable pub nodes_of_part : List ℕ → List ℕ → ℕ → List ℕ
nodes_of_part order sizes q = nodes_where (λ i. eqb (part_of sizes i) q) order

-- The parts whose regions were left uncut, read from the tree: those that are no part's parent. Where a region is cut, "What is left of the region
-- falls into components, each a region; their parts' father is this part."
unfoldable pub uncut_parts : List ℕ → List ℕ
uncut_parts parents = keep (λ q. not (is_in q parents)) (below (length parents))

-- The nodes of part q's region: "the part with everything below it in the tree".
unfoldable pub region_of_part : List ℕ → List ℕ → List ℕ → ℕ → List ℕ
region_of_part order sizes parents q = nodes_where (λ i. at_or_above parents (part_of sizes i) q) order

-- Boundary: document 01's nodes bordering a region, "those outside it with a neighbour in it, each counted a single time".
unfoldable pub boundary : Mesh → List ℕ → List ℕ
boundary m region = keep (λ v. not (is_in v region) && exists (adjacent m v) region) (below m.nodes)

unfoldable pub boundary_size : Mesh → List ℕ → List ℕ → List ℕ → ℕ → ℕ
boundary_size m order sizes parents q = length (boundary m (region_of_part order sizes parents q))

-- demand 3: "size × (nodes bordering the part's region) + size × (size − 1) / 2"
unfoldable pub part_bound : ℕ → ℕ → ℕ
part_bound size border = size * border + size * (size - 1) / 2

-- demand 3: "the sum, over all its parts, of" that
unfoldable pub bound : Mesh → List ℕ → List ℕ → List ℕ → ℕ
bound m order sizes parents =
    total (map (λ q. part_bound (get_or sizes q 0) (boundary_size m order sizes parents q)) (below (length sizes)))
