-- Degrees by the numbers of a region, and the nodes of least degree in groups of nodes.
use Rattle.std.specs.Prelude.{◌≡◌, Bool, not, cond, ◌&&◌, List, [], ◌∷◌, ℕ, ◌<◌, eqb, ltb, get_or}
use Rattle.plan.specs.Mesh.{Mesh, neighbours_of}
use Rattle.plan.specs.Choice.{least_degree}
use Rattle.theory.specs.Counting.{count}
use Rattle.mesh.specs.Lists.{none}
use Rattle.dissection.specs.Numbers.{outside}

-- whether a node is in the region, by the numbers
abbrev pub is_inside : List ℕ → ℕ → Bool
is_inside numbers w = not (eqb (get_or numbers w 0) outside)

-- the neighbours of v that are in the region, counted
abbrev pub degree_by : Mesh → List ℕ → ℕ → ℕ
degree_by m numbers v = count (is_inside numbers) (neighbours_of m v)

-- The node that leads a group, and its degree: the book's node of least degree. In an empty group the degree is `none`, which is greater than any.
abbrev pub Leads : (ℕ → ℕ) → List ℕ → ℕ → ℕ → Type 0
Leads degree [] best least = least ≡ none
Leads degree (v ∷ l) best least = (best ≡ least_degree degree (v ∷ l)) × (least ≡ degree best)

-- of the first `count` groups that of v is led by v if its degree is less, the others are led as they were
abbrev pub Compared : (ℕ → ℕ) → ℕ → List ℕ → ℕ → List ℕ → List ℕ → List ℕ → List ℕ → Type 0
Compared degree v groups count best degrees best₁ degrees₁ =
    (c : ℕ) → c < count →
    let takes : Bool = eqb (get_or groups v 0) c && ltb (degree v) (get_or degrees c 0) in
    (get_or best₁ c 0 ≡ cond takes v (get_or best c 0)) × (get_or degrees₁ c 0 ≡ cond takes (degree v) (get_or degrees c 0))
