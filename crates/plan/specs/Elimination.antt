-- Document 01, "The layout": elimination, the columns' rows, and the multiplications.
use Rattle.std.specs.Prelude.{Bool, not, ◌&&◌, ◌||◌, List, [], map, ℕ, zero, suc, ◌+◌, ◌*◌, ◌/◌, ltb, eqb, length, get_or}
use Rattle.plan.specs.Lists.{keep, below, is_in, total, running_sums}
use Rattle.plan.specs.Mesh.{Mesh, adjacent}

-- Which positions are joined: to each position those joined to it, ascending.
abbrev pub Joins : Type 0
Joins = List (List ℕ)

abbrev pub joined : Joins → ℕ → ℕ → Bool
joined g a b = is_in b (get_or g a [])

-- the joins of n positions by a test
unfoldable pub tabulate : ℕ → (ℕ → ℕ → Bool) → Joins
tabulate n test = map (λ a. keep (test a) (below n)) (below n)

-- before any elimination two positions are joined where their nodes are neighbours
unfoldable pub initial : Mesh → List ℕ → Joins
initial m order = tabulate m.nodes (λ a b. adjacent m (get_or order a 0) (get_or order b 0))

-- the remaining neighbours of position k, all before it being eliminated
unfoldable pub remaining : Joins → ℕ → List ℕ
remaining g k = keep (ltb k) (get_or g k [])

-- "Eliminating a node joins all its remaining neighbours to one another."
unfoldable pub eliminate : ℕ → ℕ → Joins → Joins
eliminate n k g =
    let r : List ℕ = remaining g k in
    tabulate n (λ a b. joined g a b || (not (eqb a b) && (is_in a r && is_in b r)))

-- the joins once the first k positions are eliminated
unfoldable pub joins_after : ℕ → Mesh → List ℕ → Joins
joins_after zero m order = initial m order
joins_after (suc k) m order = eliminate m.nodes k (joins_after k m order)

-- "Column j's rows are the positions joined to position j when it is eliminated, ascending"
unfoldable pub column : Mesh → List ℕ → ℕ → List ℕ
column m order j = remaining (joins_after j m order) j

unfoldable pub columns : Mesh → List ℕ → List (List ℕ)
columns m order = map (column m order) (below m.nodes)

-- "Slots are numbered from 0, column after column": where each column's slots start, and at last their number
unfoldable pub starts_of : List (List ℕ) → List ℕ
starts_of columns = running_sums 0 (map length columns)

-- "the sum over columns of c × (c + 3) / 2, c being the column's row count"
unfoldable pub multiplications : List ℕ → ℕ
multiplications counts = total (map (λ c. c * (c + 3) / 2) counts)
