-- Document 01, "From mesh to parts": George and Liu's choice of a region's part.
use Rattle.std.specs.Prelude.{Bool, cond, ◌&&◌, ◌||◌, ℕ, zero, suc, ◌+◌, ◌/◌, leb, ltb, eqb, length, get_or}
use mathlib.Core.List.{List, [], ◌∷◌, map, head_d, get_last_d}
use Rattle.plan.specs.Lists.{exists, keep, is_in}
use Rattle.plan.specs.Mesh.{Mesh, neighbours_of, adjacent}
use Rattle.plan.specs.Levels.{Graph, levels, eccentricity, width, components}

-- Document 02, E2: "From now on degree counts only neighbours in the same region."
unfoldable pub degree_in : Mesh → List ℕ → ℕ → ℕ
degree_in m region v = length (keep (λ w. is_in w region) (neighbours_of m v))

-- the node of less degree, a on a tie
unfoldable pub lesser : (ℕ → ℕ) → ℕ → ℕ → ℕ
lesser degree a b = cond (ltb (degree b) (degree a)) b a

-- "take a node of least degree, the smallest node on a tie": of v ∷ vs, v being the best so far
unfoldable pub least_from : (ℕ → ℕ) → ℕ → List ℕ → ℕ
least_from degree v [] = v
least_from degree v (w ∷ ws) = least_from degree (lesser degree v w) ws

unfoldable pub least_degree : (ℕ → ℕ) → List ℕ → ℕ
least_degree degree [] = 0
least_degree degree (v ∷ vs) = least_from degree v vs

-- "Take the components of r's last level by their smallest node. In each take a node of least degree"
unfoldable pub candidates : Mesh → List ℕ → ℕ → List ℕ
candidates m region r =
    map (least_degree (degree_in m region)) (components (adjacent m) (get_last_d (levels (adjacent m) region r) []))

-- Whether candidate x replaces the root r. Document 02, E5: "A candidate replaces the root if its ℓ is greater, or if ℓ is equal and its widest level
-- is smaller."
unfoldable pub improves : Mesh → List ℕ → ℕ → ℕ → Bool
improves m region r x =
    let far : ℕ → ℕ = eccentricity (adjacent m) region in
    let wide : ℕ → ℕ = width (adjacent m) region in
    ltb (far r) (far x) || (eqb (far x) (far r) && ltb (wide x) (wide r))

-- The first candidate that improves "becomes r"; where none does, "r stays."
unfoldable pub next_root : Mesh → List ℕ → ℕ → ℕ
next_root m region r = head_d (keep (improves m region r) (candidates m region r)) r

-- "and the search begins again from its last level": at most `most` times. Where the next root is r itself, the search ends.
unfoldable pub root_from : ℕ → Mesh → List ℕ → ℕ → ℕ
root_from zero m region r = r
root_from (suc most) m region r =
    let next : ℕ = next_root m region r in
    let found : ℕ = root_from most m region next in
    cond (eqb next r) r found

-- Pseudo-peripheral root: document 01's starting root, searched from "the region's smallest node". Each root improves on all before it, so none comes
-- twice, and as many turns as nodes are enough.
unfoldable pub root_of : Mesh → List ℕ → ℕ
root_of m region = root_from (length region) m region (head_d region 0)

-- "If ℓ is 0 or 1 the whole region is one part, uncut."
unfoldable pub stays_whole : List ℕ → ℕ → Bool
stays_whole region l = leb l 1

-- "Otherwise j = (ℓ + 1) / 2 rounded down"
unfoldable pub cut_level : ℕ → ℕ
cut_level l = (l + 1) / 2

-- "the set of level j's nodes that have a neighbour in level j + 1"
unfoldable pub separator : Graph → List (List ℕ) → ℕ → List ℕ
separator edge ls j = keep (λ v. exists (edge v) (get_or ls (j + 1) [])) (get_or ls j [])

-- how a separator's nodes are numbered: "ascending", as they stand
unfoldable pub numbering : List ℕ → List ℕ
numbering nodes = nodes

-- What another rule of cutting may change, named apart: which regions stay whole (by the region and its ℓ), which level is cut, how a separator is
-- numbered.
pub record Settings : Type 0 where
  pub whole : List ℕ → ℕ → Bool
  pub level : ℕ → ℕ
  pub numbered : List ℕ → List ℕ

-- document 01's
unfoldable pub standard : Settings
standard = record { whole = stays_whole; level = cut_level; numbered = numbering }

-- A region's part, its nodes in the order of their numbering: the whole region or the cut's separator.
unfoldable pub choose_part : Settings → Mesh → List ℕ → List ℕ
choose_part settings m region =
    let ls : List (List ℕ) = levels (adjacent m) region (root_of m region) in
    let l : ℕ = eccentricity (adjacent m) region (root_of m region) in
    let cut : List ℕ = settings.numbered (separator (adjacent m) ls (settings.level l)) in
    cond (settings.whole region l) region cut

-- George and Liu's choice
unfoldable pub george_liu : Mesh → List ℕ → List ℕ
george_liu m region = choose_part standard m region
