-- Document 01, "From mesh to parts": levels from a root and connected components, over any graph.
use Rattle.std.specs.Prelude.{Bool, not, ◌&&◌, ℕ, zero, suc, ◌-◌, max, length}
use mathlib.Core.List.{List, [], ◌∷◌, reverse, head_d, flatten}
use Rattle.plan.specs.Lists.{exists, keep, is_in, without}

-- `edge v w`: whether w stands in v's list. A set of nodes is an ascending list.
abbrev pub Graph : Type 0
Graph = ℕ → ℕ → Bool

-- "the next level is every node of the region next to the last level and in no earlier one". The levels so far stand the last one first.
unfoldable pub next_level : Graph → List ℕ → List (List ℕ) → List ℕ
next_level edge region ls =
    keep (λ v. exists (λ u. edge u v) (head_d ls []) && not (is_in v (flatten ls))) region

-- the levels so far and one more in front, unless it has no node
unfoldable pub add_level : List ℕ → List (List ℕ) → List (List ℕ)
add_level [] ls = ls
add_level (v ∷ vs) ls = (v ∷ vs) ∷ ls

-- level 0 and at most `more` levels after it, the last one first
unfoldable pub levels_back : ℕ → Graph → List ℕ → ℕ → List (List ℕ)
levels_back zero edge region root = (root ∷ []) ∷ []
levels_back (suc more) edge region root =
    let ls : List (List ℕ) = levels_back more edge region root in
    add_level (next_level edge region ls) ls

-- "Levels from a root: level 0 is the root". Each level has a node of the region that no other has, so there are no more levels than nodes.
unfoldable pub levels : Graph → List ℕ → ℕ → List (List ℕ)
levels edge region root = reverse (levels_back (length region) edge region root)

-- Eccentricity of the root: document 01's ℓ, "the number of the last level".
unfoldable pub eccentricity : Graph → List ℕ → ℕ → ℕ
eccentricity edge region root = length (levels edge region root) - 1

-- the node count of the widest of several levels
unfoldable pub widest : List (List ℕ) → ℕ
widest [] = 0
widest (level ∷ others) = max (length level) (widest others)

-- Width from the root. Document 02, E5: "The walk over levels shall also report the node count of its widest level."
unfoldable pub width : Graph → List ℕ → ℕ → ℕ
width edge region root = widest (levels edge region root)

-- the connected component of v in a set
unfoldable pub component : Graph → List ℕ → ℕ → List ℕ
component edge nodes v =
    let reached : List ℕ = flatten (levels edge nodes v) in
    keep (λ w. is_in w reached) nodes

-- the first `most` components of a set
unfoldable pub components_up_to : ℕ → Graph → List ℕ → List (List ℕ)
components_up_to zero edge nodes = []
components_up_to (suc most) edge [] = []
components_up_to (suc most) edge (v ∷ nodes) =
    let first : List ℕ = component edge (v ∷ nodes) v in
    first ∷ components_up_to most edge (without first nodes)

-- The connected components of a set, "numbered by smallest node". There are no more of them than nodes.
unfoldable pub components : Graph → List ℕ → List (List ℕ)
components edge nodes = components_up_to (length nodes) edge nodes
