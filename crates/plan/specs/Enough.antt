-- The counts that bound the book's recursions are large enough: one statement for each definition that counts down.
use Rattle.std.specs.Prelude.{◌≡◌, true, false, ℕ, ◌≤◌, ◌<◌, length}
use mathlib.Core.List.{List, [], ◌∷◌, get_last_d, flatten}
use Rattle.plan.specs.Lists.{occurrences, each_once}
use Rattle.plan.specs.Refusals.{first_fault}
use Rattle.plan.specs.Mesh.{no_parent, Mesh, adjacent, mesh_checks}
use Rattle.plan.specs.Levels.{Graph, next_level, levels_back, components}
use Rattle.plan.specs.Choice.{next_root, root_from, root_of, george_liu}
use Rattle.plan.specs.Dissection.{Forest, parts, parents}
use Rattle.plan.specs.Steps.{State, begin, steps, by_number}
use Rattle.plan.specs.Parts.{parent_of, ancestors}
use Rattle.plan.specs.Planning.{Contents, dissection_of, plan_of}
use Rattle.plan.specs.File.{bad_parts}
use Rattle.plan.specs.Listing.{decimal_up_to, decimal}

-- no level comes after the last
abbrev pub LevelsEnd : Type 0
LevelsEnd = (edge : Graph) (region : List ℕ) (root : ℕ) → next_level edge region (levels_back (length region) edge region root) ≡ []

-- the components together hold every node, as often as the set does
abbrev pub ComponentsWhole : Type 0
ComponentsWhole = (edge : Graph) (nodes : List ℕ) (v : ℕ) → occurrences v (flatten (components edge nodes)) ≡ occurrences v nodes

-- one more search leaves the root
abbrev pub RootStays : Type 0
RootStays = (m : Mesh) (region : List ℕ) → next_root m region (root_of m region) ≡ root_of m region

-- no root comes twice: where the root after more turns is the one after fewer, the search had ended there
abbrev pub RootsDiffer : Type 0
RootsDiffer =
    (m : Mesh) (region : List ℕ) (r i j : ℕ) → i < j → root_from i m region r ≡ root_from j m region r
    → next_root m region (root_from i m region r) ≡ root_from i m region r

-- the parts hold each node once
abbrev pub OrderWhole : Type 0
OrderWhole = (unknowns : ℕ) (m : Mesh) → first_fault (mesh_checks m) ≡ 0 → each_once m.nodes (plan_of unknowns m).order ≡ true

-- the last ancestor has no parent, by check 16's rule
abbrev pub AncestorsEnd : Type 0
AncestorsEnd =
    (c : Contents) (q : ℕ) → bad_parts c ≡ false → length c.parents ≡ c.parts → q < c.parts
    → parent_of c.parents (get_last_d (q ∷ ancestors c.parents q) q) ≡ no_parent

-- a state of the steps at which nothing is pending, with the parts and parents of a forest
pub record StepsAgree (f : Forest) (s : State) : Type 0 where
  pub done : s.pending ≡ []
  pub chosen : s.chosen ≡ parts f
  pub numbered : by_number (length (parts f)) s.parents ≡ parents f

-- as many steps as nodes choose every part
abbrev pub StepsEnough : Type 0
StepsEnough =
    (m : Mesh) → first_fault (mesh_checks m) ≡ 0
    → StepsAgree (dissection_of m)
    (steps m.nodes (adjacent m) (george_liu m) (begin (adjacent m) m.nodes))

-- no digit is left out: room for more of them changes nothing
abbrev pub DecimalWhole : Type 0
DecimalWhole = (x most : ℕ) → x ≤ most → decimal_up_to most x ≡ decimal x
