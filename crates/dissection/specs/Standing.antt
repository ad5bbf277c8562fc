-- The levels from a root as they stand in the numbers, and the division of a region by them.
use Rattle.std.specs.Prelude.{◌≡◌, Bool, true, false, ◌&&◌, ℕ, ◌+◌, ◌≤◌, ◌<◌, eqb, length, get_or}
use mathlib.Core.List.{List, [], ◌∷◌, ◌++◌, flatten}
use Rattle.plan.specs.Lists.{exists, is_in, without}
use Rattle.plan.specs.Mesh.{Mesh, neighbours_of, adjacent}
use Rattle.plan.specs.Levels.{levels, components}
use Rattle.plan.specs.Choice.{george_liu}
use Rattle.dissection.specs.Numbers.{fresh, outside, fresh_of, Only, grouped, Begins}

-- what is asked of the lent arrays by each function over a region
pub record Regional (m : Mesh) (nodes numbers queue : List ℕ) : Type 0 where
  pub some : 0 < length nodes
  pub only : Only m.nodes nodes numbers
  pub numbers_long : m.nodes ≤ length numbers
  pub queue_long : m.nodes < length queue

-- each node of a level has the level's number, and the other nodes of the list are fresh; every node that is not in the list is outside
pub record Standing (m : Mesh) (nodes : List ℕ) (root : ℕ) (numbers : List ℕ) : Type 0 where
  pub own : (j v : ℕ) → is_in v (get_or (levels (adjacent m) nodes root) j []) ≡ true → get_or numbers v 0 ≡ j
  pub unreached : (v : ℕ) → is_in v nodes ≡ true → is_in v (flatten (levels (adjacent m) nodes root)) ≡ false → get_or numbers v 0 ≡ fresh
  pub only : Only m.nodes nodes numbers

-- whether v has number j and a neighbour with number j + 1
abbrev pub separates_at : Mesh → ℕ → List ℕ → ℕ → Bool
separates_at m j numbers v = eqb (get_or numbers v 0) j && exists (λ w. eqb (get_or numbers w 0) (j + 1)) (neighbours_of m v)

-- A region's part is left out, and the other nodes are fresh.
pub record Parted (m : Mesh) (nodes numbers : List ℕ) : Type 0 where
  pub part : (v : ℕ) → is_in v nodes ≡ true → is_in v (george_liu m nodes) ≡ true → get_or numbers v 0 ≡ outside
  pub rest : fresh_of m.nodes numbers ≡ without (george_liu m nodes) nodes
  pub only : Only m.nodes nodes numbers

-- A region divided: its nodes by their numbers are the regions left by George and Liu's choice, and then the part; and the regions begin where they
-- are to stand.
pub record Divided (m : Mesh) (nodes : List ℕ) (at : ℕ) (numbers begins : List ℕ) (count : ℕ) : Type 0 where
  pub groups : grouped (count + 1) numbers nodes ≡ components (adjacent m) (without (george_liu m nodes) nodes) ++ (george_liu m nodes ∷ [])
  pub begin : Begins at (components (adjacent m) (without (george_liu m nodes) nodes)) begins
  pub many : count ≡ length (components (adjacent m) (without (george_liu m nodes) nodes))
  pub only : Only m.nodes nodes numbers
