-- What the theorems say of a tree of parts, given by sizes and parents.
use Rattle.std.specs.Prelude.{◌≡◌, ◌≢◌, Bool, true, not, ◌&&◌, List, ℕ, ◌<◌, length, get_or}
use Rattle.plan.specs.Lists.{exists, below, total}
use Rattle.plan.specs.Mesh.{no_parent}
use Rattle.plan.specs.Levels.{Graph}
use Rattle.plan.specs.Parts.{part_of, parent_of, at_or_above}
use Rattle.theory.specs.Counting.{count}

-- the sizes and parents of parts that take n positions
pub record PartTree (n : ℕ) (sizes parents : List ℕ) : Type 0 where
  -- the sizes sum to n
  pub whole : total sizes ≡ n
  -- every part has a position
  pub positive : (q : ℕ) → q < length sizes → 0 < get_or sizes q 0
  -- each part has its parent
  pub as_many : length parents ≡ length sizes
  -- which is a later part, where it is one
  pub later : (q : ℕ) → parent_of parents q ≢ no_parent → q < parent_of parents q
  -- of those that there are
  pub known : (q : ℕ) → parent_of parents q ≢ no_parent → parent_of parents q < length parents

-- every edge between positions joins one with a later one in its own part or in an ancestor's
abbrev pub Nested : ℕ → Graph → List ℕ → List ℕ → Type 0
Nested n edge sizes parents =
    (a b : ℕ) → a < b → b < n → edge a b ≡ true → at_or_above parents (part_of sizes a) (part_of sizes b) ≡ true

-- whether position i borders the region of part q: it lies outside, and has a neighbour inside
unfoldable pub borders : ℕ → Graph → List ℕ → List ℕ → ℕ → ℕ → Bool
borders n edge sizes parents q i =
    not (at_or_above parents (part_of sizes i) q) && exists (λ x. at_or_above parents (part_of sizes x) q && edge i x) (below n)

-- how many positions border it
unfoldable pub boundary_count : ℕ → Graph → List ℕ → List ℕ → ℕ → ℕ
boundary_count n edge sizes parents q = count (borders n edge sizes parents q) (below n)
