-- Lists that stand one after the other, by their starts: one that lies within the entries, a rule of each, and the place of a number in an ascending
-- one; and what working arrays begin with.
use Rattle.std.specs.Prelude.{◌≡◌, Bool, List, ℕ, ◌+◌, ◌≤◌, ◌<◌, length, get_or, replicate}
use Rattle.std.specs.Fn.{Shared}
use Rattle.std.specs.Borrow.{Bor}
use Rattle.plan.specs.Mesh.{max_nodes}

-- the number that is no node, position or part
abbrev pub none : ℕ
none = 65535

-- an array with a place for each of the most nodes that a mesh may have, the same number at each
unfoldable pub filled_with : ℕ → List ℕ
filled_with x = replicate max_nodes x

-- list v has a start and an end, in this order, and ends within the entries
pub record ListWithin (starts entries : List ℕ) (v : ℕ) : Type 0 where
  pub started : v + 1 < length starts
  pub ordered : get_or starts v 0 ≤ get_or starts (v + 1) 0
  pub ended : get_or starts (v + 1) 0 ≤ length entries

-- what a test that is passed in answers of a node and its list
abbrev pub TellsLists : {F : Type 0} → Shared F (ℕ × (Bor (List ℕ) × Unit {0})) Bool → F → (ℕ → List ℕ → Bool) → Type 0
TellsLists g f rule = (v : ℕ) (l : Bor (List ℕ)) (r : Bool) → g.post f (v, (l, tt)) r → r ≡ rule v l.now

-- the first place k of a list whose entry is not less than x; the list's length where every entry is less
pub record LowerBound (entries : List ℕ) (x k : ℕ) : Type 0 where
  pub within : k ≤ length entries
  pub before : (i : ℕ) → i < k → get_or entries i 0 < x
  pub from : k < length entries → x ≤ get_or entries k 0
