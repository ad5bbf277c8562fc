-- What the functions' contracts cite of a plan in slices, besides the book and the crates below: what is known of it behind check 13, and behind all
-- checks of its contents.
use Rattle.std.specs.Prelude.{◌≡◌, false, List, ℕ, ◌+◌, ◌-◌, ◌≤◌, ◌<◌, get_or}
use Rattle.plan.specs.Planning.{Contents, contents}
use Rattle.plan.specs.File.{Whole, bad_header}

-- a plan of its counts and lists: what checks 13 and 15 to 19 look at
abbrev pub listed : ℕ → ℕ → ℕ → List ℕ → List ℕ → List ℕ → List ℕ → List ℕ → Contents
listed n p s order sizes parents column_starts rows = contents 1 n p s order sizes parents column_starts rows

-- a whole plan that passed check 13
pub record Exact (c : Contents) : Type 0 where
  pub header : bad_header c ≡ false
  pub whole : Whole c

-- each of n columns has a number of rows that fits 16 bits
pub record NarrowColumns (n : ℕ) (column_starts : List ℕ) : Type 0 where
  pub rising : (j : ℕ) → j < n → get_or column_starts j 0 ≤ get_or column_starts (j + 1) 0
  pub narrow : (j : ℕ) → j < n → get_or column_starts (j + 1) 0 - get_or column_starts j 0 < 65536
