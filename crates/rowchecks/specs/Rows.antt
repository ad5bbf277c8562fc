-- What the functions' contracts cite of a plan's parts and rows, besides the book: what is known of them behind check 16, behind the starts' part of
-- check 17 and behind the whole of it, rows in bytes, and 18's rule by a range of numbers for each position.
use Rattle.std.specs.Prelude.{◌≡◌, Bool, false, not, ◌&&◌, List, [], ◌∷◌, ◌++◌, ℕ, ◌/◌, ◌≤◌, ◌<◌, ltb, length, get_or}
use Rattle.plan.specs.Lists.{exists}
use Rattle.plan.specs.Refusals.{Checks}
use Rattle.plan.specs.Mesh.{max_nodes, bad_starts}
use Rattle.plan.specs.Parts.{part_of, at_or_above}
use Rattle.plan.specs.Planning.{Contents, contents}
use Rattle.plan.specs.File.{decode16s, bad_parts, bad_columns, not_covered}
use Rattle.plan.specs.RowFaults.{walk_checks}

-- a plan of its tree of parts and its layout: what checks 17 to 19 look at
abbrev pub parts_and_rows : ℕ → List ℕ → List ℕ → List ℕ → List ℕ → Contents
parts_and_rows n sizes parents column_starts rows = contents 1 n (length sizes) (length rows) [] sizes parents column_starts rows

-- checks 17 to 19
abbrev pub row_checks : Contents → Checks
row_checks c = walk_checks c ++ ((19, not_covered c) ∷ [])

-- sizes and parents of parts of n positions that passed check 16
pub record SoundParts (n : ℕ) (sizes parents : List ℕ) : Type 0 where
  pub few : n ≤ max_nodes
  pub as_many : length parents ≡ length sizes
  pub good : bad_parts (parts_and_rows n sizes parents [] []) ≡ false

-- the starts of n columns, whose rows are `rows`, as many as the last start says
pub record Started (n : ℕ) (column_starts rows : List ℕ) : Type 0 where
  pub few : n ≤ max_nodes
  pub starts : bad_starts n column_starts ≡ false
  pub last : get_or column_starts n 0 ≡ length rows

-- such a layout that has passed check 17
pub record LaidOut (n : ℕ) (column_starts rows : List ℕ) : Type 0 where
  pub started : Started n column_starts rows
  pub good : bad_columns n column_starts rows ≡ false

-- rows in bytes, two for each
abbrev pub rows_in : List ℕ → List ℕ
rows_in bytes = decode16s bytes 0 2 (length bytes / 2)

-- ---- 18's rule by ranges

-- whether number x lies in the range from `low` up to, not including, `end`
abbrev pub in_range : ℕ → ℕ → ℕ → Bool
in_range x low end = not (ltb x low) && ltb x end

-- whether row i is a position whose range holds the number of column j's part
abbrev pub reaches : ℕ → List ℕ → List ℕ → ℕ → ℕ → Bool
reaches n lows ends j i = ltb i n && in_range (get_or lows j 0) (get_or lows i 0) (get_or ends i 0)

-- whether some of the rows r of column j is not
abbrev pub outside_ranges : ℕ → List ℕ → List ℕ → ℕ → List ℕ → Bool
outside_ranges n lows ends j r = exists (λ i. not (reaches n lows ends j i)) r

-- ranges that tell the parts and their ancestors: a part and all parts below it have consecutive numbers, its own first; `lows` and `ends` have,
-- for each position, the range of its part
pub record Ranges (n : ℕ) (sizes parents lows ends : List ℕ) : Type 0 where
  pub low_room : n ≤ length lows
  pub end_room : n ≤ length ends
  pub exact : (j i : ℕ) → j < n → reaches n lows ends j i ≡ at_or_above parents (part_of sizes j) (part_of sizes i)
