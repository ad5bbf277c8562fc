-- What the functions' contracts cite of the bytes of a file: the first bytes that are written, a file that passed checks 10 to 14 and 28, and the row
-- counts in one.
use Rattle.std.specs.Prelude.{◌≡◌, ℕ, ◌+◌, ◌*◌}
use mathlib.Core.List.{List, [], ◌∷◌, flatten}
use Rattle.plan.specs.Refusals.{first_fault}
use Rattle.plan.specs.File.{encode16, encode32, decode16s, magic, version_of, version, nodes_at, parse}
use Rattle.plan.specs.Reading.{header_checks}
use Rattle.filechecks.specs.declared.header.Head.{Head}
use Rattle.filechecks.specs.Heads.{HeadOf}

-- the first bytes that are written: mark, version, unknowns and counts
abbrev pub header_of : ℕ → ℕ → ℕ → ℕ → List ℕ
header_of unknowns n p s = flatten (magic ∷ encode16 version ∷ encode16 unknowns ∷ encode32 n ∷ encode32 p ∷ encode32 s ∷ [])

-- a file that passed checks 10 to 14 and 28, and what its first bytes say
pub record Headed (bytes : List ℕ) (head : Head) : Type 0 where
  pub good : 0 ≡ first_fault (header_checks bytes)
  pub says : HeadOf bytes head

-- the row counts in a file
abbrev pub row_counts_in : List ℕ → List ℕ
row_counts_in bytes =
    let n : ℕ = (parse bytes).nodes in
    decode16s bytes (nodes_at (version_of bytes) + 12 + 2 * n + 4 * (parse bytes).parts) 2 n
