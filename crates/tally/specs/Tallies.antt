-- What a tally counts.
use Rattle.std.specs.Prelude.{List, ℕ, ◌+◌, min, length, get_or, set, ltb, cond}

-- one more of answer k, where there is such an answer; a count ends at the greatest number of 64 bits
abbrev pub raised : List ℕ → ℕ → List ℕ
raised times k = cond (ltb k (length times)) (set times k (min (get_or times k 0 + 1) 18446744073709551615)) times
