-- A pair of numbers of 32 bits as one number of 64, its key: by column, and in a column by row, as files have their pairs.
use Rattle.std.specs.Prelude.{ℕ, ◌+◌, ◌*◌, ◌/◌, ◌%◌}
use Rattle.plan.specs.MatrixMarket.{Pair}

abbrev pub key_of : Pair → ℕ
key_of p = p.1 * 4294967296 + p.0

-- the pair of a key
abbrev pub pair_of_key : ℕ → Pair
pair_of_key k = (k % 4294967296, k / 4294967296)
