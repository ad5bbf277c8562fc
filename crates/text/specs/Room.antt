-- How large the listing program's buffers are.
use Rattle.std.specs.Prelude.{ℕ}

-- the most slots of 256 nodes: 256 · 255 / 2
abbrev pub max_listed_slots : ℕ
max_listed_slots = 32640

-- how many bytes the text has room for; no listing is longer
abbrev pub longest : ℕ
longest = 135168
