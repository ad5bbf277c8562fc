-- What the functions that renumber the nodes of a list make of a number.
use Rattle.std.specs.Prelude.{cond, ℕ, eqb}
use Rattle.dissection.specs.Numbers.{fresh, outside}

-- the number of a node once only level `last` stays: fresh in it, outside elsewhere
abbrev pub only_level : ℕ → ℕ → ℕ
only_level last x = cond (eqb x last) fresh outside

-- the number of a node once those that were not left out are fresh
abbrev pub rest_fresh : ℕ → ℕ
rest_fresh x = cond (eqb x outside) outside fresh

-- the number of a node once those that were left out have number k
abbrev pub part_numbered : ℕ → ℕ → ℕ
part_numbered k x = cond (eqb x outside) k x
