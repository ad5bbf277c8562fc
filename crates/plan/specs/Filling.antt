-- Document 02, E8 and E9: a plan filled with numbers, "n diagonal values by position and one value for each slot", and where the number of a pair of
-- positions stands.
use Rattle.std.specs.Prelude.{Bool, true, false, cond, List, [], ◌∷◌, ℕ, ◌+◌, ◌-◌, min, max, eqb, get_or, Float}
use Rattle.std.specs.Float.{nan}
use Rattle.plan.specs.Lists.{up_from, is_in, index_of, list_at}

-- the two lent buffers
pub record Filling : Type 0 where
  pub diagonal : List Float
  pub values : List Float

pub data Place : Type 0 where
  -- on the diagonal, at this position
  on_diagonal : ℕ → Place
  -- in this slot
  in_slot : ℕ → Place
  -- "a pair of two different positions without a slot"
  no_place : Place

abbrev pub is_place : Place → Bool
is_place (on_diagonal i) = true
is_place (in_slot s) = true
is_place no_place = false

-- whether two pairs have the same place; a pair without one shares none
abbrev pub same_place : Place → Place → Bool
same_place (on_diagonal i) (on_diagonal k) = eqb i k
same_place (on_diagonal i) (in_slot t) = false
same_place (on_diagonal i) no_place = false
same_place (in_slot s) (on_diagonal k) = false
same_place (in_slot s) (in_slot t) = eqb s t
same_place (in_slot s) no_place = false
same_place no_place b = false

-- row i of column k: "Slots are numbered from 0, column after column."
unfoldable pub place_below : List ℕ → List ℕ → ℕ → ℕ → Place
place_below column_starts rows i k =
    let r : List ℕ = list_at column_starts rows k in
    cond (is_in i r) (in_slot (get_or column_starts k 0 + index_of i r)) no_place

-- a pair of positions, in either order
unfoldable pub place_of : List ℕ → List ℕ → ℕ → ℕ → Place
place_of column_starts rows a b = cond (eqb a b) (on_diagonal a) (place_below column_starts rows (max a b) (min a b))

-- the slots of column j, ascending, one for each of its rows where the starts do not fall (17)
unfoldable pub slots_of : List ℕ → ℕ → List ℕ
slots_of column_starts j = up_from (get_or column_starts j 0) (get_or column_starts (j + 1) 0 - get_or column_starts j 0)

-- the number held at a place of the buffers, none where there is no slot
unfoldable pub held_at : Place → Filling → List Float
held_at (on_diagonal i) f = get_or f.diagonal i nan ∷ []
held_at (in_slot s) f = get_or f.values s nan ∷ []
held_at no_place f = []
