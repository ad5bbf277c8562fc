-- Document 02, E9: "the solution: forward through the columns, division by the pivots, then backward, in one lent vector in plan order": entry j of the
-- vector, as of the diagonal, is position j's. A slot holds l where factoring is finished, and the diagonal the pivots; `get_or .. nan` reads a buffer, as
-- in `Factoring`.
use Rattle.std.specs.Prelude.{Bool, not, ◌≡◌, List, [], ◌∷◌, ◌++◌, ℕ, zero, suc, eqb, length, get_or, set, Float}
use Rattle.std.specs.Float.{nan, binary64}
use Rattle.std.specs.Float.Ieee.{div, mul}
use Rattle.std.specs.Float.Ieee.Positive.{positive}
use Rattle.plan.specs.Lists.{exists, in_turn, below, down_from}
use Rattle.plan.specs.Refusals.{Checks, first_fault}
use Rattle.plan.specs.Planning.{Contents}
use Rattle.plan.specs.Writing.{used}
use Rattle.plan.specs.Filling.{Filling, slots_of}
use Rattle.plan.specs.Factoring.{less, factor_checks}

-- ---- the three passes

-- slot s of column j: "l times the column's entry is subtracted from the row's"
unfoldable pub less_row : List ℕ → List Float → ℕ → ℕ → List Float → List Float
less_row rows l j s y = less y (get_or rows s 0) (mul binary64 (get_or l s nan) (get_or y j nan))

-- "in each the rows ascending": its slots ascend with them (17)
unfoldable pub forward_column : List ℕ → List ℕ → List Float → ℕ → List Float → List Float
forward_column column_starts rows l j y = in_turn (less_row rows l j) (slots_of column_starts j) y

-- "columns ascending"
unfoldable pub forward : ℕ → List ℕ → List ℕ → List Float → List Float → List Float
forward n column_starts rows l y = in_turn (forward_column column_starts rows l) (below n) y

-- entry j: "each entry is divided by its pivot"
unfoldable pub by_pivot : List Float → ℕ → List Float → List Float
by_pivot pivots j y = set y j (div binary64 (get_or y j nan) (get_or pivots j nan))

-- each entry once; their order does not matter
unfoldable pub scaled : ℕ → List Float → List Float → List Float
scaled n pivots y = in_turn (by_pivot pivots) (below n) y

-- slot s of column j: "l times the row's entry is subtracted from the column's"
unfoldable pub less_column : List ℕ → List Float → ℕ → ℕ → List Float → List Float
less_column rows l j s y = less y j (mul binary64 (get_or l s nan) (get_or y (get_or rows s 0) nan))

-- "in each the rows ascending"
unfoldable pub backward_column : List ℕ → List ℕ → List Float → ℕ → List Float → List Float
backward_column column_starts rows l j y = in_turn (less_column rows l j) (slots_of column_starts j) y

-- "columns descending"
unfoldable pub backward : ℕ → List ℕ → List ℕ → List Float → List Float → List Float
backward n column_starts rows l y = in_turn (backward_column column_starts rows l) (down_from n) y

-- "forward through the columns, division by the pivots, then backward"
unfoldable pub solved : ℕ → List ℕ → List ℕ → Filling → List Float → List Float
solved n column_starts rows f y =
    backward n column_starts rows f.values (scaled n f.diagonal (forward n column_starts rows f.values y))

-- ---- the checks, and what the vector holds afterwards

-- 30 for the vector: it is not "n long"
unfoldable pub bad_vector : ℕ → List Float → Bool
bad_vector n y = not (eqb (length y) n)

-- 31 "for every pivot": one is "not both finite and above zero"
unfoldable pub bad_pivot : List Float → Bool
bad_pivot pivots = exists (λ d. not (positive d)) pivots

-- "Checks are those of E8 up to 30, the vector (n long) included, then 31 for every pivot, before anything is changed."
unfoldable pub solve_checks : Contents → Filling → List Float → Checks
solve_checks c f y = factor_checks c f ++ ((30, bad_vector c.nodes y) ∷ (31, bad_pivot f.diagonal) ∷ [])

-- by the number of the first fault, 0 for none: a refusal leaves the vector as found
unfoldable pub solve_out : ℕ → Contents → Filling → List Float → List Float
solve_out zero c f y = solved c.nodes (used c).column_starts (used c).rows f y
solve_out (suc k) c f y = y

-- what the vector holds afterwards
unfoldable pub solving : Contents → Filling → List Float → List Float
solving c f y = solve_out (first_fault (solve_checks c f y)) c f y

-- The promise of solving: the number of the refusal, 0 for none, and the vector; "equal in bits to this order", a NaN being one number.
pub record Solved (c : Contents) (f : Filling) (refusal : ℕ) (found left : List Float) : Type 0 where
  pub number : refusal ≡ first_fault (solve_checks c f found)
  pub vector : left ≡ solving c f found
