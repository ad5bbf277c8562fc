-- Document 02, E8, as statements: where a pair's number stands, where subtractions aim, what a finished report says, what both buffers hold when it is
-- refused, and what stays.
use Rattle.std.specs.Prelude.{Bool, true, false, cond, ◌||◌, ◌≡◌, ◌≢◌, ◌⊎◌, List, [], ◌∷◌, ℕ, zero, suc, ◌<◌, get_or, Float}
use Rattle.std.specs.Float.{nan}
use Rattle.std.specs.Float.Ieee.{lt}
use Rattle.std.specs.Float.Ieee.Positive.{positive}
use Rattle.plan.specs.Lists.{exists, every, below}
use Rattle.plan.specs.Refusals.{first_fault}
use Rattle.plan.specs.Elimination.{multiplications}
use Rattle.plan.specs.Planning.{Contents, row_counts}
use Rattle.plan.specs.Writing.{used, supplied_checks}
use Rattle.plan.specs.Answers.{accepted, slot_case, diagonal_case, no_slot_case}
use Rattle.plan.specs.Questions.{pair_found}
use Rattle.plan.specs.Filling.{Filling, Place, on_diagonal, in_slot, no_place, is_place, same_place, place_of, slots_of, held_at}
use Rattle.plan.specs.Factoring.{pairs, pair_place, factor_column, zero_report, factor_checks, factoring}

-- what the first question of document 01 answers for a place
abbrev pub place_values : Place → List ℕ
place_values (on_diagonal i) = diagonal_case ∷ []
place_values (in_slot s) = slot_case ∷ s ∷ []
place_values no_place = no_slot_case ∷ []

-- A pair's number stands where that question finds the pair.
abbrev pub QuestionFindsPlace : Type 0
QuestionFindsPlace =
    (column_starts rows : List ℕ) (a b : ℕ)
    → pair_found 0 column_starts rows a b ≡ accepted (place_values (place_of column_starts rows a b))

-- whether no subtraction of the n columns aims "at a pair of two different positions without a slot"
unfoldable pub aims_at_places : ℕ → List ℕ → List ℕ → Bool
aims_at_places n column_starts rows =
    every (λ j. every (λ p. is_place (pair_place column_starts rows p)) (pairs (slots_of column_starts j))) (below n)

-- "No subtraction may aim at a pair of two different positions without a slot": none does, of every plan that passes the checks.
abbrev pub AimsAtSlots : Type 0
AimsAtSlots = (c : Contents) → first_fault (supplied_checks c) ≡ 0 → aims_at_places c.nodes (used c).column_starts (used c).rows ≡ true

-- "the multiplications and divisions done, which for a finished plan equal the planned count"
abbrev pub DoneAsPlanned : Type 0
DoneAsPlanned =
    (c : Contents) (f : Filling)
    → (factoring c f).answer.refusal ≡ 0
    → (factoring c f).answer.report.operations ≡ multiplications (row_counts (used c))

-- The pivots are the first n numbers of a diagonal: these two are among them, and none is less than the one or greater than the other.
pub record Extremes (diagonal : List Float) (n : ℕ) (smallest largest : Float) : Type 0 where
  pub pivots : (i : ℕ) → i < n → positive (get_or diagonal i nan) ≡ true
  pub none_below : (i : ℕ) → i < n → lt (get_or diagonal i nan) smallest ≡ false
  pub none_above : (i : ℕ) → i < n → lt largest (get_or diagonal i nan) ≡ false
  pub is_smallest : (a : ℕ) × (a < n) × (smallest ≡ get_or diagonal a nan)
  pub is_largest : (b : ℕ) × (b < n) × (largest ≡ get_or diagonal b nan)

-- "a report of the smallest and the largest pivot": of the numbers on the diagonal of a finished plan, which are its pivots (`PivotsStand`).
abbrev pub ReportsExtremes : Type 0
ReportsExtremes =
    (c : Contents) (f : Filling)
    → (factoring c f).answer.refusal ≡ 0
    → Extremes (factoring c f).filling.diagonal c.nodes (factoring c f).answer.report.smallest (factoring c f).answer.report.largest

-- how many of the columns from j on, so many, are worked: those before the first pivot that is refused
unfoldable pub columns_done : List ℕ → List ℕ → ℕ → ℕ → Filling → ℕ
columns_done column_starts rows j zero f = 0
columns_done column_starts rows j (suc left) f =
    let d : Float = get_or f.diagonal j nan in
    let later : ℕ = columns_done column_starts rows (suc j) left (factor_column column_starts rows j d f) in
    cond (positive d) (suc later) 0

-- both buffers after so many columns, from j on
unfoldable pub after_columns : List ℕ → List ℕ → ℕ → ℕ → Filling → Filling
after_columns column_starts rows j zero f = f
after_columns column_starts rows j (suc m) f =
    after_columns column_starts rows (suc j) m (factor_column column_starts rows j (get_or f.diagonal j nan) f)

-- Where no check before the first column finds a fault, both buffers are those after the worked columns; "on a refused pivot the value buffers hold
-- what the definition has reached before dividing by it".
abbrev pub HoldsReached : Type 0
HoldsReached =
    (c : Contents) (f : Filling)
    → first_fault (factor_checks c f) ≡ 0
    → (factoring c f).filling ≡ after_columns (used c).column_starts (used c).rows 0 (columns_done (used c).column_starts (used c).rows 0 c.nodes f) f

-- There, 0 is answered where all columns are worked, and 31 where not: the next one's is "a pivot that is not both finite and above zero".
abbrev pub EndsOrStops : Type 0
EndsOrStops =
    (c : Contents) (f : Filling)
    → first_fault (factor_checks c f) ≡ 0 →
    let m : ℕ = columns_done (used c).column_starts (used c).rows 0 c.nodes f in
    ((m ≡ c.nodes) × ((factoring c f).answer.refusal ≡ 0))
    ⊎ ((m < c.nodes) × ((factoring c f).answer.refusal ≡ 31) × (positive (get_or (factoring c f).filling.diagonal m nan) ≡ false))

-- And only there is 31 answered.
abbrev pub StopsAtPivot : Type 0
StopsAtPivot =
    (c : Contents) (f : Filling)
    → (factoring c f).answer.refusal ≡ 31
    → first_fault (factor_checks c f) ≡ 0

-- "On every refusal the report is all zeros"
abbrev pub RefusalReportsNothing : Type 0
RefusalReportsNothing = (c : Contents) (f : Filling) → (factoring c f).answer.refusal ≢ 0 → (factoring c f).answer.report ≡ zero_report

-- 31 is "the one departure from document 01's rule on refusals": any other leaves both buffers as found.
abbrev pub RefusalLeavesBoth : Type 0
RefusalLeavesBoth =
    (c : Contents) (f : Filling)
    → (factoring c f).answer.refusal ≢ 0 → (factoring c f).answer.refusal ≢ 31
    → (factoring c f).filling ≡ f

-- whether column j divides at a place, or one of its pairs stands there
unfoldable pub touches : List ℕ → List ℕ → Place → ℕ → Bool
touches column_starts rows at j =
    exists (λ s. same_place at (in_slot s)) (slots_of column_starts j)
    || exists (λ p. same_place at (pair_place column_starts rows p)) (pairs (slots_of column_starts j))

-- The number by which a column of a finished plan is divided, the one that its position has on the diagonal after the columns before, is there at the end.
abbrev pub PivotsStand : Type 0
PivotsStand =
    (c : Contents) (f : Filling) (j : ℕ)
    → (factoring c f).answer.refusal ≡ 0 → j < c.nodes
    → get_or (factoring c f).filling.diagonal j nan ≡ get_or (after_columns (used c).column_starts (used c).rows 0 j f).diagonal j nan

-- What none of the worked columns touches stays; where a check before the first column finds a fault, that is said of columns that would be worked.
abbrev pub UntouchedStays : Type 0
UntouchedStays =
    (c : Contents) (f : Filling) (at : Place)
    → exists (touches (used c).column_starts (used c).rows at) (below (columns_done (used c).column_starts (used c).rows 0 c.nodes f)) ≡ false
    → held_at at (factoring c f).filling ≡ held_at at f
