-- Document 02, E9, as statements: what is factored to the end can be solved; the vector keeps its length, and stays as found where it is refused; a column's
-- entry stands once the column is reached, and every entry of the solution comes of the solution's own later entries; the pair that is read stands where
-- document 01's question finds it, and its order does not matter.
use Rattle.std.specs.Prelude.{◌≡◌, ◌≢◌, List, ℕ, ◌≤◌, ◌<◌, length, get_or, Float}
use Rattle.std.specs.Float.{nan, binary64}
use Rattle.std.specs.Float.Ieee.{sub, mul}
use Rattle.plan.specs.Lists.{in_turn}
use Rattle.plan.specs.Refusals.{first_fault}
use Rattle.plan.specs.Planning.{Contents}
use Rattle.plan.specs.Writing.{used}
use Rattle.plan.specs.Answers.{accepted}
use Rattle.plan.specs.Questions.{pair_question}
use Rattle.plan.specs.Filling.{Filling, Place, place_of, slots_of, held_at}
use Rattle.plan.specs.Factoring.{factoring}
use Rattle.plan.specs.FactorStatements.{place_values}
use Rattle.plan.specs.Solving.{forward, scaled, solve_checks, solving}
use Rattle.plan.specs.Held.{held_there, held_question}

-- "After E8 comes the solution": where factoring ends without a refusal, no vector of the length needed is refused.
abbrev pub FactoredSolves : Type 0
FactoredSolves =
    (c : Contents) (f : Filling) (y : List Float)
    → (factoring c f).answer.refusal ≡ 0 → length y ≡ c.nodes
    → first_fault (solve_checks c (factoring c f).filling y) ≡ 0

-- The vector keeps its length.
abbrev pub SolvingKeepsLength : Type 0
SolvingKeepsLength = (c : Contents) (f : Filling) (y : List Float) → length (solving c f y) ≡ length y

-- The checks come "before anything is changed": a refusal leaves the vector as found.
abbrev pub RefusalLeavesVector : Type 0
RefusalLeavesVector = (c : Contents) (f : Filling) (y : List Float) → first_fault (solve_checks c f y) ≢ 0 → solving c f y ≡ y

-- Forward, entry j after the columns before column j is that after any more of them, up to all: once its column is reached it does not change any more.
-- So "the column's entry", read there or at the end, is one number.
abbrev pub ForwardEntriesStand : Type 0
ForwardEntriesStand =
    (c : Contents) (f : Filling) (y : List Float) (j m : ℕ)
    → first_fault (solve_checks c f y) ≡ 0 → j ≤ m → m ≤ c.nodes →
    let after : ℕ → List Float = λ k. forward k (used c).column_starts (used c).rows f.values y in
    get_or (after m) j nan ≡ get_or (after j) j nan

-- Backward, entry j of the solution x is what is left of its quotient where "l times the row's entry is subtracted" for each slot of column j in turn, the
-- row's entry being that of x itself: x satisfies its triangular system in this arithmetic, entry by entry.
abbrev pub EntriesOfSolution : Type 0
EntriesOfSolution =
    (c : Contents) (f : Filling) (y : List Float) (j : ℕ)
    → first_fault (solve_checks c f y) ≡ 0 → j < c.nodes →
    let column_starts : List ℕ = (used c).column_starts in
    let rows : List ℕ = (used c).rows in
    let l : List Float = f.values in
    let quotients : List Float = scaled c.nodes f.diagonal (forward c.nodes column_starts rows l y) in
    let x : List Float = solving c f y in
    get_or x j nan
    ≡ in_turn (λ s e. sub binary64 e (mul binary64 (get_or l s nan) (get_or x (get_or rows s 0) nan))) (slots_of column_starts j) (get_or quotients j nan)

-- "at a pair, in either order"
abbrev pub HeldEitherOrder : Type 0
HeldEitherOrder =
    (n : ℕ) (column_starts rows : List ℕ) (f : Filling) (a b : ℕ)
    → held_question n column_starts rows f a b ≡ held_question n column_starts rows f b a

-- Where nothing is refused, this question and document 01's find the pair at the same place; so "there is no slot" is said by both or by neither.
abbrev pub HeldWhereFound : Type 0
HeldWhereFound =
    (n : ℕ) (column_starts rows : List ℕ) (f : Filling) (a b : ℕ)
    → (held_question n column_starts rows f a b).number ≡ 0 →
    let at : Place = place_of column_starts rows a b in
    (pair_question n column_starts rows a b ≡ accepted (place_values at)) × (held_question n column_starts rows f a b ≡ held_there (held_at at f))
