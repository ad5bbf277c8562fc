-- Document 02, E8: factoring in a plan's slots, "with the LDLᵀ form of document 002, in 64-bit floats". An operation of `lib.Ieee` on floats "rounds once",
-- to the nearest, ties to even, and keeps denormal numbers. `get_or .. nan` reads a buffer; in a plan that passes the checks no place is outside of it.
use Rattle.std.specs.Prelude.{Bool, false, not, cond, ◌||◌, ◌≡◌, List, [], ◌∷◌, ◌++◌, map, ℕ, zero, suc, ◌+◌, ltb, eqb, length, get_or, set, Float, Result, Ok, Err}
use Rattle.std.specs.Float.{nan, inf, binary64}
use Rattle.std.specs.Float.Ieee.{lt, div, sub, mul, of_bits}
use Rattle.std.specs.Float.Ieee.Positive.{positive}
use Rattle.plan.specs.declared.Report.{Report}
use Rattle.plan.specs.declared.refusal.Refusal.{Refusal}
use Rattle.plan.specs.Refusals.{number_of, Checks, first_fault}
use Rattle.plan.specs.Planning.{Contents}
use Rattle.plan.specs.Writing.{used, supplied_checks}
use Rattle.plan.specs.Filling.{Filling, Place, on_diagonal, in_slot, no_place, place_of, slots_of}

-- ---- one column

-- "With pivot d and column values v, every l is v / d": the values with those in some slots divided by d
unfoldable pub divided : List ℕ → Float → List Float → List Float
divided [] d v = v
divided (s ∷ slots) d v = divided slots d (set v s (div binary64 (get_or v s nan) d))

-- "for each pair of rows k ≤ i in that column, in ascending k and within it ascending i": the slots of k and of i, which
-- ascend with their rows (17)
unfoldable pub pairs : List ℕ → List (ℕ × ℕ)
pairs [] = []
pairs (k ∷ slots) = map (λ i. (k, i)) (k ∷ slots) ++ pairs slots

-- where the pair of the rows in two slots of a column stands
unfoldable pub pair_place : List ℕ → List ℕ → ℕ × ℕ → Place
pair_place column_starts rows p = place_of column_starts rows (get_or rows p.0 0) (get_or rows p.1 0)

-- x subtracted at a place of a buffer
unfoldable pub less : List Float → ℕ → Float → List Float
less buffer at x = set buffer at (sub binary64 (get_or buffer at nan) x)

-- x "is subtracted at that pair"; a pair without a place never comes (`FactorStatements.AimsAtSlots`)
unfoldable pub subtract_at : Place → Float → Filling → Filling
subtract_at (on_diagonal i) x f = record { diagonal = less f.diagonal i x; values = f.values }
subtract_at (in_slot s) x f = record { diagonal = f.diagonal; values = less f.values s x }
subtract_at no_place x f = f

-- "l of i times v of k is subtracted at that pair", pair after pair
unfoldable pub subtracted : List ℕ → List ℕ → List Float → List Float → List (ℕ × ℕ) → Filling → Filling
subtracted column_starts rows v l [] f = f
subtracted column_starts rows v l (p ∷ ps) f =
    subtracted column_starts rows v l ps
    (subtract_at (pair_place column_starts rows p) (mul binary64 (get_or l p.1 nan) (get_or v p.0 nan)) f)

-- the work of column j with pivot d: v are the values before it, l those after its divisions
unfoldable pub factor_column : List ℕ → List ℕ → ℕ → Float → Filling → Filling
factor_column column_starts rows j d f =
    let slots : List ℕ = slots_of column_starts j in
    let v : List Float = f.values in
    let l : List Float = divided slots d v in
    subtracted column_starts rows v l (pairs slots) (record { diagonal = f.diagonal; values = l })

-- "the multiplications and divisions done" in column j: a division for each slot, a multiplication for each pair
unfoldable pub column_operations : List ℕ → ℕ → ℕ
column_operations column_starts j = length (slots_of column_starts j) + length (pairs (slots_of column_starts j))

-- ---- the report

-- "On every refusal the report is all zeros"
abbrev pub zero_report : Report
zero_report = record { smallest = of_bits binary64 0; largest = of_bits binary64 0; operations = 0 }

-- before the first column: any pivot is smaller than the one and larger than the other
abbrev pub open_report : Report
open_report = record { smallest = inf false; largest = of_bits binary64 0; operations = 0 }

-- "a report of the smallest and the largest pivot with the multiplications and divisions done", after a column with pivot d and so many of them
unfoldable pub after_column : Report → Float → ℕ → Report
after_column r d operations = record {
  smallest = cond (lt d r.smallest) d r.smallest;
  largest = cond (lt r.largest d) d r.largest;
  operations = r.operations + operations;
}

-- ---- all columns

-- What is answered: the number of the refusal, 0 for none, and the report.
pub record FactorReply : Type 0 where
  pub refusal : ℕ
  pub report : Report

abbrev pub factor_reply : Result Report Refusal → FactorReply
factor_reply (Ok report) = record { refusal = 0; report = report }
factor_reply (Err r) = record { refusal = number_of r; report = zero_report }

-- The answer, and what both buffers hold afterwards.
pub record FactorOutcome : Type 0 where
  pub answer : FactorReply
  pub filling : Filling

abbrev pub factored : Report → Filling → FactorOutcome
factored r f = record { answer = record { refusal = 0; report = r }; filling = f }

abbrev pub not_factored : ℕ → Filling → FactorOutcome
not_factored k f = record { answer = record { refusal = k; report = zero_report }; filling = f }

-- The columns from j on, so many: "Columns go in ascending order." 31: "a pivot that is not both finite and above zero"; "on a refused pivot the value
-- buffers hold what the definition has reached before dividing by it".
unfoldable pub factor_from : List ℕ → List ℕ → ℕ → ℕ → Report → Filling → FactorOutcome
factor_from column_starts rows j zero r f = factored r f
factor_from column_starts rows j (suc left) r f =
    let d : Float = get_or f.diagonal j nan in
    let next : FactorOutcome =
    factor_from column_starts rows (suc j) left (after_column r d (column_operations column_starts j)) (factor_column column_starts rows j d f) in
    cond (positive d) next (not_factored 31 f)

-- ---- the checks before

-- 29: "more than one unknown for each node"
unfoldable pub many_unknowns : ℕ → Bool
many_unknowns unknowns = ltb 1 unknowns

-- 30: "a value buffer of another length than needed"
unfoldable pub bad_filling : ℕ → ℕ → Filling → Bool
bad_filling n s f = not (eqb (length f.diagonal) n) || not (eqb (length f.values) s)

-- "They come in that order, after the plan's own checks 28, 13 and 15 to 19, made as the writer makes them"; 31 comes as columns are reached
unfoldable pub factor_checks : Contents → Filling → Checks
factor_checks c f = supplied_checks c ++ ((29, many_unknowns c.unknowns) ∷ (30, bad_filling c.nodes c.slots f) ∷ [])

-- by the number of the first fault, 0 for none: every refusal but 31 leaves both buffers as found
unfoldable pub factor_out : ℕ → Contents → Filling → FactorOutcome
factor_out zero c f = factor_from (used c).column_starts (used c).rows 0 c.nodes open_report f
factor_out (suc k) c f = not_factored (suc k) f

-- factoring, whole
unfoldable pub factoring : Contents → Filling → FactorOutcome
factoring c f = factor_out (first_fault (factor_checks c f)) c f

-- The promise of factoring: the answer and both buffers are those of `factoring`: "the results equal that definition bit for bit", a NaN being one number.
pub record Factored (c : Contents) (answer : Result Report Refusal) (found left : Filling) : Type 0 where
  pub reply : factor_reply answer ≡ (factoring c found).answer
  pub diagonal : left.diagonal ≡ (factoring c found).filling.diagonal
  pub values : left.values ≡ (factoring c found).filling.values
