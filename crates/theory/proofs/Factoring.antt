-- E8: what is asked of a plan that passes the checks, how many operations there are, and the lengths of both buffers.
use mathlib.Core.Path.{◌≡◌, refl, sym, ap, ap₂, ◌∙◌}
use mathlib.Core.Bool.{Bool, true, false, not, cond}
use mathlib.Core.List.{List, [], ◌∷◌, map}
use Prim.Native.Nat.{ℕ, zero, suc, ◌+◌, ◌-◌, ◌*◌, ◌/◌, ◌<◌}
use native.Mathlib.Nat.{add-zero, zero-add, add_assoc}
use native.Mathlib.Omega.{arith}
use lib.Dec.{eqb}
use lib.ListN.{length, get_or, set, length-set, length-append, length-map}
use lib.Ieee.{Float, nan, mul, binary64}
use lib.Ieee.Positive.{positive}
use Rattle.plan.specs.Lists.{up_from, below, total}
use Rattle.plan.specs.Refusals.{Checks, first_fault}
use Rattle.plan.specs.Elimination.{multiplications}
use Rattle.plan.specs.Planning.{Contents, row_counts}
use Rattle.plan.specs.File.{contents_checks}
use Rattle.plan.specs.Writing.{used, supplied_checks}
use Rattle.plan.specs.Filling.{Filling, Place, on_diagonal, in_slot, no_place, slots_of}
use Rattle.plan.specs.Factoring.{less, subtract_at, divided, pairs, pair_place, subtracted, factor_column, column_operations, open_report, after_column, FactorOutcome, not_factored, factor_from, many_unknowns, bad_filling, factor_checks, factor_out, factoring}
use Rattle.plan.specs.FactorStatements.{AimsAtSlots, DoneAsPlanned}
use Rattle.plan.specs.RoundTrips.{Sound}
use Rattle.plan.specs.declared.Report.{Report}
use Rattle.theory.specs.Covering.{Covering}
use Rattle.theory.proofs.Ranges.{length-up_from}
use Rattle.theory.proofs.Bools.{or_false_left, or_false_right}
use Rattle.theory.proofs.Refusals.{no_fault, no_fault_first, first-none}
use Rattle.theory.proofs.Fitting.{Limits, header_limits}
use Rattle.theory.proofs.RoundTrips.{supplied_sound}
use borrow.Author.Tests.{eqb-true, not-false}
use Rattle.theory.proofs.FactorPlaces.{covering, aims}

-- a plan that passes the writer's checks
pub supplied_covering : (c : Contents) → first_fault (supplied_checks c) ≡ 0 → Covering c.nodes (used c).column_starts (used c).rows
unfolding used
supplied_covering c h =
    let sound : Sound (used c) = supplied_sound c h in
    covering (used c) sound.rows sound.covered (omega (arith, sound.whole.rows))

-- has a node
pub supplied_some : (c : Contents) → first_fault (supplied_checks c) ≡ 0 → 0 < c.nodes
unfolding used
supplied_some c h =
    let limits : Limits (used c) = header_limits (used c) (supplied_sound c h).header in
    omega (arith, limits.parts_some, limits.parts_few)

-- What the checks say where none of them finds a fault.
pub record FactorPassed (c : Contents) (f : Filling) : Type 0 where
  pub supplied : first_fault (supplied_checks c) ≡ 0
  pub diagonal : length f.diagonal ≡ c.nodes
  pub values : length f.values ≡ c.slots

pub factor_passed : (c : Contents) (f : Filling) → first_fault (factor_checks c f) ≡ 0 → FactorPassed c f
unfolding factor_checks bad_filling supplied_checks contents_checks
factor_passed c f h =
    let later : Checks = (29, many_unknowns c.unknowns) ∷ (30, bad_filling c.nodes c.slots f) ∷ [] in
    let passed : first_fault (supplied_checks c) ≡ 0 = no_fault_first (supplied_checks c) later h in
    let c29 = no_fault 29 (many_unknowns c.unknowns) _ (omega arith) (sym (first-none (supplied_checks c) later refl passed) ∙ h) in
    let c30 = no_fault 30 (bad_filling c.nodes c.slots f) [] (omega arith) c29.1 in
    let wrongDiagonal : Bool = not (eqb (length f.diagonal) c.nodes) in
    record {
      supplied = passed;
      diagonal = eqb-true _ _ (not-false _ (or_false_left wrongDiagonal _ c30.0));
      values = eqb-true _ _ (not-false _ (or_false_right wrongDiagonal _ c30.0));
    }

-- "No subtraction may aim at a pair of two different positions without a slot."
pub aims_at_slots : AimsAtSlots
aims_at_slots c h = aims c.nodes (used c).column_starts (used c).rows (supplied_covering c h)

-- ---- the operations

-- a column of m slots has m (m + 1) / 2 pairs
pairs-many : (l : List ℕ) → 2 * length (pairs l) ≡ length l * (length l + 1)
unfolding pairs
pairs-many [] = refl
pairs-many (k ∷ l) =
    let with-k : ℕ → ℕ × ℕ = λ i. (k, i) in
    omega (arith, pairs-many l, length-append (map with-k (k ∷ l)) (pairs l), length-map (k ∷ l) with-k)

-- so column j has as many operations as the plan says
pub column-planned : (starts : List ℕ) (j : ℕ) → column_operations starts j ≡ (let m : ℕ = get_or starts (j + 1) 0 - get_or starts j 0 in m * (m + 3) / 2)
unfolding column_operations slots_of
column-planned starts j =
    let m : ℕ = get_or starts (j + 1) 0 - get_or starts j 0 in
    let many : length (slots_of starts j) ≡ m = length-up_from m (get_or starts j 0) in
    let twice : 2 * length (pairs (slots_of starts j)) ≡ m * (m + 1) = pairs-many (slots_of starts j) ∙ ap (λ (x : ℕ). x * (x + 1)) many in
    let three : m * (m + 3) ≡ m * (m + 1) + 2 * m = omega arith in
    omega (arith, many, twice, three)

-- all columns together as many as the multiplications that the plan gives
pub operations_planned : (c : Contents) → total (map (column_operations c.column_starts) (below c.nodes)) ≡ multiplications (row_counts c)
unfolding multiplications row_counts
operations_planned c = go c.nodes 0
  where
    go : (k a : ℕ) → total (map (column_operations c.column_starts) (up_from a k))
        ≡ total (map (λ m. m * (m + 3) / 2) (map (λ j. get_or c.column_starts (j + 1) 0 - get_or c.column_starts j 0) (up_from a k)))
    go zero a = refl
    go (suc k) a = ap₂ (λ (x y : ℕ). x + y) (column-planned c.column_starts a) (go k (suc a))

-- the report of columns that are finished counts every one of them
pub finished-counts : (starts rows : List ℕ) (left j : ℕ) (r : Report) (f : Filling) → (factor_from starts rows j left r f).answer.refusal ≡ 0
    → (factor_from starts rows j left r f).answer.report.operations ≡ r.operations + total (map (column_operations starts) (up_from j left))
unfolding factor_from after_column
finished-counts starts rows zero j r f h = sym (add-zero r.operations)
finished-counts starts rows (suc left) j r f h = go (positive d) h (finished-counts starts rows left (suc j) (after_column r d (column_operations starts j)) (factor_column starts rows j d f))
  where
    d : Float
    d = get_or f.diagonal j nan

    next : FactorOutcome
    next = factor_from starts rows (suc j) left (after_column r d (column_operations starts j)) (factor_column starts rows j d f)

    go : (b : Bool) → (cond b next (not_factored 31 f)).answer.refusal ≡ 0
        → (next.answer.refusal ≡ 0 → next.answer.report.operations ≡ r.operations + column_operations starts j + total (map (column_operations starts) (up_from (suc j) left)))
        → (cond b next (not_factored 31 f)).answer.report.operations ≡ r.operations + (column_operations starts j + total (map (column_operations starts) (up_from (suc j) left)))
    go true e ih = ih e ∙ add_assoc _ _ _
    go false e ih = absurd (omega (arith, e))

-- "the multiplications and divisions done, which for a finished plan equal the planned count"
pub done_as_planned : DoneAsPlanned
unfolding factoring factor_out used
done_as_planned c f h = go (first_fault (factor_checks c f)) h
  where
    go : (k : ℕ) → (factor_out k c f).answer.refusal ≡ 0 → (factor_out k c f).answer.report.operations ≡ multiplications (row_counts (used c))
    go zero e =
        let all : ℕ = total (map (column_operations (used c).column_starts) (below c.nodes)) in
        let counted : (factor_from (used c).column_starts (used c).rows 0 c.nodes open_report f).answer.report.operations ≡ 0 + all =
        finished-counts (used c).column_starts (used c).rows c.nodes 0 open_report f e in
        counted ∙ zero-add all ∙ operations_planned (used c)
    go (suc k) e = absurd (omega (arith, e))

-- ---- the lengths

abbrev pub SameLengths : Filling → Filling → Type 0
SameLengths f g = (length g.diagonal ≡ length f.diagonal) × (length g.values ≡ length f.values)

pub subtract_at-lengths : (at : Place) (x : Float) (f : Filling) → SameLengths f (subtract_at at x f)
unfolding subtract_at less
subtract_at-lengths (on_diagonal i) x f = (length-set f.diagonal i _, refl)
subtract_at-lengths (in_slot s) x f = (refl, length-set f.values s _)
subtract_at-lengths no_place x f = (refl, refl)

pub divided-length : (slots : List ℕ) (d : Float) (v : List Float) → length (divided slots d v) ≡ length v
unfolding divided
divided-length [] d v = refl
divided-length (s ∷ slots) d v = divided-length slots d (set v s _) ∙ length-set v s _

pub subtracted-lengths : (starts rows : List ℕ) (v l : List Float) (ps : List (ℕ × ℕ)) (f : Filling) → SameLengths f (subtracted starts rows v l ps f)
unfolding subtracted
subtracted-lengths starts rows v l [] f = (refl, refl)
subtracted-lengths starts rows v l (p ∷ ps) f =
    let x : Float = mul binary64 (get_or l p.1 nan) (get_or v p.0 nan) in
    let here = subtract_at-lengths (pair_place starts rows p) x f in
    let rest = subtracted-lengths starts rows v l ps (subtract_at (pair_place starts rows p) x f) in
    (rest.0 ∙ here.0, rest.1 ∙ here.1)

pub column-lengths : (starts rows : List ℕ) (j : ℕ) (d : Float) (f : Filling) → SameLengths f (factor_column starts rows j d f)
unfolding factor_column
column-lengths starts rows j d f =
    let l : List Float = divided (slots_of starts j) d f.values in
    let after = subtracted-lengths starts rows f.values l (pairs (slots_of starts j)) (record { diagonal = f.diagonal; values = l }) in
    (after.0, after.1 ∙ divided-length (slots_of starts j) d f.values)

pub columns-lengths : (starts rows : List ℕ) (left j : ℕ) (r : Report) (f : Filling) → SameLengths f (factor_from starts rows j left r f).filling
unfolding factor_from
columns-lengths starts rows zero j r f = (refl, refl)
columns-lengths starts rows (suc left) j r f = go (positive d) (columns-lengths starts rows left (suc j) (after_column r d (column_operations starts j)) (factor_column starts rows j d f)) (column-lengths starts rows j d f)
  where
    d : Float
    d = get_or f.diagonal j nan

    next : FactorOutcome
    next = factor_from starts rows (suc j) left (after_column r d (column_operations starts j)) (factor_column starts rows j d f)

    go : (b : Bool) → SameLengths (factor_column starts rows j d f) next.filling → SameLengths f (factor_column starts rows j d f)
        → SameLengths f (cond b next (not_factored 31 f)).filling
    go true later here = (later.0 ∙ here.0, later.1 ∙ here.1)
    go false later here = (refl, refl)

-- both buffers keep their lengths, whatever is answered
pub factoring-lengths : (c : Contents) (f : Filling) → SameLengths f (factoring c f).filling
unfolding factoring factor_out
factoring-lengths c f = go (first_fault (factor_checks c f))
  where
    go : (k : ℕ) → SameLengths f (factor_out k c f).filling
    go zero = columns-lengths (used c).column_starts (used c).rows c.nodes 0 open_report f
    go (suc k) = (refl, refl)
