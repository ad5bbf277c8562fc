-- E9: what passes in turn keep, what a column's rows leave of its entry, and that what is factored to the end can be solved.
use mathlib.Core.Path.{◌≡◌, refl, ap, ◌∙◌}
use mathlib.Core.Logic.{◌≢◌}
use mathlib.Core.Bool.{false, not}
use mathlib.Core.List.{List, [], ◌∷◌}
use Prim.Native.Nat.{ℕ, zero, suc, ◌+◌, ◌-◌, ◌≤◌, ◌<◌}
use native.Mathlib.Omega.{arith}
use lib.ListN.{length, get_or, set, length-set}
use lib.Seq.{get_or-set_same, get_or-set_other, set-set}
use lib.Ieee.{Float, nan, sub, mul, binary64}
use lib.Ieee.Positive.{positive}
use Rattle.plan.specs.Lists.{in_turn, up_from, below, down_from}
use Rattle.plan.specs.Refusals.{first_fault}
use Rattle.plan.specs.Planning.{Contents}
use Rattle.plan.specs.File.{contents_checks}
use Rattle.plan.specs.Writing.{used, supplied_checks}
use Rattle.plan.specs.Filling.{Filling, slots_of}
use Rattle.plan.specs.Factoring.{less, bad_filling, factor_checks, factor_out, factoring}
use Rattle.plan.specs.Solving.{less_row, forward_column, forward, by_pivot, scaled, less_column, backward_column, backward, solved, bad_vector, bad_pivot, solve_checks, solve_out, solving}
use Rattle.plan.specs.SolveStatements.{FactoredSolves, SolvingKeepsLength, RefusalLeavesVector}
use Rattle.theory.proofs.Bools.{eqb_same}
use Rattle.theory.proofs.AnyLists.{none_at}
use Rattle.theory.proofs.Refusals.{first_nil, first-none, fault_later}
use Rattle.theory.proofs.Factoring.{factor_passed, SameLengths, factoring-lengths}
use Rattle.theory.proofs.FactorReport.{reports_extremes}

-- ---- in turn

-- one more number of a range
pub turn_next : {B : Type 0} (rule : ℕ → B → B) (s to : ℕ) (y : B) → s < to
    → in_turn rule (up_from s (to - s)) y ≡ in_turn rule (up_from (s + 1) (to - (s + 1))) (rule s y)
turn_next rule s to y lt =
    let here : to - s ≡ suc (to - (s + 1)) = omega arith in
    let next : s + 1 ≡ suc s = omega arith in
    rw (here, next)

-- none is left
pub turn_end : {B : Type 0} (rule : ℕ → B → B) (s to : ℕ) (y : B) → to ≤ s → in_turn rule (up_from s (to - s)) y ≡ y
turn_end rule s to y le = let none : to - s ≡ 0 = omega arith in rw none

-- a rule that keeps lengths keeps them in turn
abbrev pub Keeping : (ℕ → List Float → List Float) → Type 0
Keeping rule = (k : ℕ) (y : List Float) → length (rule k y) ≡ length y

turn_keeps : (rule : ℕ → List Float → List Float) → Keeping rule → (ks : List ℕ) (y : List Float) → length (in_turn rule ks y) ≡ length y
turn_keeps rule h [] y = refl
turn_keeps rule h (k ∷ ks) y = turn_keeps rule h ks (rule k y) ∙ h k y

-- ---- the lengths

pub less_row_keeps : (rows : List ℕ) (l : List Float) (j : ℕ) → Keeping (less_row rows l j)
unfolding less_row less
less_row_keeps rows l j s y = length-set y _ _

pub forward_column_keeps : (starts rows : List ℕ) (l : List Float) → Keeping (forward_column starts rows l)
unfolding forward_column
forward_column_keeps starts rows l j y = turn_keeps (less_row rows l j) (less_row_keeps rows l j) (slots_of starts j) y

pub by_pivot_keeps : (pivots : List Float) → Keeping (by_pivot pivots)
unfolding by_pivot
by_pivot_keeps pivots j y = length-set y j _

less_column_keeps : (rows : List ℕ) (l : List Float) (j : ℕ) → Keeping (less_column rows l j)
unfolding less_column less
less_column_keeps rows l j s y = length-set y j _

pub backward_column_keeps : (starts rows : List ℕ) (l : List Float) → Keeping (backward_column starts rows l)
unfolding backward_column
backward_column_keeps starts rows l j y = turn_keeps (less_column rows l j) (less_column_keeps rows l j) (slots_of starts j) y

pub forward-length : (n : ℕ) (starts rows : List ℕ) (l y : List Float) → length (forward n starts rows l y) ≡ length y
unfolding forward
forward-length n starts rows l y = turn_keeps (forward_column starts rows l) (forward_column_keeps starts rows l) (below n) y

pub scaled-length : (n : ℕ) (pivots y : List Float) → length (scaled n pivots y) ≡ length y
unfolding scaled
scaled-length n pivots y = turn_keeps (by_pivot pivots) (by_pivot_keeps pivots) (below n) y

backward-length : (n : ℕ) (starts rows : List ℕ) (l y : List Float) → length (backward n starts rows l y) ≡ length y
unfolding backward
backward-length n starts rows l y = turn_keeps (backward_column starts rows l) (backward_column_keeps starts rows l) (down_from n) y

-- the vector keeps its length, whatever is answered
pub solving_keeps_length : SolvingKeepsLength
unfolding solving solve_out solved
solving_keeps_length c f y = go (first_fault (solve_checks c f y))
  where
    starts : List ℕ
    starts = (used c).column_starts

    rows : List ℕ
    rows = (used c).rows

    go : (k : ℕ) → length (solve_out k c f y) ≡ length y
    go zero =
        backward-length c.nodes starts rows f.values _
        ∙ scaled-length c.nodes f.diagonal _
        ∙ forward-length c.nodes starts rows f.values y
    go (suc k) = refl

-- a refusal leaves it as found
pub refusal_leaves_vector : RefusalLeavesVector
unfolding solving solve_out
refusal_leaves_vector c f y = go (first_fault (solve_checks c f y))
  where
    go : (k : ℕ) → k ≢ 0 → solve_out k c f y ≡ y
    go zero some = absurd (some refl)
    go (suc k) some = refl

-- ---- a column's entry

-- forward: another row leaves it as it is
pub less_row_entry : (rows : List ℕ) (l : List Float) (j s : ℕ) (y : List Float) → j < get_or rows s 0 → get_or (less_row rows l j s y) j nan ≡ get_or y j nan
unfolding less_row less
less_row_entry rows l j s y lt = get_or-set_other y (get_or rows s 0) j _ nan (λ e. omega (arith, e, lt))

-- backward: where the vector has x for it, what another row leaves is written in its place
pub less_column_entry : (rows : List ℕ) (l : List Float) (j s : ℕ) (y : List Float) (x : Float) → j < length y → j < get_or rows s 0
    → less_column rows l j s (set y j x) ≡ set y j (sub binary64 x (mul binary64 (get_or l s nan) (get_or y (get_or rows s 0) nan)))
unfolding less_column less
less_column_entry rows l j s y x inside lt =
    let own : get_or (set y j x) j nan ≡ x = get_or-set_same y j x nan inside in
    let other : get_or (set y j x) (get_or rows s 0) nan ≡ get_or y (get_or rows s 0) nan = get_or-set_other y j (get_or rows s 0) x nan (λ e. omega (arith, e, lt)) in
    rw (own, other) (set-set y j x _)

-- ---- what is factored to the end

-- the checks of factoring look at lengths only
same_checks : (c : Contents) (f g : Filling) → SameLengths f g → first_fault (factor_checks c g) ≡ first_fault (factor_checks c f)
unfolding factor_checks bad_filling
same_checks c f g h = rw (h.0, h.1)

finished-passed : (c : Contents) (f : Filling) → (factoring c f).answer.refusal ≡ 0 → first_fault (factor_checks c f) ≡ 0
unfolding factoring factor_out
finished-passed c f h = go (first_fault (factor_checks c f)) h
  where
    go : (k : ℕ) → (factor_out k c f).answer.refusal ≡ 0 → k ≡ 0
    go zero e = refl
    go (suc k) e = absurd (omega (arith, e))

-- "After E8 comes the solution": no vector of the length needed is refused
pub factored-solves : FactoredSolves
unfolding solve_checks bad_vector bad_pivot factor_checks supplied_checks contents_checks
factored-solves c f y done long =
    let g : Filling = (factoring c f).filling in
    let lengths : SameLengths f g = factoring-lengths c f in
    let before : first_fault (factor_checks c f) ≡ 0 = finished-passed c f done in
    let passed : first_fault (factor_checks c g) ≡ 0 = same_checks c f g lengths ∙ before in
    let many : length g.diagonal ≡ c.nodes = lengths.0 ∙ (factor_passed c f before).diagonal in
    let right : bad_vector c.nodes y ≡ false = rw (long, eqb_same c.nodes) in
    let positives = (reports_extremes c f done).pivots in
    let none : bad_pivot g.diagonal ≡ false =
    none_at (λ d. not (positive d)) g.diagonal nan (λ i lt. ap not (positives i (omega (arith, lt, many)))) in
    first-none (factor_checks c g) _ refl passed ∙ fault_later 30 (bad_vector c.nodes y) _ right ∙ fault_later 31 (bad_pivot g.diagonal) [] none ∙ first_nil
