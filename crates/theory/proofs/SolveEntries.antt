-- E9: the entries of the vector after a pass. A column's rows are behind it, so that forward its own entry stays once the column is reached, and backward
-- its rows' entries are those of the solution.
use mathlib.Core.Path.{◌≡◌, refl, sym, ap, ◌∙◌}
use mathlib.Core.Logic.{◌≢◌, inl, inr}
use mathlib.Core.List.{List, [], ◌∷◌}
use Prim.Native.Nat.{ℕ, zero, suc, ◌+◌, ◌-◌, ◌≤◌, ◌<◌}
use native.Mathlib.Omega.{arith}
use lib.ListN.{length, get_or, set}
use lib.Seq.{get_or-set_same, get_or-set_other, set-get_or}
use lib.Ieee.{Float, nan, sub, mul, binary64}
use borrow.Author.Tests.{eqb-true, not-false}
use Rattle.plan.specs.Lists.{in_turn, up_from, down_from}
use Rattle.plan.specs.Refusals.{Checks, first_fault}
use Rattle.plan.specs.Planning.{Contents}
use Rattle.plan.specs.File.{contents_checks}
use Rattle.plan.specs.Writing.{used, supplied_checks}
use Rattle.plan.specs.Filling.{Filling, slots_of}
use Rattle.plan.specs.Factoring.{less, factor_checks}
use Rattle.plan.specs.Solving.{less_row, forward_column, forward, scaled, less_column, backward_column, backward, solved, bad_vector, bad_pivot, solve_checks, solve_out, solving}
use Rattle.plan.specs.SolveStatements.{ForwardEntriesStand, EntriesOfSolution}
use Rattle.theory.specs.Covering.{Covering}
use Rattle.theory.proofs.Bools.{eq_or_ne}
use Rattle.theory.proofs.Lists.{turn_append}
use Rattle.theory.proofs.Ranges.{up_from_add}
use Rattle.theory.proofs.Refusals.{no_fault, no_fault_first, first-none}
use Rattle.theory.proofs.FactorPlaces.{slot_after}
use Rattle.theory.proofs.Factoring.{supplied_covering, factor_passed}
use Rattle.theory.proofs.Solving.{forward-length, scaled-length, backward_column_keeps, less_column_entry}

-- ---- what the checks say where none of them finds a fault

pub record SolvePassed (c : Contents) (y : List Float) : Type 0 where
  pub plan : Covering c.nodes (used c).column_starts (used c).rows
  pub vector : length y ≡ c.nodes

pub solve_passed : (c : Contents) (f : Filling) (y : List Float) → first_fault (solve_checks c f y) ≡ 0 → SolvePassed c y
unfolding solve_checks bad_vector factor_checks supplied_checks contents_checks
solve_passed c f y h =
    let later : Checks = (30, bad_vector c.nodes y) ∷ (31, bad_pivot f.diagonal) ∷ [] in
    let passed : first_fault (factor_checks c f) ≡ 0 = no_fault_first (factor_checks c f) later h in
    let c30 = no_fault 30 (bad_vector c.nodes y) _ (omega arith) (sym (first-none (factor_checks c f) later refl passed) ∙ h) in
    record {
      plan = supplied_covering c (factor_passed c f passed).supplied;
      vector = eqb-true _ _ (not-false _ c30.0);
    }

-- ---- in turn

-- an entry that each of a range leaves as it is stays
turn_stays : (rule : ℕ → List Float → List Float) (i k a : ℕ) → ((s : ℕ) (y : List Float) → a ≤ s → s < a + k → get_or (rule s y) i nan ≡ get_or y i nan)
    → (y : List Float) → get_or (in_turn rule (up_from a k) y) i nan ≡ get_or y i nan
turn_stays rule i zero a h y = refl
turn_stays rule i (suc k) a h y =
    turn_stays rule i k (suc a) (λ s z low high. h s z (omega arith) (omega arith)) (rule a y)
    ∙ h a y (omega arith) (omega arith)

-- two rules that agree on a range do the same
turn_same : (r q : ℕ → Float → Float) (k a : ℕ) → ((s : ℕ) (e : Float) → a ≤ s → s < a + k → r s e ≡ q s e)
    → (e : Float) → in_turn r (up_from a k) e ≡ in_turn q (up_from a k) e
turn_same r q zero a h e = refl
turn_same r q (suc k) a h e =
    ap (in_turn r (up_from (suc a) k)) (h a e (omega arith) (omega arith))
    ∙ turn_same r q k (suc a) (λ s z low high. h s z (omega arith) (omega arith)) (q a e)

-- the slots of column j: from here on, so many
abbrev start : List ℕ → ℕ → ℕ
start starts j = get_or starts j 0

abbrev many : List ℕ → ℕ → ℕ
many starts j = get_or starts (j + 1) 0 - get_or starts j 0

-- backward, slot s: what is left of a column's entry e, with the rows' entries of x
abbrev entry_less : List ℕ → List Float → List Float → ℕ → Float → Float
entry_less rows l x s e = sub binary64 e (mul binary64 (get_or l s nan) (get_or x (get_or rows s 0) nan))

-- a column changes its own entry only
column-others : (starts rows : List ℕ) (l : List Float) (j i : ℕ) (y : List Float) → i ≢ j → get_or (backward_column starts rows l j y) i nan ≡ get_or y i nan
unfolding backward_column slots_of less_column less
column-others starts rows l j i y other =
    turn_stays (less_column rows l j) i (many starts j) (start starts j) (λ s z low high. get_or-set_other z j i _ nan other) y

-- so the columns before m leave the entries from m on
backward_leaves : (starts rows : List ℕ) (l : List Float) (m i : ℕ) (y : List Float) → m ≤ i → get_or (in_turn (backward_column starts rows l) (down_from m) y) i nan ≡ get_or y i nan
backward_leaves starts rows l zero i y le = refl
backward_leaves starts rows l (suc m) i y le =
    backward_leaves starts rows l m i (backward_column starts rows l m y) (omega arith)
    ∙ column-others starts rows l m i y (λ e. omega (arith, e))

module _ (n : ℕ) (starts rows : List ℕ) (plan : Covering n starts rows) (l : List Float) where
  -- a column's slots hold rows behind it
  behind : (j s : ℕ) → j < n → start starts j ≤ s → s < start starts j + many starts j → j < get_or rows s 0
  behind j s lt low high = (slot_after n starts rows plan j lt s low (omega arith)).0

  -- ---- forward

  -- column j leaves the entries up to its own
  column_leaves : (j i : ℕ) (y : List Float) → j < n → i ≤ j → get_or (forward_column starts rows l j y) i nan ≡ get_or y i nan
  unfolding forward_column slots_of less_row less
  column_leaves j i y lt le =
      turn_stays (less_row rows l j) i (many starts j) (start starts j)
      (λ s z low high. get_or-set_other z (get_or rows s 0) i _ nan (λ e. omega (arith, e, behind j s lt low high)))
      y

  -- so do those from column j on
  forward-stands : (j m : ℕ) (y : List Float) → j ≤ m → m ≤ n → get_or (forward m starts rows l y) j nan ≡ get_or (forward j starts rows l y) j nan
  unfolding forward
  forward-stands j m y le few =
      let all : m ≡ j + (m - j) = omega arith in
      let rule : ℕ → List Float → List Float = forward_column starts rows l in
      ap (λ (ks : List ℕ). get_or (in_turn rule ks y) j nan) (ap (up_from 0) all ∙ up_from_add 0 j (m - j))
      ∙ ap (λ (z : List Float). get_or z j nan) (turn_append rule (up_from 0 j) (up_from (0 + j) (m - j)) y)
      ∙ turn_stays rule j (m - j) (0 + j) (λ s z low high. column_leaves s j z (omega arith) (omega arith)) (in_turn rule (up_from 0 j) y)

  -- ---- backward

  -- what column j writes
  column_entry : (j : ℕ) (y : List Float) → j < n → j < length y → get_or (backward_column starts rows l j y) j nan ≡ in_turn (entry_less rows l y) (slots_of starts j) (get_or y j nan)
  unfolding backward_column slots_of
  column_entry j y lt inside =
      ap (λ (z : List Float). get_or (in_turn (less_column rows l j) (slots_of starts j) z) j nan) (sym (set-get_or y j nan))
      ∙ go (many starts j) (start starts j) (λ s low high. behind j s lt low high) (get_or y j nan)
    where
      go : (k a : ℕ) → ((s : ℕ) → a ≤ s → s < a + k → j < get_or rows s 0) → (e : Float)
          → get_or (in_turn (less_column rows l j) (up_from a k) (set y j e)) j nan ≡ in_turn (entry_less rows l y) (up_from a k) e
      go zero a h e = get_or-set_same y j e nan inside
      go (suc k) a h e =
          ap (λ (z : List Float). get_or (in_turn (less_column rows l j) (up_from (suc a) k) z) j nan) (less_column_entry rows l j a y e inside (h a (omega arith) (omega arith)))
          ∙ go k (suc a) (λ s low high. h s (omega arith) (omega arith)) (entry_less rows l y a e)

  -- The rows' entries are those that all columns leave, since no earlier column changes them: so it is with the column that comes first,
  first_entry : (m : ℕ) (y : List Float) → m < n → m < length y →
      let x : List Float = in_turn (backward_column starts rows l) (down_from (suc m)) y in
      get_or x m nan ≡ in_turn (entry_less rows l x) (slots_of starts m) (get_or y m nan)
  unfolding slots_of
  first_entry m y lt inside =
      backward_leaves starts rows l m m z (omega arith)
      ∙ column_entry m y lt inside
      ∙ turn_same (entry_less rows l y) (entry_less rows l x) (many starts m) (start starts m)
      (λ s e low high. ap (λ (v : Float). sub binary64 e (mul binary64 (get_or l s nan) v)) (final (get_or rows s 0) (behind m s lt low high)))
      (get_or y m nan)
    where
      z : List Float
      z = backward_column starts rows l m y

      x : List Float
      x = in_turn (backward_column starts rows l) (down_from m) z

      final : (i : ℕ) → m < i → get_or y i nan ≡ get_or x i nan
      final i later = sym (backward_leaves starts rows l m i z (omega arith) ∙ column-others starts rows l m i y (λ e. omega (arith, e)))

  -- and with every one.
  backward_entry : (m j : ℕ) (y : List Float) → j < m → m ≤ n → n ≤ length y →
      let x : List Float = in_turn (backward_column starts rows l) (down_from m) y in
      get_or x j nan ≡ in_turn (entry_less rows l x) (slots_of starts j) (get_or y j nan)
  backward_entry zero j y lt few long = absurd (omega arith)
  backward_entry (suc m) j y lt few long =
      let z : List Float = backward_column starts rows l m y in
      let x : List Float = in_turn (backward_column starts rows l) (down_from m) z in
      elim (eq_or_ne j m) [
        | inl same ↦ rw same (first_entry m y (omega arith) (omega arith))
        | inr other ↦
            backward_entry m j z (omega (arith, other)) (omega arith) (omega (arith, backward_column_keeps starts rows l m y))
            ∙ ap (in_turn (entry_less rows l x) (slots_of starts j)) (column-others starts rows l m j y other)
      ]

-- once reached a column's entry does not change any more
pub forward-entries_stand : ForwardEntriesStand
forward-entries_stand c f y j m h le few =
    forward-stands c.nodes (used c).column_starts (used c).rows (solve_passed c f y h).plan f.values j m y le few

-- every entry of the solution comes of the solution's own later entries
pub entries_of_solution : EntriesOfSolution
unfolding solving solve_out solved backward
entries_of_solution c f y j h lt =
    let starts : List ℕ = (used c).column_starts in
    let rows : List ℕ = (used c).rows in
    let w : List Float = forward c.nodes starts rows f.values y in
    let z : List Float = scaled c.nodes f.diagonal w in
    let passed : SolvePassed c y = solve_passed c f y h in
    let long : length z ≡ length y = scaled-length c.nodes f.diagonal w ∙ forward-length c.nodes starts rows f.values y in
    rw h (backward_entry c.nodes starts rows passed.plan f.values c.nodes j z lt (omega arith) (omega (arith, long, passed.vector)))
