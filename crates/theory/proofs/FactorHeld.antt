-- E8: the number held at a pair's place, which is where document 01's question finds the pair's slot; and what no operation touches stays.
use mathlib.Core.Path.{◌≡◌, refl, ap, ◌∙◌}
use mathlib.Core.Logic.{◌⊎◌, inl, inr}
use mathlib.Core.Bool.{Bool, true, false, not, cond}
use mathlib.Core.List.{List, [], ◌∷◌}
use Prim.Native.Nat.{ℕ, zero, suc, ◌+◌, ◌-◌, ◌≤◌, ◌<◌, min, max}
use native.Mathlib.Omega.{arith}
use lib.Dec.{eqb}
use lib.ListN.{get_or, set}
use lib.Seq.{get_or-set_other}
use lib.Ieee.{Float, nan, mul, binary64}
use lib.Ieee.Positive.{positive}
use borrow.Author.Tests.{eqb-false, ne_eqb, not-true}
use Rattle.plan.specs.Lists.{exists, every, up_from, is_in, index_of, list_at}
use Rattle.plan.specs.Refusals.{first_fault}
use Rattle.plan.specs.Writing.{used}
use Rattle.plan.specs.Answers.{accepted, slot_case, diagonal_case, no_slot_case}
use Rattle.plan.specs.Questions.{slot_of, pair_found}
use Rattle.plan.specs.Filling.{Filling, Place, on_diagonal, in_slot, no_place, same_place, place_below, place_of, slots_of, held_at}
use Rattle.plan.specs.Factoring.{less, subtract_at, divided, pairs, pair_place, subtracted, factor_column, column_operations, open_report, after_column, FactorOutcome, not_factored, factor_from, factor_checks, factor_out, factoring}
use Rattle.plan.specs.FactorStatements.{place_values, QuestionFindsPlace, columns_done, touches, UntouchedStays}
use Rattle.plan.specs.declared.Report.{Report}
use Rattle.theory.specs.Covering.{Covering}
use Rattle.theory.proofs.Bools.{and_left, and_right, or_false_left, or_false_right, or_neither, eq_or_ne}
use Rattle.theory.proofs.Ascending.{falls-get_or}
use Rattle.theory.proofs.FactorPlaces.{every-pairs, slot_after, pair_same, pair_slot}

-- ---- the question of document 01

-- it finds the pair where its number stands
pub question_finds_place : QuestionFindsPlace
unfolding pair_found place_of place_below slot_of
question_finds_place starts rows a b = ap accepted (go (eqb a b) (is_in (max a b) (list_at starts rows (min a b))))
  where
    slot : ℕ
    slot = get_or starts (min a b) 0 + index_of (max a b) (list_at starts rows (min a b))

    go : (same has : Bool)
        → cond same (diagonal_case ∷ []) (cond has (slot_case ∷ slot ∷ []) (no_slot_case ∷ []))
        ≡ place_values (cond same (on_diagonal a) (cond has (in_slot slot) no_place))
    go true has = refl
    go false true = refl
    go false false = refl

-- ---- a subtraction and what is held

-- at another place than it aims at the number stays
pub held_other : (at aim : Place) (x : Float) (f : Filling) → same_place at aim ≡ false → held_at at (subtract_at aim x f) ≡ held_at at f
unfolding held_at subtract_at less
held_other (on_diagonal i) (on_diagonal k) x f h = ap (λ (y : Float). y ∷ []) (get_or-set_other f.diagonal k i _ nan (eqb-false i k h))
held_other (on_diagonal i) (in_slot t) x f h = refl
held_other (on_diagonal i) no_place x f h = refl
held_other (in_slot s) (on_diagonal k) x f h = refl
held_other (in_slot s) (in_slot t) x f h = ap (λ (y : Float). y ∷ []) (get_or-set_other f.values t s _ nan (eqb-false s t h))
held_other (in_slot s) no_place x f h = refl
held_other no_place (on_diagonal k) x f h = refl
held_other no_place (in_slot t) x f h = refl
held_other no_place no_place x f h = refl

-- a place that no pair of a column has stays through its subtractions
pub held_stays : (starts rows : List ℕ) (v l : List Float) (at : Place) (ps : List (ℕ × ℕ)) (f : Filling)
    → exists (λ p. same_place at (pair_place starts rows p)) ps ≡ false → held_at at (subtracted starts rows v l ps f) ≡ held_at at f
unfolding subtracted
held_stays starts rows v l at [] f h = refl
held_stays starts rows v l at (p ∷ ps) f h =
    let x : Float = mul binary64 (get_or l p.1 nan) (get_or v p.0 nan) in
    held_stays starts rows v l at ps (subtract_at (pair_place starts rows p) x f) (or_false_right (same_place at (pair_place starts rows p)) _ h)
    ∙ held_other at (pair_place starts rows p) x f (or_false_left (same_place at (pair_place starts rows p)) _ h)

-- ---- where a column aims: behind it

none_passes : (p : ℕ × ℕ → Bool) (l : List (ℕ × ℕ)) → every (λ x. not (p x)) l ≡ true → exists p l ≡ false
none_passes p [] h = refl
none_passes p (x ∷ l) h = or_neither (p x) _ (not-true (p x) (and_left (not (p x)) _ h)) (none_passes p l (and_right (not (p x)) _ h))

module _ (n : ℕ) (starts rows : List ℕ) (h : Covering n starts rows) (j : ℕ) (l : j < n) where
  abbrev start : ℕ
  start = get_or starts j 0

  abbrev behind : ℕ
  behind = get_or starts (j + 1) 0

  -- the columns of column j's rows lie behind it
  pub later-behind : (s : ℕ) → start ≤ s → s < behind → behind ≤ get_or starts (get_or rows s 0) 0
  later-behind s le lt =
      let r = slot_after n starts rows h j l s le lt in
      falls-get_or starts h.starts.rising (j + 1) (get_or rows s 0) (omega (arith, r.0)) (omega (arith, h.starts.many, r.1))

  -- the place of a pair of rows of column j: on the diagonal behind j, or in a slot behind the column
  pub pair_aim : (s t : ℕ) → start ≤ s → s ≤ t → t < behind
      → ((k : ℕ) × (j < k) × (pair_place starts rows (s, t) ≡ on_diagonal k)) ⊎ ((x : ℕ) × (behind ≤ x) × (pair_place starts rows (s, t) ≡ in_slot x))
  pair_aim s t le st tb = elim (eq_or_ne s t) [
    | inl e ↦ inl (get_or rows s 0, (slot_after n starts rows h j l s le (omega arith)).0, rw (← e) (pair_same n starts rows h j l s))
    | inr ne ↦ inr (
      get_or starts (get_or rows s 0) 0 + index_of (get_or rows t 0) (list_at starts rows (get_or rows s 0)),
      omega (arith, later-behind s le (omega arith)),
      pair_slot n starts rows h j l s t le (omega arith) tb,
    )
  ]

  -- so the diagonal up to j, and the slots up to the column's last, are not aimed at
  abbrev pub Before : Place → Type 0
  Before (on_diagonal i) = i ≤ j
  Before (in_slot s) = s < behind
  Before no_place = Unit {0}

  not_aimed : (at : Place) → Before at → exists (λ p. same_place at (pair_place starts rows p)) (pairs (slots_of starts j)) ≡ false
  unfolding slots_of
  not_aimed at b =
      none_passes (λ p. same_place at (pair_place starts rows p)) (pairs (slots_of starts j))
      (every-pairs (λ p. not (same_place at (pair_place starts rows p))) (behind - start) start
      (λ s t le st tb. elim (pair_aim s t le st (omega arith)) [
        | inl r ↦ rw r.2 (ap not (on_diagonal_lem at b r.0 r.1))
        | inr r ↦ rw r.2 (ap not (in_slot_lem at b r.0 r.1))
      ]))
    where
      on_diagonal_lem : (at : Place) → Before at → (k : ℕ) → j < k → same_place at (on_diagonal k) ≡ false
      on_diagonal_lem (on_diagonal i) b k lt = ne_eqb i k (λ e. omega arith)
      on_diagonal_lem (in_slot s) b k lt = refl
      on_diagonal_lem no_place b k lt = refl

      in_slot_lem : (at : Place) → Before at → (x : ℕ) → behind ≤ x → same_place at (in_slot x) ≡ false
      in_slot_lem (on_diagonal i) b x le = refl
      in_slot_lem (in_slot s) b x le = ne_eqb s x (λ e. omega arith)
      in_slot_lem no_place b x le = refl

  -- what stands there before the column's subtractions stands there after them
  pub before_stays : (v lower : List Float) (at : Place) (f : Filling) → Before at → held_at at (subtracted starts rows v lower (pairs (slots_of starts j)) f) ≡ held_at at f
  before_stays v lower at f b = held_stays starts rows v lower at (pairs (slots_of starts j)) f (not_aimed at b)

-- ---- what a column leaves

module _ (n : ℕ) (starts rows : List ℕ) (h : Covering n starts rows) where
  -- a column leaves the diagonal up to its own position
  pub column-diagonal : (j : ℕ) → j < n → (d : Float) (f : Filling) (i : ℕ) → i ≤ j
      → get_or (factor_column starts rows j d f).diagonal i nan ≡ get_or f.diagonal i nan
  unfolding factor_column held_at
  column-diagonal j l d f i le =
      let lower : List Float = divided (slots_of starts j) d f.values in
      ap (λ (y : List Float). get_or y 0 nan)
      (before_stays n starts rows h j l f.values lower (on_diagonal i) (record { diagonal = f.diagonal; values = lower }) le)

-- ---- what no operation touches

-- a place that is none of the slots stays through their divisions
divided_stays : (slots : List ℕ) (d : Float) (at : Place) (f : Filling)
    → exists (λ s. same_place at (in_slot s)) slots ≡ false → held_at at (record { diagonal = f.diagonal; values = divided slots d f.values }) ≡ held_at at f
unfolding held_at divided
divided_stays slots d (on_diagonal i) f h = refl
divided_stays slots d (in_slot s) f h = ap (λ (y : Float). y ∷ []) (go slots f.values h)
  where
    go : (slots : List ℕ) (v : List Float) → exists (λ t. eqb s t) slots ≡ false → get_or (divided slots d v) s nan ≡ get_or v s nan
    go [] v h = refl
    go (t ∷ slots) v h = go slots (set v t _) (or_false_right (eqb s t) _ h) ∙ get_or-set_other v t s _ nan (eqb-false s t (or_false_left (eqb s t) _ h))
divided_stays slots d no_place f h = refl

-- a place that a column does not touch stays
pub column_stays : (starts rows : List ℕ) (j : ℕ) (d : Float) (f : Filling) (at : Place) → touches starts rows at j ≡ false
    → held_at at (factor_column starts rows j d f) ≡ held_at at f
unfolding factor_column touches
column_stays starts rows j d f at h =
    let l : List Float = divided (slots_of starts j) d f.values in
    let inSlots : Bool = exists (λ s. same_place at (in_slot s)) (slots_of starts j) in
    held_stays starts rows f.values l at (pairs (slots_of starts j)) (record { diagonal = f.diagonal; values = l }) (or_false_right inSlots _ h)
    ∙ divided_stays (slots_of starts j) d at f (or_false_left inSlots _ h)

-- and one that none of the worked columns touches
pub columns-stay : (starts rows : List ℕ) (at : Place) (left j : ℕ) (r : Report) (f : Filling)
    → exists (touches starts rows at) (up_from j (columns_done starts rows j left f)) ≡ false → held_at at (factor_from starts rows j left r f).filling ≡ held_at at f
unfolding factor_from columns_done
columns-stay starts rows at zero j r f h = refl
columns-stay starts rows at (suc left) j r f h = go (positive d) h (columns-stay starts rows at left (suc j) (after_column r d (column_operations starts j)) g)
  where
    d : Float
    d = get_or f.diagonal j nan

    g : Filling
    g = factor_column starts rows j d f

    next : FactorOutcome
    next = factor_from starts rows (suc j) left (after_column r d (column_operations starts j)) g

    go : (b : Bool) → exists (touches starts rows at) (up_from j (cond b (suc (columns_done starts rows (suc j) left g)) 0)) ≡ false
        → (exists (touches starts rows at) (up_from (suc j) (columns_done starts rows (suc j) left g)) ≡ false → held_at at next.filling ≡ held_at at g)
        → held_at at (cond b next (not_factored 31 f)).filling ≡ held_at at f
    go true e ih = ih (or_false_right (touches starts rows at j) _ e) ∙ column_stays starts rows j d f at (or_false_left (touches starts rows at j) _ e)
    go false e ih = refl

-- What none of the worked columns touches stays, whatever is answered.
pub untouched_stays : UntouchedStays
unfolding factoring factor_out
untouched_stays c f at h = go (first_fault (factor_checks c f))
  where
    go : (k : ℕ) → held_at at (factor_out k c f).filling ≡ held_at at f
    go zero = columns-stay (used c).column_starts (used c).rows at c.nodes 0 open_report f h
    go (suc k) = refl
