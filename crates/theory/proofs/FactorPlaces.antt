-- E8: in a plan that passes checks 17 and 19 no subtraction aims at a pair of two different positions without a slot.
use mathlib.Core.Path.{◌≡◌, refl, sym, ap, ◌∙◌}
use mathlib.Core.Logic.{◌⊎◌, inl, inr}
use mathlib.Core.Bool.{Bool, true, false, not, ◌||◌, false≢true}
use mathlib.Core.List.{List, [], ◌∷◌, ◌++◌, map}
use Prim.Native.Nat.{ℕ, zero, suc, ◌+◌, ◌-◌, ◌≤◌, ◌<◌, min, max}
use native.Mathlib.Omega.{arith}
use lib.Dec.{eqb}
use lib.ListN.{length, get_or, drop}
use lib.Seq.{get_or-take, get_or-drop}
use borrow.Author.Tests.{eqb-true, ne_eqb, not-false}
use Rattle.plan.specs.Lists.{every, up_from, below, is_in, index_of, list_at}
use Rattle.plan.specs.Mesh.{bad_starts}
use Rattle.plan.specs.Planning.{Contents}
use Rattle.plan.specs.File.{bad_rows, covered, not_covered}
use Rattle.plan.specs.Filling.{on_diagonal, in_slot, is_place, place_below, place_of, slots_of}
use Rattle.plan.specs.Factoring.{pairs, pair_place}
use Rattle.plan.specs.FactorStatements.{aims_at_places}
use Rattle.theory.specs.Covering.{Covering}
use Rattle.theory.proofs.Bools.{or_false_left, or_false_right, and_left, and_right, and_both, cond_true, eqb_same, eq_or_ne}
use Rattle.theory.proofs.Lists.{is_in-head, is_in_cons, every-is_in, is_in-every, exists-none, is_in-get_or}
use Rattle.theory.proofs.Ranges.{is_in-below, below-is_in}
use Rattle.theory.proofs.Ascending.{ascending_lt, ascending-get_or, falls-get_or}
use Rattle.theory.proofs.ColumnRule.{RuleKept, good-column, good-columns}
use Rattle.theory.proofs.Checked.{good-starts}
use Rattle.theory.proofs.Compressed.{start-next, list_length}

-- a plan that passes checks 17 and 19, with as many rows as slots
pub covering : (c : Contents) → bad_rows c ≡ false → not_covered c ≡ false → c.slots ≤ length c.rows → Covering c.nodes c.column_starts c.rows
unfolding bad_rows not_covered
covering c h17 h19 fits =
    let bad : Bool = bad_starts c.nodes c.column_starts in
    let ends : Bool = eqb (get_or c.column_starts c.nodes 0) c.slots in
    let both : (bad || not ends) ≡ false = or_false_left (bad || not ends) _ h17 in
    let last : get_or c.column_starts c.nodes 0 ≡ c.slots = eqb-true _ _ (not-false ends (or_false_right bad (not ends) both)) in
    record {
      starts = good-starts c.nodes c.column_starts (or_false_left bad (not ends) both);
      fits = omega (arith, last);
      rule = good-columns c.nodes c.column_starts c.rows (or_false_right (bad || not ends) _ h17);
      covers = λ j l. not-false _
          (exists-none (λ j. not (covered c.column_starts c.rows (list_at c.column_starts c.rows j))) (below c.nodes) h19 j (below-is_in c.nodes j l));
    }

module _ (n : ℕ) (starts rows : List ℕ) (h : Covering n starts rows) where
  -- the rows of column j
  abbrev rows_at : ℕ → List ℕ
  rows_at j = list_at starts rows j

  pub kept : (j : ℕ) → j < n → RuleKept n j (rows_at j)
  kept j l = good-column n j (rows_at j) (h.rule j l)

  -- two rows of a column: the lesser is the first row, whose column holds the other, or the first row's column holds both
  step-up : (j k i : ℕ) → j < n → is_in k (rows_at j) ≡ true → is_in i (rows_at j) ≡ true → k < i
      → (is_in i (rows_at k) ≡ true) ⊎ ((p : ℕ) × (j < p) × (p < n) × (is_in k (rows_at p) ≡ true) × (is_in i (rows_at p) ≡ true))
  unfolding covered
  step-up j k i l inK inI lt = go (rows_at j) (kept j l) (h.covers j l) inK inI
    where
      go : (r : List ℕ) → RuleKept n j r → covered starts rows r ≡ true → is_in k r ≡ true → is_in i r ≡ true
          → (is_in i (rows_at k) ≡ true) ⊎ ((p : ℕ) × (j < p) × (p < n) × (is_in k (rows_at p) ≡ true) × (is_in i (rows_at p) ≡ true))
      go [] rule held inK inI = absurd (false≢true inK)
      go (p ∷ others) rule held inK inI =
          let held_in : (x : ℕ) → is_in x others ≡ true → is_in x (rows_at p) ≡ true = every-is_in (λ x. is_in x (rows_at p)) others held in
          let first : (j < p) × (p < n) = rule.1 p (is_in-head p others) in
          elim (is_in_cons k p others inK) [
            | inl e ↦ elim (is_in_cons i p others inI) [
              | inl f ↦ absurd (omega (arith, e, f))
              | inr m ↦ inl (ap (λ (x : ℕ). is_in i (rows_at x)) e ∙ held_in i m)
            ]
            | inr m ↦ elim (is_in_cons i p others inI) [
              | inl f ↦ absurd (omega (arith, f, ascending_lt p others rule.0 k m))
              | inr o ↦ inr (p, first.0, first.1, held_in k m, held_in i o)
            ]
          ]

  -- Of two rows of a column the greater is a row of the lesser's column. By check 19 again and again: the first row's column holds the others, and so
  -- on up.
  pub rows_of_row : (j k i : ℕ) → j < n → is_in k (rows_at j) ≡ true → is_in i (rows_at j) ≡ true → k < i → is_in i (rows_at k) ≡ true
  rows_of_row j k i l inK inI lt = up n j l (omega arith) inK inI
    where
      up : (left j : ℕ) → j < n → n ≤ j + left → is_in k (rows_at j) ≡ true → is_in i (rows_at j) ≡ true → is_in i (rows_at k) ≡ true
      up zero j l enough inK inI = absurd (omega arith)
      up (suc left) j l enough inK inI = elim (step-up j k i l inK inI lt) [
        | inl t ↦ t
        | inr r ↦ up left r.0 r.2 (omega (arith, r.1)) r.3 r.4
      ]

module _ {A : Type 0} where
  every_append : (p : A → Bool) (xs ys : List A) → every p xs ≡ true → every p ys ≡ true → every p (xs ++ ys) ≡ true
  every_append p [] ys h k = k
  every_append p (x ∷ xs) ys h k = and_both (p x) _ (and_left (p x) _ h) (every_append p xs ys (and_right (p x) _ h) k)

-- what holds of every two numbers s ≤ t of a range holds of its pairs
pub every-pairs : (p : ℕ × ℕ → Bool) (k a : ℕ) → ((s t : ℕ) → a ≤ s → s ≤ t → t < a + k → p (s, t) ≡ true) → every p (pairs (up_from a k)) ≡ true
unfolding pairs
every-pairs p zero a h = refl
every-pairs p (suc k) a h =
    and_both (p (a, a)) _ (h a a (omega arith) (omega arith) (omega arith))
    (every_append p (map (λ i. (a, i)) (up_from (suc a) k)) (pairs (up_from (suc a) k)) (run k (suc a) (omega arith) (omega arith))
    (every-pairs p k (suc a) (λ s t l m o. h s t (omega arith) m (omega arith))))
  where
    run : (m b : ℕ) → a ≤ b → b + m ≤ a + suc k → every p (map (λ i. (a, i)) (up_from b m)) ≡ true
    run zero b l o = refl
    run (suc m) b l o = and_both (p (a, b)) _ (h a b (omega arith) l (omega arith)) (run m (suc b) (omega arith) (omega arith))

-- the row in a slot of column j
module _ (n : ℕ) (starts rows : List ℕ) (h : Covering n starts rows) (j : ℕ) (l : j < n) where
  abbrev start : ℕ
  start = get_or starts j 0

  abbrev behind : ℕ
  behind = get_or starts (j + 1) 0

  -- a column's slots are slots of the plan
  pub slot_inside : (start ≤ behind) × (behind ≤ get_or starts n 0) × (behind ≤ length rows)
  slot_inside =
      let high : behind ≤ get_or starts n 0 = falls-get_or starts h.starts.rising (j + 1) n (omega arith) (omega (arith, h.starts.many)) in
      (start-next n starts h.starts j l, high, omega (arith, high, h.fits))

  pub column-long : length (list_at starts rows j) ≡ behind - start
  column-long = list_length n starts rows h.starts h.fits j l

  -- slot s holds row s − start of the column
  pub slot_row : (s : ℕ) → start ≤ s → s < behind → get_or rows s 0 ≡ get_or (list_at starts rows j) (s - start) 0
  unfolding list_at
  slot_row s le lt =
      let at : start + (s - start) ≡ s = omega arith in
      sym (get_or-take (behind - start) (drop start rows) (s - start) 0 (omega arith) ∙ get_or-drop start rows (s - start) 0 ∙ ap (λ (x : ℕ). get_or rows x 0) at)

  -- it is one of the column's rows
  pub slot_is_in : (s : ℕ) → start ≤ s → s < behind → is_in (get_or rows s 0) (list_at starts rows j) ≡ true
  slot_is_in s le lt =
      ap (λ (x : ℕ). is_in x (list_at starts rows j)) (slot_row s le lt)
      ∙ is_in-get_or (list_at starts rows j) (s - start) 0 (omega (arith, column-long))

  -- behind the column and below n
  pub slot_after : (s : ℕ) → start ≤ s → s < behind → (j < get_or rows s 0) × (get_or rows s 0 < n)
  slot_after s le lt = (kept n starts rows h j l).1 (get_or rows s 0) (slot_is_in s le lt)

  -- and later slots hold later rows
  pub slot_later : (s t : ℕ) → start ≤ s → s < t → t < behind → get_or rows s 0 < get_or rows t 0
  slot_later s t le lt lb =
      omega (
        arith,
        slot_row s le (omega arith),
        slot_row t (omega arith) lb,
        column-long,
        ascending-get_or (list_at starts rows j) (kept n starts rows h j l).0 (s - start) (t - start) (omega arith) (omega (arith, column-long)),
      )

-- the place of a later position with an earlier one
pub place-below : (starts rows : List ℕ) (k i : ℕ) → k < i → place_of starts rows k i ≡ place_below starts rows i k
unfolding place_of
place-below starts rows k i lt =
    let no : eqb k i ≡ false = ne_eqb k i (λ e. omega arith) in
    let hi : max k i ≡ i = omega arith in
    let lo : min k i ≡ k = omega arith in
    rw (no, hi, lo)

-- and where that has a slot it is a place
pub slot_place : (starts rows : List ℕ) (k i : ℕ) → k < i → is_in i (list_at starts rows k) ≡ true
    → place_of starts rows k i ≡ in_slot (get_or starts k 0 + index_of i (list_at starts rows k))
unfolding place_below
slot_place starts rows k i lt h = place-below starts rows k i lt ∙ cond_true (is_in i (list_at starts rows k)) _ _ h

-- and a position with itself
pub diagonal-place : (starts rows : List ℕ) (i : ℕ) → place_of starts rows i i ≡ on_diagonal i
unfolding place_of
diagonal-place starts rows i = rw (eqb_same i)

-- the pair of two rows of column j: on the diagonal, or in the slot of the later row in the earlier one's column
module _ (n : ℕ) (starts rows : List ℕ) (h : Covering n starts rows) (j : ℕ) (l : j < n) where
  pub pair_same : (s : ℕ) → pair_place starts rows (s, s) ≡ on_diagonal (get_or rows s 0)
  unfolding pair_place
  pair_same s = diagonal-place starts rows (get_or rows s 0)

  -- where t is behind s, t's row has a slot in the column of s's row
  pub pair_held : (s t : ℕ) → get_or starts j 0 ≤ s → s < t → t < get_or starts (j + 1) 0 → is_in (get_or rows t 0) (list_at starts rows (get_or rows s 0)) ≡ true
  pair_held s t le lt tb =
      rows_of_row n starts rows h j (get_or rows s 0) (get_or rows t 0) l (slot_is_in n starts rows h j l s le (omega arith)) (slot_is_in n starts rows h j l t (omega arith) tb)
      (slot_later n starts rows h j l s t le lt tb)

  pub pair_slot : (s t : ℕ) → get_or starts j 0 ≤ s → s < t → t < get_or starts (j + 1) 0
      → pair_place starts rows (s, t) ≡ in_slot (get_or starts (get_or rows s 0) 0 + index_of (get_or rows t 0) (list_at starts rows (get_or rows s 0)))
  unfolding pair_place
  pair_slot s t le lt tb =
      slot_place starts rows (get_or rows s 0) (get_or rows t 0) (slot_later n starts rows h j l s t le lt tb) (pair_held s t le lt tb)

-- E8: "No subtraction may aim at a pair of two different positions without a slot."
pub aims : (n : ℕ) (starts rows : List ℕ) → Covering n starts rows → aims_at_places n starts rows ≡ true
unfolding aims_at_places slots_of
aims n starts rows h =
    is_in-every (λ j. every (λ p. is_place (pair_place starts rows p)) (pairs (slots_of starts j))) (below n) (λ j m. column j (is_in-below n j m))
  where
    column : (j : ℕ) → j < n → every (λ p. is_place (pair_place starts rows p)) (pairs (slots_of starts j)) ≡ true
    column j l =
        every-pairs (λ p. is_place (pair_place starts rows p)) (get_or starts (j + 1) 0 - get_or starts j 0) (get_or starts j 0)
        (λ s t le st tb. elim (eq_or_ne s t) [
          | inl e ↦ rw e (ap is_place (pair_same n starts rows h j l t))
          | inr ne ↦ ap is_place (pair_slot n starts rows h j l s t le (omega arith) (omega arith))
        ])
