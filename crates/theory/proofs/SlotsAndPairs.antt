-- From a pair of positions to its slot and from a slot to its pair: the answers by what the checks find, and that each way leads home.
use mathlib.Core.Path.{◌≡◌, refl, sym, ap, ◌∙◌}
use mathlib.Core.Logic.{inl, inr, ◌≢◌}
use mathlib.Core.Bool.{Bool, true, false}
use mathlib.Core.List.{List, [], ◌∷◌, head_d}
use Prim.Native.Nat.{ℕ, zero, suc, ◌+◌, ◌-◌, ◌≤◌, ◌<◌, min, max}
use native.Mathlib.Omega.{arith}
use lib.Dec.{eqb, leb}
use lib.ListN.{length, get_or, drop}
use lib.Seq.{get_or-take, get_or-drop}
use borrow.Author.Tests.{leb-true, ltb-true, le-leb, lt-ltb, lt-leb, eq-eqb, ne_eqb}
use Rattle.std.specs.Prelude.{Result, Ok, Err}
use Rattle.plan.specs.declared.PairAnswer.{PairAnswer}
use Rattle.plan.specs.declared.PairAnswer.TheVariants as pair
use Rattle.plan.specs.declared.Pair.{Pair}
use Rattle.plan.specs.declared.refusal.Refusal.{Refusal}
use Rattle.plan.specs.Lists.{keep, below, is_in, index_of, list_at}
use Rattle.plan.specs.Refusals.{first_fault}
use Rattle.plan.specs.Answers.{Reply, accepted, refused, slot_case, diagonal_case, no_slot_case, pair_reply, slot_reply}
use Rattle.plan.specs.Questions.{layout_checks, position_outside, question_checks, slot_of, pair_found, pair_question, slot_checks, holds_slot, column_of, slot_found, slot_question}
use Rattle.plan.specs.SlotsAndPairs.{SlotHasPair, SlotLeadsHome, PairLeadsHome, RowIsLater, SlotThenPair, PairThenSlot}
use Rattle.theory.specs.Checked.{Starts}
use Rattle.theory.proofs.Bools.{cond_true, cond_false, and_left, and_right, and_both, tested, eq_or_ne, lt_or_le}
use Rattle.theory.proofs.Lists.{is_in-head, is_in_tail, is_in-get_or, in_keep, of_keep, get_or-index_of, index_of_lt}
use Rattle.theory.proofs.Ranges.{is_in-below, below-is_in}
use Rattle.theory.proofs.Ascending.{ascending-kept, head_or-is_in, head_or_least, ascending-index_of, falls-get_or}
use Rattle.theory.proofs.Checked.{good-starts}
use Rattle.theory.proofs.Compressed.{list_length}
use Rattle.theory.proofs.ColumnRule.{RuleKept, good-column, good-columns}
use Rattle.theory.proofs.Asked.{GoodLayout, good_layout, layout_fault, position_fault, no_question_fault, good_question, layout_fault_slot, slot_fault, no_slot_fault, good_slot}

-- ---- from a pair to its slot

module _ (column_starts rows : List ℕ) (i j : ℕ) where
  -- row i is not in column j, or it is, first at place k
  pub slot_none : is_in i (list_at column_starts rows j) ≡ false → slot_of column_starts rows i j ≡ no_slot_case ∷ []
  unfolding slot_of
  slot_none h = cond_false _ _ _ h

  pub slot_found_lem : (k : ℕ) → is_in i (list_at column_starts rows j) ≡ true → index_of i (list_at column_starts rows j) ≡ k → slot_of column_starts rows i j ≡ slot_case ∷ (get_or column_starts j 0 + k) ∷ []
  unfolding slot_of
  slot_found_lem k h e = cond_true _ _ _ h ∙ ap (λ (x : ℕ). slot_case ∷ (get_or column_starts j 0 + x) ∷ []) e

module _ (n : ℕ) (column_starts rows : List ℕ) (a b : ℕ) where
  by_fault : (k : ℕ) → first_fault (question_checks n column_starts rows (a ∷ b ∷ [])) ≡ k → pair_question n column_starts rows a b ≡ pair_found k column_starts rows a b
  unfolding pair_question
  by_fault k e = ap (λ (k : ℕ). pair_found k column_starts rows a b) e

  -- the layout has a fault
  pub pair_layout : (k : ℕ) → k ≡ first_fault (layout_checks n column_starts rows) → ◌≢◌ {A = ℕ} k 0 → pair_question n column_starts rows a b ≡ refused k
  unfolding pair_found
  pair_layout zero e ne = absurd (ne refl)
  pair_layout (suc k) e ne = by_fault (suc k) (layout_fault n column_starts rows (a ∷ b ∷ []) (λ z. ne (e ∙ z)) ∙ sym e)

  module _ (h : first_fault (layout_checks n column_starts rows) ≡ 0) where
    -- it has none, and a position is outside
    pub pair-outside : position_outside n (a ∷ b ∷ []) ≡ true → pair_question n column_starts rows a b ≡ refused 21
    unfolding pair_found
    pair-outside outside = by_fault 21 (position_fault n column_starts rows (a ∷ b ∷ []) h outside)

    module _ (la : a < n) (lb : b < n) where
      pair_inside : pair_question n column_starts rows a b ≡ pair_found 0 column_starts rows a b
      unfolding position_outside
      pair_inside = by_fault 0 (no_question_fault n column_starts rows (a ∷ b ∷ []) h (simp (lt-leb n a la, lt-leb n b lb)))

      -- there is no fault: the positions are one, or two, i after j
      pub pair_same : a ≡ b → pair_question n column_starts rows a b ≡ accepted (diagonal_case ∷ [])
      unfolding pair_found
      pair_same e = pair_inside ∙ ap accepted (cond_true (eqb a b) _ _ (eq-eqb a b e))

      pub pair_slot : (i j : ℕ) → a ≢ b → max a b ≡ i → min a b ≡ j → pair_question n column_starts rows a b ≡ accepted (slot_of column_starts rows i j)
      unfolding pair_found
      pair_slot i j ne later earlier = pair_inside ∙ ap accepted (cond_false (eqb a b) _ _ (ne_eqb a b ne) ∙ rw (later, earlier))

  -- an answer that is no refusal: no check found a fault
  pair_clear : (values : List ℕ) → pair_question n column_starts rows a b ≡ accepted values → first_fault (question_checks n column_starts rows (a ∷ b ∷ [])) ≡ 0
  unfolding pair_question pair_found
  pair_clear values h = go (first_fault (question_checks n column_starts rows (a ∷ b ∷ []))) (ap (λ (r : Reply). r.number) h)
    where
      go : (k : ℕ) → (pair_found k column_starts rows a b).number ≡ 0 → k ≡ 0
      go zero e = refl
      go (suc k) e = absurd (omega arith)

-- ---- the column that holds a slot

module _ (n : ℕ) (column_starts : List ℕ) (s : ℕ) where
  -- column j, of n columns, holds the slot
  abbrev pub Holds : ℕ → Type 0
  Holds j = (j < n) × (get_or column_starts j 0 ≤ s) × (s < get_or column_starts (j + 1) 0)

  -- where a column holds it, the column that the book names does, and is no later
  column-holds : (j : ℕ) → Holds j → Holds (column_of n column_starts s) × (column_of n column_starts s ≤ j)
  unfolding column_of holds_slot
  column-holds j h =
      let p : ℕ → Bool = holds_slot column_starts s in
      let l : List ℕ = keep p (below n) in
      let m : is_in j l ≡ true = in_keep p (below n) j (below-is_in n j h.0) (and_both (leb (get_or column_starts j 0) s) _ (le-leb _ _ h.1) (lt-ltb _ _ h.2)) in
      let c : ℕ = head_d l 0 in
      let k : (is_in c (below n) ≡ true) × (p c ≡ true) = of_keep p (below n) c (head_or-is_in 0 l j m) in (
        (is_in-below n c k.0, leb-true _ _ (and_left (leb (get_or column_starts c 0) s) _ k.1), ltb-true _ _ (and_right (leb (get_or column_starts c 0) s) _ k.1)),
        head_or_least 0 l (ascending-kept p n) j m,
      )

  module _ (starts : Starts n column_starts) where
    -- no other column does: where the starts do not fall, a column behind it starts at its end or later
    pub column_is : (j : ℕ) → Holds j → column_of n column_starts s ≡ j
    column_is j h =
        let c : ℕ = column_of n column_starts s in
        let k : Holds c × (c ≤ j) = column-holds j h in
        elim (lt_or_le c j) [
          | inl lt ↦ absurd (omega (arith, k.0.2, h.1, falls-get_or column_starts starts.rising (c + 1) j (omega arith) (omega (arith, h.0, starts.many))))
          | inr le ↦ omega (arith, k.1)
        ]

    -- a slot below the end of the first k columns is held by one of them
    holder : (k : ℕ) → k ≤ n → s < get_or column_starts k 0 → (j : ℕ) × Holds j
    holder zero le lt = absurd (omega (arith, starts.zero_first))
    holder (suc k) le lt = elim (lt_or_le s (get_or column_starts k 0)) [
      | inl before ↦ holder k (omega arith) before
      | inr from ↦ (k, (omega arith, from, (let e : suc k ≡ k + 1 = omega arith in rw e at lt)))
    ]

    -- so each slot that there is has its column
    pub column-found : s < get_or column_starts n 0 → Holds (column_of n column_starts s)
    column-found lt =
        let h = holder n (omega arith) lt in
        (column-holds h.0 h.1).0

-- ---- from a slot to its pair

module _ (n : ℕ) (column_starts rows : List ℕ) (s : ℕ) where
  by_slot_fault : (k : ℕ) → first_fault (slot_checks n column_starts rows s) ≡ k → slot_question n column_starts rows s ≡ slot_found k n column_starts rows s
  unfolding slot_question
  by_slot_fault k e = ap (λ (k : ℕ). slot_found k n column_starts rows s) e

  -- the layout has a fault
  pub slot_layout : (k : ℕ) → k ≡ first_fault (layout_checks n column_starts rows) → ◌≢◌ {A = ℕ} k 0 → slot_question n column_starts rows s ≡ refused k
  unfolding slot_found
  slot_layout zero e ne = absurd (ne refl)
  slot_layout (suc k) e ne = by_slot_fault (suc k) (layout_fault_slot n column_starts rows s (λ z. ne (e ∙ z)) ∙ sym e)

  -- it has none, and the slot's number is not below the number of slots
  pub slot_outside_lem : first_fault (layout_checks n column_starts rows) ≡ 0 → get_or column_starts n 0 ≤ s → slot_question n column_starts rows s ≡ refused 27
  unfolding slot_found
  slot_outside_lem h le = by_slot_fault 27 (slot_fault n column_starts rows s h le)

  -- there is no fault
  slot_inside : first_fault (slot_checks n column_starts rows s) ≡ 0 → slot_question n column_starts rows s ≡ accepted (get_or rows s 0 ∷ column_of n column_starts s ∷ [])
  unfolding slot_found
  slot_inside e = by_slot_fault 0 e

  -- an answer that is no refusal: no check found a fault
  slot_clear : (values : List ℕ) → slot_question n column_starts rows s ≡ accepted values → first_fault (slot_checks n column_starts rows s) ≡ 0
  unfolding slot_question slot_found
  slot_clear values h = go (first_fault (slot_checks n column_starts rows s)) (ap (λ (r : Reply). r.number) h)
    where
      go : (k : ℕ) → (slot_found k n column_starts rows s).number ≡ 0 → k ≡ 0
      go zero e = refl
      go (suc k) e = absurd (omega arith)

-- Each slot that there is has a pair.
pub slot_has_pair : SlotHasPair
slot_has_pair n column_starts rows s h lt = slot_inside n column_starts rows s (no_slot_fault n column_starts rows s h lt)

-- ---- slots and rows of a column

module _ (n : ℕ) (column_starts rows : List ℕ) (g : GoodLayout n column_starts rows) (j : ℕ) (lt : j < n) where
  -- the rows of a column keep 17's rule
  pub column-kept : RuleKept n j (list_at column_starts rows j)
  column-kept = good-column n j (list_at column_starts rows j) (good-columns n column_starts rows g.columns j lt)

  -- they are as many as its starts say
  column-long : length (list_at column_starts rows j) ≡ get_or column_starts (j + 1) 0 - get_or column_starts j 0
  column-long = list_length n column_starts rows (good-starts n column_starts g.starts) g.last j lt

  -- and the k-th is that of the slot k behind the column's start
  row_at : (k : ℕ) → k < length (list_at column_starts rows j) → get_or (list_at column_starts rows j) k 0 ≡ get_or rows (get_or column_starts j 0 + k) 0
  unfolding list_at
  row_at k s =
      get_or-take (get_or column_starts (j + 1) 0 - get_or column_starts j 0) (drop (get_or column_starts j 0) rows) k 0 (omega (arith, column-long))
      ∙ get_or-drop (get_or column_starts j 0) rows k 0

-- ---- each leads home

-- a slot of a layout without a fault: its row is later than its column, and the slot of the two is that slot
module _ (n : ℕ) (column_starts rows : List ℕ) (s : ℕ) (clear : first_fault (layout_checks n column_starts rows) ≡ 0) (lt : s < get_or column_starts n 0) where
  good : GoodLayout n column_starts rows
  good = good_layout n column_starts rows clear

  -- its row and its column, the rows of this, and the slot's place among them
  abbrev i : ℕ
  i = get_or rows s 0

  abbrev j : ℕ
  j = column_of n column_starts s

  abbrev column : List ℕ
  column = list_at column_starts rows j

  abbrev place : ℕ
  place = s - get_or column_starts j 0

  held : Holds n column_starts s j
  held = column-found n column_starts s (good-starts n column_starts good.starts) lt

  behind-start : get_or column_starts j 0 + place ≡ s
  behind-start = omega (arith, held.1)

  inside : place < length column
  inside = omega (arith, held.1, held.2, column-long n column_starts rows good j held.0)

  -- the row stands there
  row_there : get_or column place 0 ≡ i
  row_there = row_at n column_starts rows good j held.0 place inside ∙ ap (λ (k : ℕ). get_or rows k 0) behind-start

  row_in : is_in i column ≡ true
  row_in = rw row_there at (is_in-get_or column place 0 inside)

  -- so it is later than the column, and a position
  row-later : (j < i) × (i < n)
  row-later = (column-kept n column_starts rows good j held.0).1 i row_in

  -- and the slot of the two is the slot
  slot_home : pair_question n column_starts rows i j ≡ accepted (slot_case ∷ s ∷ [])
  slot_home =
      let first : index_of i column ≡ place = rw row_there at (ascending-index_of column (column-kept n column_starts rows good j held.0).0 place inside) in
      pair_slot n column_starts rows i j clear row-later.1 held.0 i j (λ same. omega (arith, row-later.0)) (omega (arith, row-later.0)) (omega (arith, row-later.0))
      ∙ ap accepted (slot_found_lem column_starts rows i j place row_in first ∙ ap (λ (k : ℕ). slot_case ∷ k ∷ []) behind-start)

-- what an accepted answer of two values says of the pair that is found
module _ (n : ℕ) (column_starts rows : List ℕ) (s row column : ℕ) (h : slot_question n column_starts rows s ≡ accepted (row ∷ column ∷ [])) where
  told : (first_fault (layout_checks n column_starts rows) ≡ 0) × (s < get_or column_starts n 0) × (get_or rows s 0 ≡ row) × (column_of n column_starts s ≡ column)
  told =
      let none : first_fault (slot_checks n column_starts rows s) ≡ 0 = slot_clear n column_starts rows s (row ∷ column ∷ []) h in
      let g = good_slot n column_starts rows s none in
      let same : accepted (get_or rows s 0 ∷ column_of n column_starts s ∷ []) ≡ accepted (row ∷ column ∷ []) = sym (slot_inside n column_starts rows s none) ∙ h in
      (g.0, g.1, ap (λ (r : Reply). get_or r.values 0 0) same, ap (λ (r : Reply). get_or r.values 1 0) same)

-- The row of a slot is the later position of its pair.
pub row_is_later : RowIsLater
row_is_later n column_starts rows s row column h =
    let t = told n column_starts rows s row column h in
    rw (t.2, t.3) at (row-later n column_starts rows s t.0 t.1)

-- A slot taken to its pair and that pair to its slot leads home.
pub slot_leads_home : SlotLeadsHome
slot_leads_home n column_starts rows s row column h =
    let t = told n column_starts rows s row column h in
    rw (t.2, t.3) at (slot_home n column_starts rows s t.0 t.1)

-- a slot that is told of row i of column j: the row is in the column, and the slot is as far behind the column's start as the row's place
slot_told : (column_starts rows : List ℕ) (i j s : ℕ) → slot_of column_starts rows i j ≡ slot_case ∷ s ∷ []
    → (is_in i (list_at column_starts rows j) ≡ true) × (s ≡ get_or column_starts j 0 + index_of i (list_at column_starts rows j))
slot_told column_starts rows i j s h = elim (tested (is_in i (list_at column_starts rows j))) [
  | inl t ↦ (t, ap (λ (l : List ℕ). get_or l 1 0) (sym h ∙ slot_found_lem column_starts rows i j (index_of i (list_at column_starts rows j)) t refl))
  | inr f ↦ absurd (omega (arith, ap length (sym h ∙ slot_none column_starts rows i j f)))
]

-- a row of a column: its slot leads back to the two
module _ (n : ℕ) (column_starts rows : List ℕ) (i j s : ℕ) (clear : first_fault (layout_checks n column_starts rows) ≡ 0) (lt : j < n) (h : slot_of column_starts rows i j ≡ slot_case ∷ s ∷ []) where
  pair_home : slot_question n column_starts rows s ≡ accepted (i ∷ j ∷ [])
  pair_home =
      let g : GoodLayout n column_starts rows = good_layout n column_starts rows clear in
      let starts : Starts n column_starts = good-starts n column_starts g.starts in
      let column : List ℕ = list_at column_starts rows j in
      let t = slot_told column_starts rows i j s h in
      let within : index_of i column < length column = index_of_lt column i t.0 in
      let holds : Holds n column_starts s j = (lt, omega (arith, t.1), omega (arith, t.1, within, column-long n column_starts rows g j lt)) in
      let few : s < get_or column_starts n 0 = omega (arith, holds.2, falls-get_or column_starts starts.rising (j + 1) n (omega arith) (omega (arith, starts.many))) in
      let row : get_or rows s 0 ≡ i =
      ap (λ (k : ℕ). get_or rows k 0) t.1 ∙ sym (row_at n column_starts rows g j lt (index_of i column) within) ∙ get_or-index_of column i 0 within in
      slot_has_pair n column_starts rows s clear few
      ∙ rw (row, column_is n column_starts s starts j holds)

-- A pair that has a slot, given later position first, taken to its slot and that slot to its pair leads home.
pub pair_leads_home : PairLeadsHome
pair_leads_home n column_starts rows a b s le h =
    let q = good_question n column_starts rows (a ∷ b ∷ []) (pair_clear n column_starts rows a b (slot_case ∷ s ∷ []) h) in
    let la : a < n = q.1 a (is_in-head a (b ∷ [])) in
    let lb : b < n = q.1 b (is_in_tail b a (b ∷ []) (is_in-head b [])) in
    elim (eq_or_ne a b) [
      | inl e ↦ absurd (omega (arith, ap (λ (r : Reply). length r.values) (sym h ∙ pair_same n column_starts rows a b q.0 la lb e)))
      | inr ne ↦ pair_home n column_starts rows a b s q.0 lb
          (ap (λ (r : Reply). r.values) (sym (pair_slot n column_starts rows a b q.0 la lb a b ne (omega (arith, ne)) (omega (arith, ne))) ∙ h))
    ]

-- ---- the same of the answers

-- the answer that is told as a slot, and the one that is told as a pair
slot_answer : (answer : Result PairAnswer Refusal) (s : ℕ) → pair_reply answer ≡ accepted (slot_case ∷ s ∷ []) → answer ≡ Ok (pair.Slot s)
slot_answer (Ok (pair.Slot k)) s e = ap (λ (r : Reply). Ok (pair.Slot (get_or r.values 1 0))) e
slot_answer (Ok pair.Diagonal) s e = absurd (omega (arith, ap (λ (r : Reply). length r.values) e))
slot_answer (Ok pair.NoSlot) s e = absurd (omega (arith, ap (λ (r : Reply). length r.values) e))
slot_answer (Err k) s e = absurd (omega (arith, ap (λ (r : Reply). length r.values) e))

pair-answer : (answer : Result Pair Refusal) (row column : ℕ) → slot_reply answer ≡ accepted (row ∷ column ∷ []) → answer ≡ Ok (record { row = row; column = column })
pair-answer (Ok p) row column e = ap (λ (r : Reply). Ok (record { row = get_or r.values 0 0; column = get_or r.values 1 0 })) e
pair-answer (Err k) row column e = absurd (omega (arith, ap (λ (r : Reply). length r.values) e))

pub slot_then_pair : SlotThenPair
slot_then_pair n column_starts rows s p answer found told =
    slot_answer answer s (told ∙ slot_leads_home n column_starts rows s p.row p.column (sym found))

pub pair_then_slot : PairThenSlot
pair_then_slot n column_starts rows a b s answer le found told =
    pair-answer answer a b (told ∙ pair_leads_home n column_starts rows a b s le (sym found))
