-- Reading the factor at a pair: what the answer to document 01's question about the pair says of the number that is held there.
use mathlib.Core.Path.{◌≡◌, refl, sym, ap, ◌∙◌}
use mathlib.Core.Logic.{◌⊎◌, inl, inr}
use mathlib.Core.Bool.{Bool, true, false, not, cond}
use mathlib.Core.List.{List, [], ◌∷◌}
use Prim.Native.Nat.{ℕ, zero, suc, ◌+◌, ◌<◌, min, max}
use native.Mathlib.Omega.{arith}
use lib.Dec.{eqb}
use lib.ListN.{length, get_or}
use lib.Ieee.{nan}
use borrow.Author.Tests.{eqb-true, eq-eqb, ne_eqb, not-false}
use Rattle.std.specs.Prelude.{Result, Ok, Err}
use Rattle.plan.specs.declared.refusal.Refusal.{Refusal}
use Rattle.plan.specs.declared.PairAnswer.{PairAnswer}
use Rattle.plan.specs.declared.PairAnswer.TheVariants as pair
use Rattle.plan.specs.Lists.{is_in, index_of, list_at}
use Rattle.plan.specs.Refusals.{number_of, fault_of, Checks, first_fault}
use Rattle.plan.specs.Answers.{Reply, accepted, slot_case, diagonal_case, no_slot_case, pair_reply, held_case, slotless_case}
use Rattle.plan.specs.Questions.{layout_checks, position_outside, position_checks, question_checks, pair_found, pair_question}
use Rattle.plan.specs.Filling.{Filling, Place, on_diagonal, in_slot, no_place, place_below, place_of, held_at}
use Rattle.plan.specs.Factoring.{bad_filling}
use Rattle.plan.specs.FactorStatements.{place_values}
use Rattle.plan.specs.Held.{held_checks, held_found, held_question}
use Rattle.theory.proofs.Bools.{cond_true, cond_false, tested, eq_or_ne, or_false_left, or_false_right}
use Rattle.theory.proofs.Lists.{is_in-head, is_in_tail, index_of_lt}
use Rattle.theory.proofs.Ascending.{falls-get_or}
use Rattle.theory.proofs.Refusals.{number-suc, no_such, fault_here, fault_later, first_some, first-none}
use Rattle.theory.proofs.Checked.{good-starts}
use Rattle.theory.proofs.Compressed.{list_length}
use Rattle.theory.proofs.Asked.{GoodLayout, good_layout, layout_fault, position_fault, no_question_fault, good_question}
use Rattle.theory.proofs.FactorHeld.{question_finds_place}

-- ---- a pair's place

-- a position with itself, a slot that there is, or none
place_cases : (starts rows : List ℕ) (a b : ℕ) → let r : List ℕ = list_at starts rows (min a b) in
    (place_of starts rows a b ≡ on_diagonal a)
    ⊎ (((is_in (max a b) r ≡ true) × (place_of starts rows a b ≡ in_slot (get_or starts (min a b) 0 + index_of (max a b) r))) ⊎ (place_of starts rows a b ≡ no_place))
unfolding place_of place_below
place_cases starts rows a b = elim (tested (eqb a b)) [
  | inl same ↦ inl (cond_true _ _ _ same)
  | inr other ↦ elim (tested (is_in (max a b) (list_at starts rows (min a b)))) [
    | inl has ↦ inr (inl (has, cond_false _ _ _ other ∙ cond_true _ _ _ has))
    | inr not ↦ inr (inr (cond_false _ _ _ other ∙ cond_false _ _ _ not))
  ]
]

-- the number of an answer, as its reply tells it
reply_number : (answer : Result PairAnswer Refusal) → fault_of answer ≡ (pair_reply answer).number
reply_number (Ok (pair.Slot s)) = refl
reply_number (Ok pair.Diagonal) = refl
reply_number (Ok pair.NoSlot) = refl
reply_number (Err r) = refl

module _ (n : ℕ) (starts rows : List ℕ) (f : Filling) (a b : ℕ) where
  abbrev asked : Checks
  asked = question_checks n starts rows (a ∷ b ∷ [])

  -- the number of document 01's answer is its first fault
  pair-number : (pair_question n starts rows a b).number ≡ first_fault asked
  unfolding pair_question pair_found
  pair-number = go (first_fault asked)
    where
      go : (k : ℕ) → (pair_found k starts rows a b).number ≡ k
      go zero = refl
      go (suc k) = refl

  -- a first fault is what is answered
  refused_by : (k : ℕ) → (k ≡ 0 → ⊥) → first_fault (held_checks n starts rows f a b) ≡ k → record { number = k; kind = 0; held = [] } ≡ held_question n starts rows f a b
  unfolding held_question held_found
  refused_by k some e = go k some ∙ ap (λ (i : ℕ). held_found i (place_of starts rows a b) f) (sym e)
    where
      go : (k : ℕ) → (k ≡ 0 → ⊥) → record { number = k; kind = 0; held = [] } ≡ held_found k (place_of starts rows a b) f
      go zero some = absurd (some refl)
      go (suc k) some = refl

  module _ (answer : Result PairAnswer Refusal) (told : pair_reply answer ≡ pair_question n starts rows a b) where
    abbrev number : ℕ
    number = fault_of answer

    number-first : number ≡ first_fault asked
    number-first = reply_number answer ∙ ap (λ (r : Reply). r.number) told ∙ pair-number

    -- what is left of the number where 21 counts for none
    abbrev before : ℕ
    before = cond (eqb number 21) 0 number

    -- the layout's faults come first, and none of them is 21
    clear_or_first : (first_fault (layout_checks n starts rows) ≡ 0) ⊎ ((before ≡ first_fault (layout_checks n starts rows)) × (first_fault (layout_checks n starts rows) ≡ 0 → ⊥))
    unfolding layout_checks
    clear_or_first = elim (eq_or_ne (first_fault (layout_checks n starts rows)) 0) [
      | inl none ↦ inl none
      | inr some ↦
          let here : number ≡ first_fault (layout_checks n starts rows) = number-first ∙ layout_fault n starts rows (a ∷ b ∷ []) some in
          let other : eqb number 21 ≡ false = ne_eqb number 21 (λ e. no_such (layout_checks n starts rows) 21 (omega arith) refl (sym here ∙ e)) in
          inr (cond_false _ _ _ other ∙ here, some)
    ]

    -- in a layout without one the first fault is 21, or there is none
    none_before : first_fault (layout_checks n starts rows) ≡ 0 → before ≡ 0
    none_before clear = elim (tested (position_outside n (a ∷ b ∷ []))) [
      | inl outside ↦ cond_true _ _ _ (eq-eqb number 21 (number-first ∙ position_fault n starts rows (a ∷ b ∷ []) clear outside))
      | inr inside ↦ let zero : number ≡ 0 = number-first ∙ no_question_fault n starts rows (a ∷ b ∷ []) clear inside in rw zero
    ]

    -- a fault of the layout is this question's
    behind : (first_fault (layout_checks n starts rows) ≡ 0 → ⊥) → first_fault (held_checks n starts rows f a b) ≡ first_fault (layout_checks n starts rows)
    unfolding held_checks
    behind some = first_some (layout_checks n starts rows) _ some

    pub layout_faulty : (r : Refusal) → number_of r ≡ before → record { number = number_of r; kind = 0; held = [] } ≡ held_question n starts rows f a b
    layout_faulty r e =
        let one = number-suc r in
        elim clear_or_first [
          | inl clear ↦ absurd (omega (arith, e, none_before clear, one.1))
          | inr first ↦ refused_by (number_of r) (λ z. omega (arith, z, one.1)) (behind first.1 ∙ sym (e ∙ first.0))
        ]

    pub layout_clear : 0 ≡ before → first_fault (layout_checks n starts rows) ≡ 0
    layout_clear none = elim clear_or_first [
      | inl clear ↦ clear
      | inr first ↦ sym first.0 ∙ sym none
    ]

    -- a layout without a fault: the lengths are left, and the positions
    module _ (clear : first_fault (layout_checks n starts rows) ≡ 0) where
      good : GoodLayout n starts rows
      good = good_layout n starts rows clear

      pub starts-many : length starts ≡ n + 1
      starts-many = (good-starts n starts good.starts).many

      abbrev wrong : Bool
      wrong = bad_filling n (get_or starts n 0) f

      lengths-left : first_fault (held_checks n starts rows f a b) ≡ first_fault ((30, wrong) ∷ position_checks n (a ∷ b ∷ []))
      unfolding held_checks layout_checks
      lengths-left = first-none (layout_checks n starts rows) _ refl clear

      pub lengths_wrong : wrong ≡ true → record { number = 30; kind = 0; held = [] } ≡ held_question n starts rows f a b
      lengths_wrong bad = refused_by 30 (λ e. omega (arith, e)) (lengths-left ∙ fault_here 30 wrong _ bad)

      module _ (right : wrong ≡ false) where
        -- the first fault is document 01's
        fault : first_fault (held_checks n starts rows f a b) ≡ first_fault asked
        unfolding question_checks layout_checks
        fault = lengths-left ∙ fault_later 30 wrong _ right ∙ sym (first-none (layout_checks n starts rows) (position_checks n (a ∷ b ∷ [])) refl clear)

        whole : held_question n starts rows f a b ≡ held_found (first_fault asked) (place_of starts rows a b) f
        unfolding held_question
        whole = ap (λ (k : ℕ). held_found k (place_of starts rows a b) f) fault

        diagonal-long : length f.diagonal ≡ n
        unfolding bad_filling
        diagonal-long = eqb-true _ _ (not-false _ (or_false_left (not (eqb (length f.diagonal) n)) _ right))

        values-long : length f.values ≡ get_or starts n 0
        unfolding bad_filling
        values-long = eqb-true _ _ (not-false _ (or_false_right (not (eqb (length f.diagonal) n)) _ right))

        -- no refusal: the pair stands where document 01's question finds it
        module _ (none : number ≡ 0) where
          positions : (x : ℕ) → is_in x (a ∷ b ∷ []) ≡ true → x < n
          positions = (good_question n starts rows (a ∷ b ∷ []) (sym number-first ∙ none)).1

          a_below : a < n
          a_below = positions a (is_in-head a (b ∷ []))

          b_below : b < n
          b_below = positions b (is_in_tail b a (b ∷ []) (is_in-head b []))

          there : pair_reply answer ≡ accepted (place_values (place_of starts rows a b))
          unfolding pair_question
          there = told ∙ ap (λ (k : ℕ). pair_found k starts rows a b) (sym number-first ∙ none) ∙ question_finds_place starts rows a b

          answered : (at : Place) → place_of starts rows a b ≡ at → held_found 0 at f ≡ held_question n starts rows f a b
          answered at e = ap (λ (p : Place). held_found 0 p f) (sym e) ∙ ap (λ (k : ℕ). held_found k (place_of starts rows a b) f) (sym none ∙ number-first) ∙ sym whole

          -- the kind that is told is the place's
          kind : get_or (pair_reply answer).values 0 0 ≡ get_or (place_values (place_of starts rows a b)) 0 0
          kind = ap (λ (r : Reply). get_or r.values 0 0) there

          -- a slot that a pair has is one of those that there are
          slot_below : is_in (max a b) (list_at starts rows (min a b)) ≡ true → get_or starts (min a b) 0 + index_of (max a b) (list_at starts rows (min a b)) < get_or starts n 0
          slot_below has =
              let j : ℕ = min a b in
              let in_range_lem : j < n = omega (arith, a_below, b_below) in
              let starting = good-starts n starts good.starts in
              omega (
                arith,
                index_of_lt (list_at starts rows j) (max a b) has,
                list_length n starts rows starting good.last j in_range_lem,
                falls-get_or starts starting.rising (j + 1) n (omega (arith, in_range_lem)) (omega (arith, starting.many)),
              )

        -- by the four answers
        pub held_slot : (s : ℕ) (found : PairAnswer) → answer ≡ Ok found → found ≡ pair.Slot s
            → (s < length f.values) × (record { number = 0; kind = held_case; held = get_or f.values s nan ∷ [] } ≡ held_question n starts rows f a b)
        unfolding held_found held_at
        held_slot s found whole here =
            let e : answer ≡ Ok (pair.Slot s) = rw here at whole in
            let none : number ≡ 0 = rw e in
            let told : get_or (place_values (place_of starts rows a b)) 0 0 ≡ slot_case = sym (kind none) ∙ rw e in
            let slot : s ≡ get_or (place_values (place_of starts rows a b)) 1 0 = rw e at (ap (λ (r : Reply). get_or r.values 1 0) (there none)) in
            elim (place_cases starts rows a b) [
              | inl same ↦ absurd (omega (arith, rw same at told))
              | inr apart ↦ elim apart [
                | inl has ↦
                    let its : s ≡ get_or starts (min a b) 0 + index_of (max a b) (list_at starts rows (min a b)) = rw has.1 at slot in
                    (omega (arith, its, values-long, slot_below none has.0), answered none (in_slot s) (has.1 ∙ ap in_slot (sym its)))
                | inr empty ↦ absurd (omega (arith, rw empty at told))
              ]
            ]

        pub held-diagonal : (found : PairAnswer) → answer ≡ Ok found → found ≡ pair.Diagonal
            → (a < length f.diagonal) × (record { number = 0; kind = held_case; held = get_or f.diagonal a nan ∷ [] } ≡ held_question n starts rows f a b)
        unfolding held_found held_at
        held-diagonal found whole here =
            let e : answer ≡ Ok pair.Diagonal = rw here at whole in
            let none : number ≡ 0 = rw e in
            let told : get_or (place_values (place_of starts rows a b)) 0 0 ≡ diagonal_case = sym (kind none) ∙ rw e in
            elim (place_cases starts rows a b) [
              | inl same ↦ (omega (arith, diagonal-long, a_below none), answered none (on_diagonal a) same)
              | inr apart ↦ elim apart [
                | inl has ↦ absurd (omega (arith, rw has.1 at told))
                | inr empty ↦ absurd (omega (arith, rw empty at told))
              ]
            ]

        pub held_none : (found : PairAnswer) → answer ≡ Ok found → found ≡ pair.NoSlot → record { number = 0; kind = slotless_case; held = [] } ≡ held_question n starts rows f a b
        unfolding held_found held_at
        held_none found whole here =
            let e : answer ≡ Ok pair.NoSlot = rw here at whole in
            let none : number ≡ 0 = rw e in
            let told : get_or (place_values (place_of starts rows a b)) 0 0 ≡ no_slot_case = sym (kind none) ∙ rw e in
            elim (place_cases starts rows a b) [
              | inl same ↦ absurd (omega (arith, rw same at told))
              | inr apart ↦ elim apart [
                | inl has ↦ absurd (omega (arith, rw has.1 at told))
                | inr empty ↦ answered none no_place empty
              ]
            ]

        pub held-refused : (r : Refusal) → answer ≡ Err r → record { number = number_of r; kind = 0; held = [] } ≡ held_question n starts rows f a b
        held-refused r e =
            let here : number_of r ≡ first_fault asked = rw e at number-first in
            refused_by (number_of r) (λ z. omega (arith, z, (number-suc r).1)) (fault ∙ sym here)
