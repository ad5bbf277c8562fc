-- Document 02, E4, as statements: from a slot to its pair and from a pair to its slot, each leads home.
use Rattle.std.specs.Prelude.{◌≡◌, List, [], ◌∷◌, ℕ, ◌≤◌, ◌<◌, get_or, Result, Ok}
use Rattle.plan.specs.declared.Pair.{Pair}
use Rattle.plan.specs.declared.PairAnswer.{PairAnswer}
use Rattle.plan.specs.declared.PairAnswer.TheVariants.{Slot}
use Rattle.plan.specs.declared.refusal.Refusal.{Refusal}
use Rattle.plan.specs.Refusals.{first_fault}
use Rattle.plan.specs.Answers.{accepted, slot_case, pair_reply, slot_reply}
use Rattle.plan.specs.Questions.{layout_checks, pair_question, column_of, slot_question}

-- Each slot that there is, in a layout without a fault, has a pair.
abbrev pub SlotHasPair : Type 0
SlotHasPair =
    (n : ℕ) (column_starts rows : List ℕ) (s : ℕ)
    → first_fault (layout_checks n column_starts rows) ≡ 0 → s < get_or column_starts n 0
    → slot_question n column_starts rows s ≡ accepted (get_or rows s 0 ∷ column_of n column_starts s ∷ [])

-- "Taking a slot to its pair and that pair to its slot must lead home": where a slot has a pair, the slot of the pair is that slot.
abbrev pub SlotLeadsHome : Type 0
SlotLeadsHome =
    (n : ℕ) (column_starts rows : List ℕ) (s row column : ℕ)
    → slot_question n column_starts rows s ≡ accepted (row ∷ column ∷ [])
    → pair_question n column_starts rows row column ≡ accepted (slot_case ∷ s ∷ [])

-- "and so must the other direction for pairs that have one, given later position first"
abbrev pub PairLeadsHome : Type 0
PairLeadsHome =
    (n : ℕ) (column_starts rows : List ℕ) (a b s : ℕ)
    → b ≤ a → pair_question n column_starts rows a b ≡ accepted (slot_case ∷ s ∷ [])
    → slot_question n column_starts rows s ≡ accepted (a ∷ b ∷ [])

-- The row of a slot is the later position of its pair.
abbrev pub RowIsLater : Type 0
RowIsLater =
    (n : ℕ) (column_starts rows : List ℕ) (s row column : ℕ)
    → slot_question n column_starts rows s ≡ accepted (row ∷ column ∷ [])
    → (column < row) × (row < n)

-- Both ways again, of the promises of the two questions: so they hold of every two functions that keep them.

abbrev pub SlotThenPair : Type 0
SlotThenPair =
    (n : ℕ) (column_starts rows : List ℕ) (s : ℕ) (p : Pair) (answer : Result PairAnswer Refusal)
    → slot_reply (Ok p) ≡ slot_question n column_starts rows s
    → pair_reply answer ≡ pair_question n column_starts rows p.row p.column
    → answer ≡ Ok (Slot s)

abbrev pub PairThenSlot : Type 0
PairThenSlot =
    (n : ℕ) (column_starts rows : List ℕ) (a b s : ℕ) (answer : Result Pair Refusal)
    → b ≤ a → pair_reply (Ok (Slot s)) ≡ pair_question n column_starts rows a b
    → slot_reply answer ≡ slot_question n column_starts rows s
    → answer ≡ Ok (record { row = a; column = b })
