-- `factor::held::held_at` meets its promise: the answer to document 01's question about the pair tells where the number stands.
use mathlib.Core.Path.{◌≡◌, sym, ◌∙◌}
use mathlib.Core.Bool.{false}
use mathlib.Core.List.{[], ◌∷◌}
use Prim.Native.Nat.{◌+◌, ◌<◌}
use borrow.Author.Rules.{rules}
use lib.ListN.{length, get_or}
use lib.Ieee.{nan}
use Rattle.plan.specs.Refusals.{first_fault}
use Rattle.plan.specs.Answers.{held_case}
use Rattle.plan.specs.Questions.{layout_checks}
use Rattle.plan.specs.Factoring.{bad_filling}
use Rattle.plan.specs.Held.{held_question}
use Rattle.factor.proofs.HeldChecks.{layout_faulty, layout_clear, starts-many, lengths_wrong, held_slot, held-diagonal, held_none, held-refused}
use Rattle.factor.proofs.held.held_at.Goals.{In_default, Else-bad_filling, In-Ok-Slot, In-Ok-Diagonal}
use Rattle.factor.proofs.held.held_at.Goals as goal

pub returns-in-Err : goal.returns-in-Err
returns-in-Err c = rw c.number.ensures (layout_faulty c.args.n c.args.column_starts.now c.args.rows.now (record { diagonal = c.args.diagonal.now; values = c.args.values.now }) c.args.a c.args.b c.slot_of_pair-answer.result c.slot_of_pair-answer.ensures c.in-Err.refusal c.in-Err.ensures)

-- the layout has no fault
clear : (c : In_default) → first_fault (layout_checks c.args.n c.args.column_starts.now c.args.rows.now) ≡ 0
clear c = layout_clear c.args.n c.args.column_starts.now c.args.rows.now (record { diagonal = c.args.diagonal.now; values = c.args.values.now }) c.args.a c.args.b c.slot_of_pair-answer.result c.slot_of_pair-answer.ensures c.in_default.ensures

many : (c : In_default) → length c.args.column_starts.now ≡ c.args.n + 1
many c = starts-many c.args.n c.args.column_starts.now c.args.rows.now (record { diagonal = c.args.diagonal.now; values = c.args.values.now }) c.args.a c.args.b c.slot_of_pair-answer.result c.slot_of_pair-answer.ensures (clear c)

pub returns-then-bad_filling : goal.returns-then-bad_filling
returns-then-bad_filling c = rw c.number-then-bad_filling.ensures (lengths_wrong c.args.n c.args.column_starts.now c.args.rows.now (record { diagonal = c.args.diagonal.now; values = c.args.values.now }) c.args.a c.args.b c.slot_of_pair-answer.result c.slot_of_pair-answer.ensures (clear (goal.at.returns-then-bad_filling c).In_default) (sym c.bad_filling.ensures ∙ c.if-bad_filling.true))

-- both buffers are as long as needed
right : (c : Else-bad_filling) → bad_filling c.args.n (get_or c.args.column_starts.now c.args.n 0) (record { diagonal = c.args.diagonal.now; values = c.args.values.now }) ≡ false
right c = sym c.bad_filling.ensures ∙ c.if-bad_filling.false

-- a number in a slot
slotted : (c : In-Ok-Slot) → (c.in-Ok-Slot.s < length c.args.values.now)
    × (record { number = 0; kind = held_case; held = get_or c.args.values.now c.in-Ok-Slot.s nan ∷ [] } ≡ held_question c.args.n c.args.column_starts.now c.args.rows.now (record { diagonal = c.args.diagonal.now; values = c.args.values.now }) c.args.a c.args.b)
slotted c = held_slot c.args.n c.args.column_starts.now c.args.rows.now (record { diagonal = c.args.diagonal.now; values = c.args.values.now }) c.args.a c.args.b c.slot_of_pair-answer.result c.slot_of_pair-answer.ensures (layout_clear c.args.n c.args.column_starts.now c.args.rows.now (record { diagonal = c.args.diagonal.now; values = c.args.values.now }) c.args.a c.args.b c.slot_of_pair-answer.result c.slot_of_pair-answer.ensures c.in_default.ensures) (sym c.bad_filling.ensures ∙ c.if-bad_filling.false) c.in-Ok-Slot.s c.in-Ok-Slot.field-0 c.in-Ok-Slot.is (rw c.in-Ok-Slot.is at c.in-Ok-Slot.field-0-is)

-- a number on the diagonal
diagonal : (c : In-Ok-Diagonal) → (c.args.a < length c.args.diagonal.now)
    × (record { number = 0; kind = held_case; held = get_or c.args.diagonal.now c.args.a nan ∷ [] } ≡ held_question c.args.n c.args.column_starts.now c.args.rows.now (record { diagonal = c.args.diagonal.now; values = c.args.values.now }) c.args.a c.args.b)
diagonal c = held-diagonal c.args.n c.args.column_starts.now c.args.rows.now (record { diagonal = c.args.diagonal.now; values = c.args.values.now }) c.args.a c.args.b c.slot_of_pair-answer.result c.slot_of_pair-answer.ensures (layout_clear c.args.n c.args.column_starts.now c.args.rows.now (record { diagonal = c.args.diagonal.now; values = c.args.values.now }) c.args.a c.args.b c.slot_of_pair-answer.result c.slot_of_pair-answer.ensures c.in_default.ensures) (sym c.bad_filling.ensures ∙ c.if-bad_filling.false) c.in-Ok-Diagonal.field-0 c.in-Ok-Diagonal.is (rw c.in-Ok-Diagonal.is at c.in-Ok-Diagonal.field-0-is)

pub returns-in-Ok-NoSlot : goal.returns-in-Ok-NoSlot
returns-in-Ok-NoSlot c = held_none c.args.n c.args.column_starts.now c.args.rows.now (record { diagonal = c.args.diagonal.now; values = c.args.values.now }) c.args.a c.args.b c.slot_of_pair-answer.result c.slot_of_pair-answer.ensures (clear (goal.at.returns-in-Ok-NoSlot c).In_default) (right (goal.at.returns-in-Ok-NoSlot c).Else-bad_filling) c.in-Ok-NoSlot.field-0 c.in-Ok-NoSlot.is (rw c.in-Ok-NoSlot.is at c.in-Ok-NoSlot.field-0-is)

pub returns-in-Err-answer : goal.returns-in-Err-answer
returns-in-Err-answer c = rw c.number-in-Err-answer.ensures (held-refused c.args.n c.args.column_starts.now c.args.rows.now (record { diagonal = c.args.diagonal.now; values = c.args.values.now }) c.args.a c.args.b c.slot_of_pair-answer.result c.slot_of_pair-answer.ensures (clear (goal.at.returns-in-Err-answer c).In_default) (right (goal.at.returns-in-Err-answer c).Else-bad_filling) c.in-Err-answer.refusal c.in-Err-answer.is)

pub offset_bounds-column_starts-n : goal.offset_bounds-column_starts-n
offset_bounds-column_starts-n c = search (rules, many (goal.at.offset_bounds-column_starts-n c).In_default)

pub bounds-column_starts-n : goal.bounds-column_starts-n
bounds-column_starts-n c = search (rules, many (goal.at.bounds-column_starts-n c).In_default)

pub bounds-values-s : goal.bounds-values-s
bounds-values-s c = (slotted (goal.at.bounds-values-s c).In-Ok-Slot).0

pub offset_bounds-diagonal-a : goal.offset_bounds-diagonal-a
offset_bounds-diagonal-a c = search (rules, (diagonal (goal.at.offset_bounds-diagonal-a c).In-Ok-Diagonal).0)

pub bounds-diagonal-a : goal.bounds-diagonal-a
bounds-diagonal-a c = (diagonal (goal.at.bounds-diagonal-a c).In-Ok-Diagonal).0

pub returns-in-Ok-Slot : goal.returns-in-Ok-Slot
returns-in-Ok-Slot c = (slotted (goal.at.returns-in-Ok-Slot c).In-Ok-Slot).1

pub returns-in-Ok-Diagonal : goal.returns-in-Ok-Diagonal
returns-in-Ok-Diagonal c = (diagonal (goal.at.returns-in-Ok-Diagonal c).In-Ok-Diagonal).1
