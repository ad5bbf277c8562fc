-- `layout::questions::slot_of_pair` meets its contract: its tests are the question's checks, and the slot is that of the later position in the
-- earlier's column.
use mathlib.Core.Path.{sym, ◌∙◌}
use mathlib.Core.Logic.{inl, inr}
use native.Mathlib.Omega.{arith}
use lib.Dec.{leb}
use borrow.Author.Tests.{le-leb}
use Rattle.plan.specs.Questions.{position_outside}
use Rattle.theory.proofs.Bools.{or_left, or_right}
use Rattle.theory.proofs.Checked.{node_count}
use Rattle.theory.proofs.Asked.{good_layout}
use Rattle.theory.proofs.SlotsAndPairs.{pair-outside, pair_same, pair_slot}
use Rattle.layout.proofs.questions.slot_of_pair.Goals as goal

pub returns-then-a-n : goal.returns-then-a-n
unfolding position_outside
returns-then-a-n c = sym (pair-outside c.args.n c.args.column_starts.now c.args.rows.now c.args.a c.args.b (sym c.in_ok-layout.ensures.fault) (elim c.then-a-n.either [
  | inl a ↦ or_left (leb c.args.n c.args.a) _ (le-leb _ _ a)
  | inr b ↦ or_right (leb c.args.n c.args.a) _ (or_left (leb c.args.n c.args.b) _ (le-leb _ _ b.1))
]))

pub returns-then-a-b : goal.returns-then-a-b
returns-then-a-b c = sym (pair_same c.args.n c.args.column_starts.now c.args.rows.now c.args.a c.args.b (sym c.in_ok-layout.ensures.fault) (omega arith) (omega arith) c.if-a-b.true)

-- a position has 16 bits
pub overflow_cast-max : goal.overflow_cast-max
overflow_cast-max c = omega (arith, node_count c.args.n (good_layout c.args.n c.args.column_starts.now c.args.rows.now (sym c.in_ok-layout.ensures.fault)).count)

pub returns : goal.returns
returns c =
    c.slot.ensures
    ∙ sym (rw (c.in_ok-layout.ensures.passed.1, c.in_ok-layout.ensures.passed.2) (pair_slot c.args.n c.args.column_starts.now c.args.rows.now c.args.a c.args.b (sym c.in_ok-layout.ensures.fault) (omega arith) (omega arith) _ _ c.if-a-b.false (sym c.max.ensures) (sym c.min.ensures)))
