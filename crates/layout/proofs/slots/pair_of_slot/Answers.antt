-- `layout::slots::pair_of_slot` meets its contract: its tests are the question's checks, and a slot that passes them has a pair.
use mathlib.Core.Path.{sym}
use native.Mathlib.Omega.{arith}
use Rattle.theory.proofs.SlotsAndPairs.{slot_outside_lem, slot_has_pair}
use Rattle.layout.proofs.slots.pair_of_slot.Goals as goal

pub returns-then-s-slots : goal.returns-then-s-slots
returns-then-s-slots c =
    let slots = rw (c.in_ok-layout.ensures.passed.0, c.in_ok-layout.ensures.passed.1) at c.slots.ensures in
    sym (slot_outside_lem c.args.n c.args.column_starts.now c.args.rows.now c.args.s (sym c.in_ok-layout.ensures.fault) (omega arith))

pub returns : goal.returns
returns c =
    let slots = rw (c.in_ok-layout.ensures.passed.0, c.in_ok-layout.ensures.passed.1) at c.slots.ensures in
    let pair = rw (c.in_ok-layout.ensures.passed.0, c.in_ok-layout.ensures.passed.1, c.in_ok-layout.ensures.passed.2) at c.pair.ensures in
    rw (pair.0, pair.1) (sym (slot_has_pair c.args.n c.args.column_starts.now c.args.rows.now c.args.s (sym c.in_ok-layout.ensures.fault) (omega arith)))
