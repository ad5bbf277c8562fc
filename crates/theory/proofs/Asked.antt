-- The checks of a question over a layout: 1 and 22 look at the layout, 21 at the positions that are asked about, 27 at the slot.
use mathlib.Core.Path.{◌≡◌, refl, sym, ◌∙◌}
use mathlib.Core.Logic.{◌≢◌}
use mathlib.Core.Bool.{Bool, true, false, ◌||◌}
use mathlib.Core.List.{List, [], ◌++◌}
use Prim.Native.Nat.{ℕ, ◌≤◌, ◌<◌}
use native.Mathlib.Omega.{arith}
use lib.Dec.{leb, ltb}
use lib.ListN.{length, get_or}
use borrow.Author.Tests.{ltb-false, leb-false, le-leb, lt-leb}
use Rattle.plan.specs.Lists.{is_in}
use Rattle.plan.specs.Refusals.{Checks, first_fault}
use Rattle.plan.specs.Mesh.{bad_node_count, bad_starts}
use Rattle.plan.specs.File.{bad_columns}
use Rattle.plan.specs.Questions.{bad_layout, layout_checks, position_outside, position_checks, question_checks, slot_outside, slot_checks}
use Rattle.theory.proofs.Bools.{or_false_left, or_false_right}
use Rattle.theory.proofs.Lists.{exists-none}
use Rattle.theory.proofs.Refusals.{first_nil, no_fault, no_fault_first, fault_here, fault_later, first_some, first-none}

-- a layout that checks 1 and 22 pass: its starts, their last, and the columns
pub record GoodLayout (n : ℕ) (column_starts rows : List ℕ) : Type 0 where
  pub count : bad_node_count n ≡ false
  pub starts : bad_starts n column_starts ≡ false
  pub last : get_or column_starts n 0 ≤ length rows
  pub columns : bad_columns n column_starts rows ≡ false

module _ (n : ℕ) (column_starts rows : List ℕ) where
  -- where they find no fault, neither of them does
  layout_clear : first_fault (layout_checks n column_starts rows) ≡ 0 → (bad_node_count n ≡ false) × (bad_layout n column_starts rows ≡ false)
  unfolding layout_checks
  layout_clear h =
      let c1 = no_fault 1 (bad_node_count n) _ (omega arith) h in
      let c2 = no_fault 22 (bad_layout n column_starts rows) _ (omega arith) c1.1 in
      (c1.0, c2.0)

  pub good_layout : first_fault (layout_checks n column_starts rows) ≡ 0 → GoodLayout n column_starts rows
  unfolding bad_layout
  good_layout h =
      let c = layout_clear h in
      let beyond : Bool = ltb (length rows) (get_or column_starts n 0) in
      let both : (bad_starts n column_starts || beyond) ≡ false = or_false_left (bad_starts n column_starts || beyond) _ c.1 in
      record {
        count = c.0;
        starts = or_false_left (bad_starts n column_starts) _ both;
        last = ltb-false (length rows) (get_or column_starts n 0) (or_false_right (bad_starts n column_starts) _ both);
        columns = or_false_right (bad_starts n column_starts || beyond) _ c.1;
      }

  -- a layout without a fault leaves the checks behind its own
  layout_passed : (behind : Checks) → first_fault (layout_checks n column_starts rows) ≡ 0 → first_fault (layout_checks n column_starts rows ++ behind) ≡ first_fault behind
  layout_passed behind h = first-none (layout_checks n column_starts rows) behind (unfold layout_checks in refl) h

  module _ (asked : List ℕ) where
    -- a fault of the layout is the question's
    pub layout_fault : first_fault (layout_checks n column_starts rows) ≢ 0 → first_fault (question_checks n column_starts rows asked) ≡ first_fault (layout_checks n column_starts rows)
    unfolding question_checks
    layout_fault h = first_some (layout_checks n column_starts rows) (position_checks n asked) h

    -- a layout without one leaves the positions
    positions-left : first_fault (layout_checks n column_starts rows) ≡ 0 → first_fault (question_checks n column_starts rows asked) ≡ first_fault (position_checks n asked)
    unfolding question_checks
    positions-left h = layout_passed (position_checks n asked) h

    -- of which one is n or more
    pub position_fault : first_fault (layout_checks n column_starts rows) ≡ 0 → position_outside n asked ≡ true → first_fault (question_checks n column_starts rows asked) ≡ 21
    unfolding position_checks
    position_fault h outside = positions-left h ∙ fault_here 21 (position_outside n asked) [] outside

    -- or none is
    pub no_question_fault : first_fault (layout_checks n column_starts rows) ≡ 0 → position_outside n asked ≡ false → first_fault (question_checks n column_starts rows asked) ≡ 0
    unfolding position_checks
    no_question_fault h inside = positions-left h ∙ fault_later 21 (position_outside n asked) [] inside ∙ first_nil

    -- positions without a fault are below n
    positions-below : first_fault (position_checks n asked) ≡ 0 → (x : ℕ) → is_in x asked ≡ true → x < n
    unfolding position_checks position_outside
    positions-below h x m = leb-false n x (exists-none (leb n) asked (no_fault 21 (position_outside n asked) [] (omega arith) h).0 x m)

    -- a question without a fault: its layout has none, and its positions are below n
    pub good_question : first_fault (question_checks n column_starts rows asked) ≡ 0 → (first_fault (layout_checks n column_starts rows) ≡ 0) × ((x : ℕ) → is_in x asked ≡ true → x < n)
    good_question h =
        let clear : first_fault (layout_checks n column_starts rows) ≡ 0 = unfold question_checks in no_fault_first (layout_checks n column_starts rows) (position_checks n asked) h in
        (clear, positions-below (sym (positions-left clear) ∙ h))

  module _ (s : ℕ) where
    -- the same of a slot: a fault of the layout is the question's
    pub layout_fault_slot : first_fault (layout_checks n column_starts rows) ≢ 0 → first_fault (slot_checks n column_starts rows s) ≡ first_fault (layout_checks n column_starts rows)
    unfolding slot_checks
    layout_fault_slot h = first_some (layout_checks n column_starts rows) _ h

    module _ (h : first_fault (layout_checks n column_starts rows) ≡ 0) where
      -- there is none, and the slot's number is not below the number of slots
      pub slot_fault : get_or column_starts n 0 ≤ s → first_fault (slot_checks n column_starts rows s) ≡ 27
      unfolding slot_checks slot_outside
      slot_fault le = layout_passed _ h ∙ fault_here 27 (slot_outside n column_starts s) [] (le-leb (get_or column_starts n 0) s le)

      -- or it is
      pub no_slot_fault : s < get_or column_starts n 0 → first_fault (slot_checks n column_starts rows s) ≡ 0
      unfolding slot_checks slot_outside
      no_slot_fault lt = layout_passed _ h ∙ fault_later 27 (slot_outside n column_starts s) [] (lt-leb (get_or column_starts n 0) s lt) ∙ first_nil

    -- a question about a slot without a fault: its layout has none, and the slot is one of those that there are
    pub good_slot : first_fault (slot_checks n column_starts rows s) ≡ 0 → (first_fault (layout_checks n column_starts rows) ≡ 0) × (s < get_or column_starts n 0)
    unfolding slot_checks slot_outside
    good_slot h =
        let clear : first_fault (layout_checks n column_starts rows) ≡ 0 = no_fault_first (layout_checks n column_starts rows) _ h in
        (clear, leb-false (get_or column_starts n 0) s (no_fault 27 (slot_outside n column_starts s) [] (omega arith) (sym (layout_passed _ clear) ∙ h)).0)
