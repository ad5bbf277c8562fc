-- The loops of the passes: what is left to do, done to the vector as it is, gives what all of it gives.
use mathlib.Core.Path.{◌≡◌, refl, sym, ap, ◌∙◌}
use mathlib.Core.List.{List}
use Prim.Native.Nat.{ℕ, zero, suc, ◌+◌, ◌-◌, ◌≤◌, ◌<◌}
use native.Mathlib.Omega.{arith}
use lib.ListN.{length, get_or, set, drop, length-drop, length-take}
use lib.Seq.{set-get_or, get_or-take, get_or-drop}
use denote.Ref.{Bor}
use Rattle.std.proofs.Common.{Iter}
use Rattle.std.specs.declared.iter.Zip.{Zip}
use Rattle.std.specs.Iterator.{Yields}
use Rattle.std.specs.Iterator.Adapters.{zip_first, zip_second}
use Rattle.std.specs.Slice.Iter.{iter_rest}
use Rattle.std.proofs.iter.Yields.{fronts}
use Rattle.std.proofs.lemmas.Iterator.{zips}
use Rattle.std.proofs.lemmas.Slice.Zip.{zip_turn, zip_end}
use Rattle.std.specs.Prelude.{Option, Some, None}
use lib.Ieee.{Float, nan, sub, mul, binary64}
use Rattle.plan.specs.Lists.{segment, in_turn, up_from, below, down_from}
use Rattle.plan.specs.Filling.{slots_of}
use Rattle.plan.specs.Factoring.{less}
use Rattle.plan.specs.Solving.{less_row, less_column, backward_column}
use Rattle.theory.specs.Covering.{Covering}
use Rattle.theory.proofs.FactorPlaces.{slot_inside, slot_after}
use Rattle.theory.proofs.Solving.{Keeping, turn_next, turn_end, less_row_keeps, less_row_entry, less_column_entry}

-- ---- ascending

pub record Turning (rule : ℕ → List Float → List Float) (from to : ℕ) (found : List Float) (s : ℕ) (y : List Float) : Type 0 where
  pub low : from ≤ s
  pub high : s ≤ to
  pub long : length y ≡ length found
  pub same : in_turn rule (up_from s (to - s)) y ≡ in_turn rule (up_from from (to - from)) found

module _ (rule : ℕ → List Float → List Float) (from to : ℕ) (found : List Float) where
  pub turning_begins : from ≤ to → Turning rule from to found from found
  turning_begins le = record { low = omega arith; high = le; long = refl; same = refl }

  pub turning_steps : Keeping rule → (s : ℕ) (y : List Float) → Turning rule from to found s y → s < to → Turning rule from to found (s + 1) (rule s y)
  turning_steps keeps s y h lt = record {
    low = omega (arith, h.low);
    high = omega (arith, lt);
    long = keeps s y ∙ h.long;
    same = sym (turn_next rule s to y lt) ∙ h.same;
  }

  -- two at once
  pub turning_steps_two : Keeping rule → (s : ℕ) (y : List Float) → Turning rule from to found s y → s + 1 < to → Turning rule from to found (s + 2) (rule (s + 1) (rule s y))
  turning_steps_two keeps s y h lt =
      let both : s + 2 ≡ s + 1 + 1 = omega arith in
      rw both (turning_steps keeps (s + 1) (rule s y) (turning_steps keeps s y h (omega (arith, lt))) lt)

  pub turning_ends : (s : ℕ) (y : List Float) → Turning rule from to found s y → to ≤ s → y ≡ in_turn rule (up_from from (to - from)) found
  turning_ends s y h le = sym (turn_end rule s to y le) ∙ h.same

-- from 0 on
pub turned : (rule : ℕ → List Float → List Float) (n : ℕ) (found : List Float) (s : ℕ) (y : List Float) → Turning rule 0 n found s y → n ≤ s → y ≡ in_turn rule (below n) found
turned rule n found s y h le = let whole : n - 0 ≡ n = omega arith in turning_ends rule 0 n found s y h le ∙ ap (λ (k : ℕ). in_turn rule (up_from 0 k) found) whole

-- ---- descending

-- columns from n - 1 down to j are done
pub record Descending (rule : ℕ → List Float → List Float) (n : ℕ) (found : List Float) (j : ℕ) (y : List Float) : Type 0 where
  pub high : j ≤ n
  pub long : length y ≡ length found
  pub same : in_turn rule (down_from j) y ≡ in_turn rule (down_from n) found

module _ (rule : ℕ → List Float → List Float) (n : ℕ) (found : List Float) where
  pub descending_begins : Descending rule n found n found
  descending_begins = record { high = omega arith; long = refl; same = refl }

  pub descending_steps : Keeping rule → (j : ℕ) (y : List Float) → Descending rule n found j y → 0 < j → Descending rule n found (j - 1) (rule (j - 1) y)
  descending_steps keeps zero y h lt = absurd (omega arith)
  descending_steps keeps (suc j) y h lt =
      let before : suc j - 1 ≡ j = omega arith in
      rw before (record { high = omega (arith, h.high); long = keeps j y ∙ h.long; same = h.same })

  pub descending_ends : (j : ℕ) (y : List Float) → Descending rule n found j y → j ≤ 0 → y ≡ in_turn rule (down_from n) found
  descending_ends zero y h le = h.same
  descending_ends (suc j) y h le = absurd (omega arith)

-- ---- the rows in some slots side by side with their values

module _ (rows : List ℕ) (l : List Float) (from to : ℕ) (y : List (Bor ℕ × Bor Float)) (s t u : Zip (Iter ℕ) (Iter Float)) (r : Option (Bor ℕ × Bor Float))
    (begin : iter_rest (zip_first s) ≡ segment rows from to) (begin_values : iter_rest (zip_second s) ≡ segment l from to) (before : Yields (zips fronts fronts) s y t) where
  -- a turn takes the next slot
  pub slot_turn : (p : Bor ℕ × Bor Float) → r ≡ Some p → zips fronts fronts t r u
      → (from + length y < to) × (p.0.now ≡ get_or rows (from + length y) 0) × (p.1.now ≡ get_or l (from + length y) nan)
  slot_turn p e h =
      let place = zip_turn (segment rows from to) (segment l from to) y s t u r begin begin_values before p e h in
      let few : length y < to - from = omega (arith, place.0, length-take (to - from) (drop from rows)) in (
        omega (arith, few),
        place.2 0 ∙ get_or-take (to - from) (drop from rows) (length y) 0 few ∙ get_or-drop from rows (length y) 0,
        place.3 nan ∙ get_or-take (to - from) (drop from l) (length y) nan few ∙ get_or-drop from l (length y) nan,
      )

  -- where there is no turn, none is left
  pub slots_end : to ≤ length rows → to ≤ length l → r ≡ None → zips fronts fronts t r u → to ≤ from + length y
  slots_end inside inside_values e h =
      let all = zip_end (segment rows from to) (segment l from to) y s t u r begin begin_values before e h in
      omega (arith, all, length-take (to - from) (drop from rows), length-take (to - from) (drop from l), length-drop from rows, length-drop from l)

-- ---- one column, whose entry x is kept beside the vector

-- backward: with x in its place, the rows from slot s on give what all rows give
pub record Summing (starts rows : List ℕ) (l : List Float) (j : ℕ) (found : List Float) (s : ℕ) (x : Float) : Type 0 where
  pub low : get_or starts j 0 ≤ s
  pub high : s ≤ get_or starts (j + 1) 0
  pub same : in_turn (less_column rows l j) (up_from s (get_or starts (j + 1) 0 - s)) (set found j x) ≡ backward_column starts rows l j found

module _ (n : ℕ) (starts rows : List ℕ) (plan : Covering n starts rows) (l : List Float) (j : ℕ) (column : j < n) where
  abbrev from : ℕ
  from = get_or starts j 0

  abbrev to : ℕ
  to = get_or starts (j + 1) 0

  -- forward: the entry is as it was
  pub row-steps : (found y : List Float) (s : ℕ) (x : Float) → Turning (less_row rows l j) from to found s y → x ≡ get_or y j nan → s < to →
      let next : List Float = set y (get_or rows s 0) (sub binary64 (get_or y (get_or rows s 0) nan) (mul binary64 (get_or l s nan) x)) in
      Turning (less_row rows l j) from to found (s + 1) next × (x ≡ get_or next j nan)
  unfolding less_row less
  row-steps found y s x h entry lt =
      let stays = less_row_entry rows l j s y (slot_after n starts rows plan j column s h.low lt).0 in
      rw entry (turning_steps (less_row rows l j) from to found (less_row_keeps rows l j) s y h lt, sym stays)

  -- backward
  pub summing_begins : (found : List Float) → Summing starts rows l j found from (get_or found j nan)
  unfolding backward_column slots_of
  summing_begins found = record {
    low = omega arith;
    high = (slot_inside n starts rows plan j column).0;
    same = rw (set-get_or found j nan);
  }

  pub summing_steps : (found : List Float) (s : ℕ) (x : Float) → j < length found → Summing starts rows l j found s x → s < to
      → Summing starts rows l j found (s + 1) (sub binary64 x (mul binary64 (get_or l s nan) (get_or found (get_or rows s 0) nan)))
  summing_steps found s x inside h lt =
      let row = (slot_after n starts rows plan j column s h.low lt).0 in
      record {
        low = omega (arith, h.low);
        high = omega (arith, lt);
        same =
            ap (in_turn (less_column rows l j) (up_from (s + 1) (to - (s + 1)))) (sym (less_column_entry rows l j s found x inside row))
            ∙ sym (turn_next (less_column rows l j) s to (set found j x) lt)
            ∙ h.same;
      }

  pub summing_ends : (found : List Float) (s : ℕ) (x : Float) → Summing starts rows l j found s x → to ≤ s → set found j x ≡ backward_column starts rows l j found
  summing_ends found s x h le = sym (turn_end (less_column rows l j) s to (set found j x) le) ∙ h.same
