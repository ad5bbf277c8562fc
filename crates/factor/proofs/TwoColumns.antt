-- The forward pass of a column and the next one at once, where the next is its first row and it otherwise has the same rows: what is subtracted for the
-- one column and for the other from different entries may be done in either order.
use mathlib.Core.Path.{◌≡◌, refl, sym, ap, ◌∙◌}
use mathlib.Core.Logic.{◌≢◌}
use mathlib.Core.Bool.{true}
use mathlib.Core.List.{List, [], ◌∷◌}
use Prim.Native.Nat.{ℕ, zero, suc, ◌+◌, ◌-◌, ◌≤◌, ◌<◌}
use native.Mathlib.Omega.{arith}
use borrow.Author.Tests.{eqb-true}
use lib.Dec.{eqb}
use lib.ListN.{length, get_or, set}
use lib.Seq.{get_or-set_same, get_or-set_other, set-set}
use lib.Ieee.{Float, nan, sub, mul, binary64}
use Rattle.plan.specs.Lists.{in_turn, up_from}
use Rattle.plan.specs.Filling.{slots_of}
use Rattle.plan.specs.Factoring.{less}
use Rattle.plan.specs.Solving.{less_row, forward_column}
use Rattle.theory.specs.Covering.{Covering}
use Rattle.theory.proofs.Bools.{and_left, and_right}
use Rattle.theory.proofs.FactorPlaces.{slot_inside, slot_row, slot_after, slot_later}
use Rattle.theory.proofs.Solving.{turn_next, turn_end, less_row_keeps}
use Rattle.factor.specs.Down.{continued}
use Rattle.factor.proofs.ColumnSteps.{twin_rows}

-- ---- two subtractions

set_comm : (y : List Float) (p q : ℕ) (u v : Float) → p ≢ q → set (set y q v) p u ≡ set (set y p u) q v
set_comm [] p q u v ne = refl
set_comm (a ∷ y) zero zero u v ne = absurd (ne refl)
set_comm (a ∷ y) zero (suc q) u v ne = refl
set_comm (a ∷ y) (suc p) zero u v ne = refl
set_comm (a ∷ y) (suc p) (suc q) u v ne = ap (λ (r : List Float). a ∷ r) (set_comm y p q u v (λ e. ne (ap suc e)))

-- a subtraction for any column leaves the entries before the row's
entry_stays : (rows : List ℕ) (l : List Float) (j s k : ℕ) (y : List Float) → k < get_or rows s 0 → get_or (less_row rows l j s y) k nan ≡ get_or y k nan
unfolding less_row less
entry_stays rows l j s k y lt = get_or-set_other y (get_or rows s 0) k _ nan (λ e. omega (arith, e, lt))

-- from different entries, none of which is a column's
less_swap : (rows : List ℕ) (l : List Float) (j s k t : ℕ) (y : List Float) → get_or rows s 0 ≢ get_or rows t 0 → j ≢ get_or rows t 0 → k ≢ get_or rows s 0
    → less_row rows l j s (less_row rows l k t y) ≡ less_row rows l k t (less_row rows l j s y)
unfolding less_row less
less_swap rows l j s k t y apart first second =
    let p : ℕ = get_or rows s 0 in
    let q : ℕ = get_or rows t 0 in
    let u : Float = sub binary64 (get_or y p nan) (mul binary64 (get_or l s nan) (get_or y j nan)) in
    let v : Float = sub binary64 (get_or y q nan) (mul binary64 (get_or l t nan) (get_or y k nan)) in
    let e₁ : get_or (set y q v) p nan ≡ get_or y p nan = get_or-set_other y q p v nan apart in
    let e₂ : get_or (set y q v) j nan ≡ get_or y j nan = get_or-set_other y q j v nan first in
    let e₃ : get_or (set y p u) q nan ≡ get_or y q nan = get_or-set_other y p q u nan (λ e. apart (sym e)) in
    let e₄ : get_or (set y p u) k nan ≡ get_or y k nan = get_or-set_other y p k u nan second in
    rw (e₁, e₂, e₃, e₄) (set_comm y p q u v apart)

-- a column that is followed by the next has a row, and so the next is a column too
pub next-inside : (n : ℕ) (starts rows : List ℕ) → Covering n starts rows → (j : ℕ) → j < n → continued starts rows j (j + 1) ≡ true → j + 1 < n
unfolding continued
next-inside n starts rows plan j lt follows =
    let from : ℕ = get_or starts j 0 in
    let many : get_or starts (j + 1) 0 - from ≡ get_or starts (j + 1 + 1) 0 - get_or starts (j + 1) 0 + 1 = eqb-true _ _ (and_right (eqb (get_or rows from 0) (j + 1)) _ follows) in
    omega (arith, slot_after n starts rows plan j lt from (omega arith) (omega (arith, many)))

-- Of what is left behind the first row of column j, the rows from slot s of that column and slot t of the next on are left. x and z are the columns'
-- entries.
pub record Both (starts rows : List ℕ) (l : List Float) (j : ℕ) (found : List Float) (s t : ℕ) (x z : Float) (y : List Float) : Type 0 where
  pub low : get_or starts j 0 < s
  pub high : s ≤ get_or starts (j + 1) 0
  pub beside : t + get_or starts j 0 + 1 ≡ s + get_or starts (j + 1) 0
  pub long : length y ≡ length found
  pub entry : x ≡ get_or y j nan
  pub entry_next : z ≡ get_or y (j + 1) nan
  pub same :
      in_turn (less_row rows l (j + 1)) (up_from t (get_or starts (j + 1 + 1) 0 - t)) (in_turn (less_row rows l j) (up_from s (get_or starts (j + 1) 0 - s)) y)
      ≡ in_turn (less_row rows l (j + 1)) (slots_of starts (j + 1)) (in_turn (less_row rows l j) (up_from (get_or starts j 0 + 1) (get_or starts (j + 1) 0 - (get_or starts j 0 + 1))) found)

module _ (n : ℕ) (starts rows : List ℕ) (plan : Covering n starts rows) (l : List Float) (j : ℕ) (next : j + 1 < n) (follows : continued starts rows j (j + 1) ≡ true) where
  abbrev from : ℕ
  from = get_or starts j 0

  abbrev to : ℕ
  to = get_or starts (j + 1) 0

  abbrev end : ℕ
  end = get_or starts (j + 1 + 1) 0

  abbrev first : j < n
  first = omega (arith, next)

  -- ---- the rows of both

  counts : to - from ≡ end - to + 1
  unfolding continued
  counts = eqb-true _ _ (and_right (eqb (get_or rows from 0) (j + 1)) _ follows)

  head : get_or rows from 0 ≡ j + 1
  unfolding continued
  head = eqb-true _ _ (and_left (eqb (get_or rows from 0) (j + 1)) _ follows)

  rising : to ≤ end
  rising = (slot_inside n starts rows plan (j + 1) next).0

  -- slot s of the one column and slot t of the other hold the same row
  same_row : (s t : ℕ) → from < s → s < to → t + from + 1 ≡ s + to → get_or rows s 0 ≡ get_or rows t 0
  same_row s t low high beside =
      let one : s - from ≡ suc (t - to) = omega (arith, beside, low) in
      slot_row n starts rows plan j first s (omega (arith, low)) high
      ∙ rw (twin_rows n starts rows plan j (j + 1) first next follows, one)
      (sym (slot_row n starts rows plan (j + 1) next t (omega (arith, beside, low)) (omega (arith, beside, high, counts, rising))))

  -- it is later than both columns
  row-later : (s : ℕ) → from < s → s < to → j + 1 < get_or rows s 0
  row-later s low high = omega (arith, head, slot_later n starts rows plan j first from s (omega arith) low high)

  -- ---- a row's entry at once for both

  abbrev one : ℕ → List Float → List Float
  one = less_row rows l j

  abbrev other : ℕ → List Float → List Float
  other = less_row rows l (j + 1)

  -- what is subtracted for the other column at slot t may be subtracted before the rows of the one column behind
  swap_past : (m s t : ℕ) (y : List Float) → from < s → s + m ≤ to → ((r : ℕ) → s ≤ r → r < to → get_or rows t 0 < get_or rows r 0) → j < get_or rows t 0
      → other t (in_turn one (up_from s m) y) ≡ in_turn one (up_from s m) (other t y)
  swap_past zero s t y low room above over = refl
  swap_past (suc m) s t y low room above over =
      swap_past m (suc s) t (one s y) (omega (arith, low)) (omega (arith, room)) (λ r le lt. above r (omega (arith, le)) lt) over
      ∙ ap (in_turn one (up_from (suc s) m))
      (less_swap rows l (j + 1) t j s y (λ e. omega (arith, e, above s (omega arith) (omega (arith, room)))) (λ e. omega (arith, e, row-later s low (omega (arith, room)))) (λ e. omega (arith, e, over)))

  -- the first row of the one column is the other
  first-row : (y : List Float) → one from y ≡ set y (j + 1) (sub binary64 (get_or y (j + 1) nan) (mul binary64 (get_or l from nan) (get_or y j nan)))
  unfolding less_row less
  first-row y = rw head

  -- the other's entry behind it
  abbrev pub entry_less : List Float → Float
  entry_less found = sub binary64 (get_or found (j + 1) nan) (mul binary64 (get_or l from nan) (get_or found j nan))

  pub both-begins : (found : List Float) → length found ≡ n →
      let y : List Float = set found (j + 1) (entry_less found) in
      Both starts rows l j y (from + 1) to (get_or found j nan) (entry_less found) y
  unfolding slots_of
  both-begins found long = record {
    low = omega arith;
    high = omega (arith, counts);
    beside = omega arith;
    long = refl;
    entry = sym (get_or-set_other found (j + 1) j (entry_less found) nan (λ e. omega (arith, e)));
    entry_next = sym (get_or-set_same found (j + 1) (entry_less found) nan (omega (arith, long, next)));
    same = refl;
  }

  -- both subtractions from a row's entry
  two_less : (y : List Float) (s t : ℕ) (x z : Float) → x ≡ get_or y j nan → z ≡ get_or y (j + 1) nan → get_or rows s 0 ≡ get_or rows t 0 → get_or rows t 0 < length y → j + 1 < get_or rows t 0 →
      let i : ℕ = get_or rows t 0 in
      set y i (sub binary64 (sub binary64 (get_or y i nan) (mul binary64 (get_or l s nan) x)) (mul binary64 (get_or l t nan) z)) ≡ other t (one s y)
  unfolding less_row less
  two_less y s t x z entry entry_next row inside later =
      let i : ℕ = get_or rows t 0 in
      let u : Float = sub binary64 (get_or y i nan) (mul binary64 (get_or l s nan) (get_or y j nan)) in
      let e₁ : get_or (set y i u) i nan ≡ u = get_or-set_same y i u nan inside in
      let e₂ : get_or (set y i u) (j + 1) nan ≡ get_or y (j + 1) nan = get_or-set_other y i (j + 1) u nan (λ e. omega (arith, e, later)) in
      rw (entry, entry_next, row, e₁, e₂) (sym (set-set y i u _))

  -- one more row
  pub both-steps : (found y : List Float) (s t : ℕ) (x z : Float) → length found ≡ n → Both starts rows l j found s t x z y → s < to →
      let i : ℕ = get_or rows t 0 in
      Both starts rows l j found (s + 1) (t + 1) x z (set y i (sub binary64 (sub binary64 (get_or y i nan) (mul binary64 (get_or l s nan) x)) (mul binary64 (get_or l t nan) z)))
  both-steps found y s t x z long h lt =
      let row : get_or rows s 0 ≡ get_or rows t 0 = same_row s t h.low lt h.beside in
      let later : j + 1 < get_or rows t 0 = omega (arith, row, row-later s h.low lt) in
      let inside : get_or rows t 0 < length y = omega (arith, row, h.long, long, slot_after n starts rows plan j first s (omega (arith, h.low)) lt) in
      let above : (r : ℕ) → s + 1 ≤ r → r < to → get_or rows t 0 < get_or rows r 0 =
      λ r le rt. omega (arith, row, slot_later n starts rows plan j first s r (omega (arith, h.low)) (omega (arith, le)) rt) in
      let past = swap_past (to - (s + 1)) (s + 1) t (one s y) (omega (arith, h.low)) (omega (arith, lt)) above (omega (arith, later)) in
      rw (two_less y s t x z h.entry h.entry_next row inside later) (record {
        low = omega (arith, h.low);
        high = omega (arith, lt);
        beside = omega (arith, h.beside);
        long = less_row_keeps rows l (j + 1) t (one s y) ∙ less_row_keeps rows l j s y ∙ h.long;
        entry = h.entry ∙ sym (entry_stays rows l (j + 1) t j (one s y) (omega (arith, later)) ∙ entry_stays rows l j s j y (omega (arith, row, later)));
        entry_next = h.entry_next ∙ sym (entry_stays rows l (j + 1) t (j + 1) (one s y) later ∙ entry_stays rows l j s (j + 1) y (omega (arith, row, later)));
        same =
            ap (in_turn other (up_from (t + 1) (end - (t + 1)))) (sym past)
            ∙ sym (turn_next other t end (in_turn one (up_from (s + 1) (to - (s + 1))) (one s y)) (omega (arith, h.beside, lt, counts, rising)))
            ∙ ap (in_turn other (up_from t (end - t))) (sym (turn_next one s to y lt))
            ∙ h.same;
      })

  pub both_ends : (found y : List Float) (s t : ℕ) (x z : Float) → Both starts rows l j (set found (j + 1) (entry_less found)) s t x z y → to ≤ s
      → y ≡ forward_column starts rows l (j + 1) (forward_column starts rows l j found)
  unfolding forward_column slots_of
  both_ends found y s t x z h le =
      sym (turn_end other t end (in_turn one (up_from s (to - s)) y) (omega (arith, h.beside, h.high, le, counts, rising)) ∙ turn_end one s to y le)
      ∙ h.same
      ∙ ap (in_turn other (up_from to (end - to)))
      (ap (in_turn one (up_from (from + 1) (to - (from + 1)))) (sym (first-row found)) ∙ sym (turn_next one from to found (omega (arith, counts))))

  -- both slots are slots of the plan, and so is their row an entry
  pub both-inside : (found y : List Float) (s t : ℕ) (x z : Float) → length found ≡ n → Both starts rows l j found s t x z y → s < to
      → (s < length rows) × (t < length rows) × (get_or rows t 0 < length y)
  both-inside found y s t x z long h lt =
      let slots = slot_inside n starts rows plan j first in
      let slotsNext = slot_inside n starts rows plan (j + 1) next in
      let row = slot_after n starts rows plan j first s (omega (arith, h.low)) lt in (
        omega (arith, lt, slots),
        omega (arith, lt, h.beside, counts, slotsNext),
        omega (arith, row, same_row s t h.low lt h.beside, h.long, long),
      )

  -- column j has a row
  pub has-row : from < to
  has-row = omega (arith, counts)

  -- the first slot is one
  pub first-inside : from < length rows
  first-inside = omega (arith, counts, slot_inside n starts rows plan j first)
