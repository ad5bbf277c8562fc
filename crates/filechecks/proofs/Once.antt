-- An order tried entry by entry, with a mark for each node met: it holds each node once where no entry lies outside and none is met again.
use mathlib.Core.Path.{◌≡◌, refl, ap}
use mathlib.Core.Logic.{◌≢◌, inl, inr}
use mathlib.Core.Bool.{true, not}
use mathlib.Core.List.{List}
use Prim.Native.Nat.{ℕ, ◌+◌, ◌≤◌, ◌<◌}
use native.Mathlib.Omega.{arith}
use lib.Dec.{eqb}
use lib.ListN.{length, get_or, take, set, length-set}
use lib.Seq.{get_or-set_same, get_or-set_other, take_all}
use borrow.Author.Tests.{eq-eqb, ne_eqb}
use Rattle.plan.specs.Lists.{occurrences, each_once, index_of}
use Rattle.theory.proofs.Bools.{refuted, eq_or_ne}
use Rattle.theory.proofs.Lists.{get_or-index_of, index_of_lt}
use Rattle.theory.proofs.Counting.{unit, count_more, count-front, count-once}
use Rattle.theory.proofs.Orders.{order-inside, passes-order, once-each}

-- of the first i entries none lies outside and none stands twice; the mark of a node is 1 where it is among them, 0 elsewhere
pub record Marked (order marks : List ℕ) (i : ℕ) : Type 0 where
  pub long : length order ≤ length marks
  pub inside : (k : ℕ) → k < i → get_or order k 0 < length order
  pub once : (v : ℕ) → v < length order → occurrences v (take i order) ≤ 1
  pub marked : (v : ℕ) → v < length order → get_or marks v 0 ≡ occurrences v (take i order)

module _ (order : List ℕ) where
  -- of no entries
  pub marked_none : (marks : List ℕ) → length order ≤ length marks → ((v : ℕ) → v < length order → get_or marks v 0 ≡ 0) → Marked order marks 0
  marked_none marks long none = record { long = long; inside = λ k l. absurd (omega arith); once = λ v l. omega arith; marked = none }

  -- all entries were tried
  pub marked_all : (marks : List ℕ) (i : ℕ) → length order ≤ i → Marked order marks i → each_once (length order) order ≡ true
  marked_all marks i le h = once-each order
      (λ x m. let lt : index_of x order < length order = index_of_lt order x m in omega (arith, get_or-index_of order x 0 lt, h.inside (index_of x order) (omega arith)))
      (λ v lt. rw (take_all i order le) at (h.once v lt))

  -- an entry that lies outside
  pub entry_outside : (i : ℕ) → i < length order → length order ≤ get_or order i 0 → not (each_once (length order) order) ≡ true
  entry_outside i lt out =
      let n : ℕ = length order in
      ap not (refuted (each_once n order) (λ t. omega (arith, order-inside n order (passes-order n order t) i lt)))

  module _ (marks : List ℕ) (i v : ℕ) (lt : i < length order) (h : Marked order marks i) (own : v ≡ get_or order i 0) (inside : v < length order) where
    -- a number occurs in one entry more as often as before, or once more
    more : (w : ℕ) → occurrences w (take (i + 1) order) ≡ occurrences w (take i order) + unit (eqb w v)
    more w = rw own (count_more (eqb w) order i lt)

    -- an entry that is met again
    pub entry_again : get_or marks v 0 ≡ 1 → not (each_once (length order) order) ≡ true
    entry_again e =
        let n : ℕ = length order in
        ap not (refuted (each_once n order) (λ t. omega (
          arith,
          h.marked v inside,
          more v,
          ap unit (eq-eqb v v refl),
          count-front (eqb v) order (i + 1),
          passes-order n order t (eqb v),
          count-once n 0 v (omega arith) (omega arith),
        )))

    -- one more entry is marked
    pub marked_more : get_or marks v 0 ≢ 1 → Marked order (set marks v 1) (i + 1)
    marked_more fresh = record {
      long = omega (arith, length-set marks v 1, h.long);
      inside = λ k l. elim (eq_or_ne k i) [ inl e ↦ omega (arith, ap (λ (j : ℕ). get_or order j 0) e) | inr e ↦ h.inside k (omega arith) ];
      once = λ w l. elim (eq_or_ne w v) [
        | inl e ↦ omega (arith, count_of w l e)
        | inr e ↦ omega (arith, more w, ap unit (ne_eqb w v e), h.once w l)
      ];
      marked = λ w l. elim (eq_or_ne w v) [
        | inl e ↦ omega (arith, count_of w l e, ap (λ (x : ℕ). get_or (set marks v 1) x 0) e, get_or-set_same marks v 1 0 (omega (arith, h.long)))
        | inr e ↦ omega (arith, more w, ap unit (ne_eqb w v e), h.marked w l, get_or-set_other marks v w 1 0 e)
      ];
    }
      where
        -- the entry was not there before
        count_of : (w : ℕ) → w < length order → w ≡ v → occurrences w (take (i + 1) order) ≡ 1
        count_of w l e = omega (arith, fresh, more w, ap unit (eq-eqb w v e), h.once w l, h.marked w l, ap (λ (x : ℕ). get_or marks x 0) e)
