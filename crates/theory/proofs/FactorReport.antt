-- E8: a finished report gives the smallest and the largest of the pivots, which stand on the diagonal at the end.
use mathlib.Core.Path.{◌≡◌, refl, sym, ◌∙◌}
use mathlib.Core.Logic.{inl, inr}
use mathlib.Core.Bool.{Bool, true, false, cond, false≢true}
use mathlib.Core.List.{List}
use Prim.Native.Nat.{ℕ, zero, suc, ◌+◌, ◌*◌, ◌≤◌, ◌<◌}
use native.Mathlib.Omega.{arith}
use lib.Dec.{ltb}
use lib.ListN.{get_or}
use lib.Ieee.{Float, nan, inf, fin, lt, of_bits, binary64, up, down}
use lib.Ieee.Positive.{positive, num, den, den_pos, through}
use lib.Ieee.Fits.{up_pos}
use native.Mathlib.Nat.{zero-mul, mul-pos}
use borrow.Author.Tests.{ltb-true, ltb-false, lt-ltb, le-ltb}
use Rattle.plan.specs.Refusals.{first_fault}
use Rattle.plan.specs.Writing.{used, supplied_checks}
use Rattle.plan.specs.Filling.{Filling}
use Rattle.plan.specs.Factoring.{factor_column, column_operations, after_column, open_report, FactorOutcome, not_factored, factor_from, factor_checks, factor_out, factoring}
use Rattle.plan.specs.FactorStatements.{Extremes, ReportsExtremes}
use Rattle.plan.specs.declared.Report.{Report}
use Rattle.theory.specs.Covering.{Covering}
use Rattle.theory.proofs.Bools.{cond_true, eq_or_ne}
use Rattle.theory.proofs.Factoring.{supplied_covering, supplied_some, factor_passed}
use Rattle.theory.proofs.FactorHeld.{column-diagonal}

-- the order of pivots is that of fractions
pivot_lt : (x y : Float) → positive x ≡ true → positive y ≡ true → lt x y ≡ ltb (num x * den y) (num y * den x)
unfolding lt
pivot_lt nan y p q = absurd (false≢true p)
pivot_lt (inf s) y p q = absurd (false≢true p)
pivot_lt (fin true m e) y p q = absurd (false≢true p)
pivot_lt (fin false m e) nan p q = absurd (false≢true q)
pivot_lt (fin false m e) (inf t) p q = absurd (false≢true q)
pivot_lt (fin false m e) (fin true k d) p q = absurd (false≢true q)
pivot_lt (fin false m e) (fin false k d) p q = refl

-- where z is not less than y, nor y than x, z is not less than x
not_less_lem : (x y z : Float) → positive x ≡ true → positive y ≡ true → positive z ≡ true → lt y x ≡ false → lt z y ≡ false → lt z x ≡ false
not_less_lem x y z p q r yx zy =
    let xy : num x * den y ≤ num y * den x = ltb-false (num y * den x) (num x * den y) (sym (pivot_lt y x q p) ∙ yx) in
    let yz : num y * den z ≤ num z * den y = ltb-false (num z * den y) (num y * den z) (sym (pivot_lt z y r q) ∙ zy) in
    pivot_lt z x r p ∙ le-ltb (num z * den x) (num x * den z) (through (num x) (num y) (num z) (den x) (den y) (den z) (den_pos y) xy yz)

-- less one way is not less the other way
less_not : (x y : Float) → positive x ≡ true → positive y ≡ true → lt x y ≡ true → lt y x ≡ false
less_not x y p q h =
    let xy : num x * den y < num y * den x = ltb-true (num x * den y) (num y * den x) (sym (pivot_lt x y p q) ∙ h) in
    pivot_lt y x q p ∙ le-ltb (num y * den x) (num x * den y) (omega arith)

not_self : (x : Float) → positive x ≡ true → lt x x ≡ false
not_self x p = pivot_lt x x p p ∙ le-ltb (num x * den x) (num x * den x) (omega arith)

-- any pivot is below the infinity, and above zero
first_pivot : (d : Float) → positive d ≡ true → (lt d (inf false) ≡ true) × (lt (of_bits binary64 0) d ≡ true)
unfolding lt of_bits
first_pivot nan p = absurd (false≢true p)
first_pivot (inf s) p = absurd (false≢true p)
first_pivot (fin true m e) p = absurd (false≢true p)
first_pivot (fin false m e) p =
    let some : 0 < m = ltb-true 0 m p in
    let more : 0 < m * up e = mul-pos some (up_pos e) in
    (refl, lt-ltb (0 * down e) (m * up e * 1) (rw zero-mul (omega arith)))

-- the first pivot is both
extremes_first : (diagonal : List Float) → positive (get_or diagonal 0 nan) ≡ true → Extremes diagonal 1 (get_or diagonal 0 nan) (get_or diagonal 0 nan)
extremes_first diagonal p =
    let zero-only : (i : ℕ) → i < 1 → i ≡ 0 = λ i l. omega arith in
    record {
      pivots = λ i l. rw (zero-only i l) p;
      none_below = λ i l. rw (zero-only i l) (not_self (get_or diagonal 0 nan) p);
      none_above = λ i l. rw (zero-only i l) (not_self (get_or diagonal 0 nan) p);
      is_smallest = (0, omega arith, refl);
      is_largest = (0, omega arith, refl);
    }

-- one more pivot
extremes_more : (diagonal : List Float) (j : ℕ) (s g : Float) → Extremes diagonal j s g → (d : Float) → d ≡ get_or diagonal j nan → positive d ≡ true
    → Extremes diagonal (suc j) (cond (lt d s) d s) (cond (lt g d) d g)
extremes_more diagonal j s g h d e p =
    let small : positive s ≡ true = rw h.is_smallest.2 (h.pivots h.is_smallest.0 h.is_smallest.1) in
    let great : positive g ≡ true = rw h.is_largest.2 (h.pivots h.is_largest.0 h.is_largest.1) in
    record {
      pivots = λ i l. elim (eq_or_ne i j) [ inl f ↦ rw (f, ← e) p | inr ne ↦ h.pivots i (omega arith) ];
      none_below = λ i l. elim (eq_or_ne i j) [
        | inl f ↦ rw (f, ← e) (low (lt d s) refl)
        | inr ne ↦ low_old (get_or diagonal i nan) (h.pivots i (omega arith)) (h.none_below i (omega arith)) small (lt d s) refl
      ];
      none_above = λ i l. elim (eq_or_ne i j) [
        | inl f ↦ rw (f, ← e) (high (lt g d) refl)
        | inr ne ↦ high_old (get_or diagonal i nan) (h.pivots i (omega arith)) (h.none_above i (omega arith)) great (lt g d) refl
      ];
      is_smallest = one (lt d s) s h.is_smallest;
      is_largest = one (lt g d) g h.is_largest;
    }
  where
    low : (b : Bool) → lt d s ≡ b → lt d (cond b d s) ≡ false
    low true f = not_self d p
    low false f = f

    high : (b : Bool) → lt g d ≡ b → lt (cond b d g) d ≡ false
    high true f = not_self d p
    high false f = f

    low_old : (x : Float) → positive x ≡ true → lt x s ≡ false → positive s ≡ true → (b : Bool) → lt d s ≡ b → lt x (cond b d s) ≡ false
    low_old x q old ps true f = not_less_lem d s x p ps q (less_not d s p ps f) old
    low_old x q old ps false f = old

    high_old : (x : Float) → positive x ≡ true → lt g x ≡ false → positive g ≡ true → (b : Bool) → lt g d ≡ b → lt (cond b d g) x ≡ false
    high_old x q old pg true f = not_less_lem x g d q pg p old (less_not g d pg p f)
    high_old x q old pg false f = old

    one : (b : Bool) (x : Float) → (a : ℕ) × (a < j) × (x ≡ get_or diagonal a nan) → (a : ℕ) × (a < suc j) × (cond b d x ≡ get_or diagonal a nan)
    one true x k = (j, omega arith, e)
    one false x k = (k.0, omega (arith, k.1), k.2)

-- a diagonal that begins alike
extremes_same : (d e : List Float) (j : ℕ) (s g : Float) → ((i : ℕ) → i < j → get_or e i nan ≡ get_or d i nan) → Extremes d j s g → Extremes e j s g
extremes_same d e j s g alike h = record {
  pivots = λ i l. rw (alike i l) (h.pivots i l);
  none_below = λ i l. rw (alike i l) (h.none_below i l);
  none_above = λ i l. rw (alike i l) (h.none_above i l);
  is_smallest = (h.is_smallest.0, h.is_smallest.1, h.is_smallest.2 ∙ sym (alike h.is_smallest.0 h.is_smallest.1));
  is_largest = (h.is_largest.0, h.is_largest.1, h.is_largest.2 ∙ sym (alike h.is_largest.0 h.is_largest.1));
}

module _ (n : ℕ) (starts rows : List ℕ) (plan : Covering n starts rows) where
  -- the columns from j on, j being above 0
  extremes_from : (left j : ℕ) → j + left ≤ n → (r : Report) (f : Filling) → Extremes f.diagonal j r.smallest r.largest →
      let o : FactorOutcome = factor_from starts rows j left r f in
      o.answer.refusal ≡ 0 → Extremes o.filling.diagonal (j + left) o.answer.report.smallest o.answer.report.largest
  unfolding factor_from after_column
  extremes_from zero j room r f h e = let same : j + 0 ≡ j = omega arith in rw same h
  extremes_from (suc left) j room r f h e = go (positive d) refl e (extremes_from left (suc j) (omega arith) (after_column r d (column_operations starts j)) g)
    where
      d : Float
      d = get_or f.diagonal j nan

      g : Filling
      g = factor_column starts rows j d f

      next : FactorOutcome
      next = factor_from starts rows (suc j) left (after_column r d (column_operations starts j)) g

      go : (b : Bool) → positive d ≡ b → (cond b next (not_factored 31 f)).answer.refusal ≡ 0
          → (Extremes g.diagonal (suc j) (cond (lt d r.smallest) d r.smallest) (cond (lt r.largest d) d r.largest) → next.answer.refusal ≡ 0
          → Extremes next.filling.diagonal (suc j + left) next.answer.report.smallest next.answer.report.largest)
          → Extremes (cond b next (not_factored 31 f)).filling.diagonal (j + suc left) (cond b next (not_factored 31 f)).answer.report.smallest (cond b next (not_factored 31 f)).answer.report.largest
      go true p e ih =
          let count : j + suc left ≡ suc j + left = omega arith in
          rw count
          (ih (extremes_same f.diagonal g.diagonal (suc j) _ _ (λ i l. column-diagonal n starts rows plan j (omega arith) d f i (omega arith))
          (extremes_more f.diagonal j r.smallest r.largest h d refl p)) e)
      go false p e ih = absurd (omega (arith, e))

  -- E8: "a report of the smallest and the largest pivot": of all columns, where none is refused
  pub report_extremes : 0 < n → (f : Filling) →
      let o : FactorOutcome = factor_from starts rows 0 n open_report f in
      o.answer.refusal ≡ 0 → Extremes o.filling.diagonal n o.answer.report.smallest o.answer.report.largest
  report_extremes some f e = all n refl some e
    where
      d : Float
      d = get_or f.diagonal 0 nan

      g : Filling
      g = factor_column starts rows 0 d f

      r : Report
      r = after_column open_report d (column_operations starts 0)

      first : 0 < n → positive d ≡ true → Extremes g.diagonal 1 r.smallest r.largest
      first some p =
          let k = first_pivot d p in
          let low : r.smallest ≡ d = unfold after_column in cond_true (lt d (inf false)) d (inf false) k.0 in
          let high : r.largest ≡ d = unfold after_column in cond_true (lt (of_bits binary64 0) d) d (of_bits binary64 0) k.1 in
          rw (low, high)
          (extremes_same f.diagonal g.diagonal 1 d d (λ i l. column-diagonal n starts rows plan 0 some d f i (omega arith)) (extremes_first f.diagonal p))

      opened : (left : ℕ) → factor_from starts rows 0 (suc left) open_report f ≡ cond (positive d) (factor_from starts rows 1 left r g) (not_factored 31 f)
      opened left = unfold factor_from in refl

      pick : (left : ℕ) → suc left ≡ n → (b : Bool) → positive d ≡ b →
          let o : FactorOutcome = cond b (factor_from starts rows 1 left r g) (not_factored 31 f) in
          o.answer.refusal ≡ 0 → Extremes o.filling.diagonal (suc left) o.answer.report.smallest o.answer.report.largest
      pick left m true p e =
          let count : suc left ≡ 1 + left = omega arith in
          rw count (extremes_from left 1 (omega arith) r g (first (omega arith) p) e)
      pick left m false p e = absurd (omega (arith, e))

      all : (m : ℕ) → m ≡ n → 0 < m →
          let o : FactorOutcome = factor_from starts rows 0 m open_report f in
          o.answer.refusal ≡ 0 → Extremes o.filling.diagonal m o.answer.report.smallest o.answer.report.largest
      all zero m some e = absurd (omega arith)
      all (suc left) m some e = rw (opened left) (pick left m (positive d) refl (rw (opened left) at e))

-- "a report of the smallest and the largest pivot"
pub reports_extremes : ReportsExtremes
unfolding factoring factor_out
reports_extremes c f h = go (first_fault (factor_checks c f)) refl h
  where
    go : (k : ℕ) → first_fault (factor_checks c f) ≡ k → (factor_out k c f).answer.refusal ≡ 0
        → Extremes (factor_out k c f).filling.diagonal c.nodes (factor_out k c f).answer.report.smallest (factor_out k c f).answer.report.largest
    go zero none e =
        let passed : first_fault (supplied_checks c) ≡ 0 = (factor_passed c f none).supplied in
        report_extremes c.nodes (used c).column_starts (used c).rows (supplied_covering c passed) (supplied_some c passed) f e
    go (suc k) none e = absurd (omega (arith, e))
