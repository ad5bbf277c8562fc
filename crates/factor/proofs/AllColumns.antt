-- All columns: the pivot's test, the count of a column, and the columns from j on.
use mathlib.Core.Path.{◌≡◌, refl, sym, ap, ◌∙◌}
use mathlib.Core.Bool.{true, false}
use mathlib.Core.List.{List}
use Prim.Native.Nat.{ℕ, zero, suc, ◌+◌, ◌-◌, ◌*◌, ◌≤◌, ◌<◌}
use native.Mathlib.Nat.{zero-mul, mul-pos, mul-le-mul}
use native.Mathlib.Numerals.{add-one}
use native.Mathlib.Omega.{arith}
use lib.Dec.{ltb}
use lib.IntN.{ℤ}
use lib.ListN.{length, get_or}
use lib.Ieee.{Float, nan, inf, fin, lt, of_bits, binary64, up, down}
use lib.Ieee.Positive.{positive}
use lib.Ieee.Fits.{up_pos}
use borrow.Author.Tests.{lt-ltb}
use Rattle.plan.specs.Mesh.{max_nodes}
use Rattle.plan.specs.Filling.{Filling}
use Rattle.plan.specs.Factoring.{column_operations, after_column, open_report, FactorOutcome, factored, not_factored, factor_from}
use Rattle.plan.specs.declared.Report.{Report}
use Rattle.theory.specs.Covering.{Covering}
use Rattle.theory.proofs.Factoring.{column-planned}
use Rattle.factor.specs.Working.{Worked, Reached}
use Rattle.std.specs.Prelude.{Result, Ok, Err}
use Rattle.plan.specs.declared.refusal.Refusal.{Refusal}
use Rattle.plan.specs.declared.refusal.Refusal.TheVariants as refusal
use Rattle.factor.proofs.ColumnSteps.{column_fits}

zero_below : (m : ℕ) (x : ℤ) → lt (of_bits binary64 0) (fin false m x) ≡ ltb 0 m
unfolding lt of_bits
zero_below zero x = simp zero-mul
zero_below (suc m) x =
    let p : 0 < suc m * up x = mul-pos {m = suc m} (omega arith) (up_pos x) in
    lt-ltb (0 * down x) (suc m * up x * 1) (rw zero-mul (omega arith)) ∙ sym (lt-ltb 0 (suc m) (omega arith))

-- above zero and below the infinity is finite and above zero
pub positive-inside : (d : Float) → lt (of_bits binary64 0) d ≡ true → lt d (of_bits binary64 0x7ff0_0000_0000_0000) ≡ positive d
unfolding of_bits lt
positive-inside nan e = refl
positive-inside (inf true) e = sym e
positive-inside (inf false) e = refl
positive-inside (fin true m x) e = sym e
positive-inside (fin false m x) e = sym e ∙ zero_below m x

pub positive-outside : (d : Float) → lt (of_bits binary64 0) d ≡ false → lt (of_bits binary64 0) d ≡ positive d
unfolding lt of_bits
positive-outside nan e = e
positive-outside (inf s) e = e
positive-outside (fin true m x) e = e
positive-outside (fin false m x) e = zero_below m x

-- a product that fits
pub product_few : (c : ℕ) → c ≤ max_nodes → c * (c + 3) ≤ 4096 * 4099
product_few c le = let more : c + 3 ≤ 4099 = omega arith in mul-le-mul le more

-- a column's operations are few
pub operations_few : (n : ℕ) (starts rows : List ℕ) → Covering n starts rows → n ≤ max_nodes → (j : ℕ) → j < n → column_operations starts j ≤ 8394752
operations_few n starts rows h few j l =
    let m : ℕ = get_or starts (j + 1) 0 - get_or starts j 0 in
    let le : m ≤ 4096 = omega (arith, column_fits n starts rows h j l) in
    let more : m + 3 ≤ 4099 = omega arith in
    let product : m * (m + 3) ≤ 4096 * 4099 = mul-le-mul le more in
    omega (arith, column-planned starts j, product)

-- the columns from j on: one more, a refused pivot, none left
module _ (starts rows : List ℕ) (j n : ℕ) (r : Report) (diagonal values : List Float) where
  abbrev here : Filling
  here = record { diagonal = diagonal; values = values }

  abbrev pivot : Float
  pivot = get_or diagonal j nan

  pub from_next : j < n → positive pivot ≡ true → (diagonal' values' : List Float) → Worked starts rows j pivot diagonal values diagonal' values'
      → factor_from starts rows j (n - j) r here
      ≡ factor_from starts rows (j + 1) (n - (j + 1)) (after_column r pivot (column_operations starts j)) (record { diagonal = diagonal'; values = values' })
  unfolding factor_from
  from_next lt t diagonal' values' w =
      let e : n - j ≡ suc (n - (j + 1)) = omega arith in
      rw (e, t, w.diagonal_left, w.values_left, add-one)

  pub from_stop : j < n → positive pivot ≡ false → factor_from starts rows j (n - j) r here ≡ not_factored 31 here
  unfolding factor_from
  from_stop lt t = let e : n - j ≡ suc (n - (j + 1)) = omega arith in rw (e, t)

  pub from_end : n ≤ j → factor_from starts rows j (n - j) r here ≡ factored r here
  unfolding factor_from
  from_end ge = let e : n - j ≡ 0 = omega arith in rw e

-- What holds between two columns.
pub record Columns (starts rows : List ℕ) (diagonal₀ values₀ : List Float) (report₀ : Report) (diagonal values kept lower : List Float) (places : List ℕ) (report : Report) (j : ℕ) : Type 0 where
  pub high : j ≤ length diagonal₀
  pub long_diagonal : length diagonal ≡ length diagonal₀
  pub long_values : length values ≡ length values₀
  pub long_kept : length kept ≡ max_nodes
  pub long_lower : length lower ≡ max_nodes
  pub long_places : length places ≡ max_nodes
  pub few : report.operations ≤ j * 8394752
  pub same : factor_from starts rows 0 (length diagonal₀) report₀ (record { diagonal = diagonal₀; values = values₀ })
      ≡ factor_from starts rows j (length diagonal₀ - j) report (record { diagonal = diagonal; values = values })

module _ (starts rows : List ℕ) (diagonal₀ values₀ : List Float) (report₀ : Report) where
  abbrev n : ℕ
  n = length diagonal₀

  abbrev all : Report → FactorOutcome
  all r = factor_from starts rows 0 n r (record { diagonal = diagonal₀; values = values₀ })

  pub columns-begin : (kept lower : List Float) (places : List ℕ) → length kept ≡ max_nodes → length lower ≡ max_nodes → length places ≡ max_nodes → report₀ ≡ open_report
      → Columns starts rows diagonal₀ values₀ report₀ diagonal₀ values₀ kept lower places report₀ 0
  columns-begin kept lower places long long_lower long_places e = record {
    high = omega arith;
    long_diagonal = refl;
    long_values = refl;
    long_kept = long;
    long_lower = long_lower;
    long_places = long_places;
    few = let none : report₀.operations ≡ 0 = ap (λ (r : Report). r.operations) e in omega arith;
    same = let e : n - 0 ≡ n = omega arith in rw e;
  }

  module _ (diagonal values kept lower : List Float) (places : List ℕ) (report : Report) (j : ℕ) (h : Columns starts rows diagonal₀ values₀ report₀ diagonal values kept lower places report j) where
    -- what is reached from here is what is reached
    reached : (o : FactorOutcome) (answer : Result Report Refusal) → report₀ ≡ open_report → factor_from starts rows j (n - j) report (record { diagonal = diagonal; values = values }) ≡ o
        → Reached o answer diagonal values → Reached (all open_report) answer diagonal values
    reached o answer e here r =
        let whole : all open_report ≡ o = ap all (sym e) ∙ h.same ∙ here in
        record {
          reply = r.reply ∙ ap (λ (x : FactorOutcome). x.answer) (sym whole);
          diagonal_left = r.diagonal_left ∙ ap (λ (x : FactorOutcome). x.filling.diagonal) (sym whole);
          values_left = r.values_left ∙ ap (λ (x : FactorOutcome). x.filling.values) (sym whole);
        }

    pub columns_stop : report₀ ≡ open_report → j < n → positive (get_or diagonal j nan) ≡ false → Reached (all open_report) (Err refusal.Pivot) diagonal values
    columns_stop e lt t =
        reached (not_factored 31 (record { diagonal = diagonal; values = values })) (Err refusal.Pivot) e (from_stop starts rows j n report diagonal values lt t)
        (record { reply = refl; diagonal_left = refl; values_left = refl })

    pub columns-end : report₀ ≡ open_report → n ≤ j → Reached (all open_report) (Ok report) diagonal values
    columns-end e ge =
        reached (factored report (record { diagonal = diagonal; values = values })) (Ok report) e (from_end starts rows j n report diagonal values ge)
        (record { reply = refl; diagonal_left = refl; values_left = refl })

    pub columns-next : Covering n starts rows → n ≤ max_nodes → j < n → positive (get_or diagonal j nan) ≡ true → (diagonal' values' kept' lower' : List Float) (places' : List ℕ) (report' : Report) (count : ℕ)
        → Worked starts rows j (get_or diagonal j nan) diagonal values diagonal' values' → length diagonal' ≡ length diagonal → length values' ≡ length values → length kept' ≡ length kept
        → length lower' ≡ length lower → length places' ≡ length places → count ≡ column_operations starts j → report' ≡ after_column report (get_or diagonal j nan) count
        → Columns starts rows diagonal₀ values₀ report₀ diagonal' values' kept' lower' places' report' (j + 1)
    unfolding after_column
    columns-next plan small lt t diagonal' values' kept' lower' places' report' count w ld lv lk ll lp ec er =
        let sum : report'.operations ≡ report.operations + count = ap (λ (r : Report). r.operations) er in
        record {
          high = omega arith;
          long_diagonal = ld ∙ h.long_diagonal;
          long_values = lv ∙ h.long_values;
          long_kept = lk ∙ h.long_kept;
          long_lower = ll ∙ h.long_lower;
          long_places = lp ∙ h.long_places;
          few = omega (arith, sum, ec, h.few, operations_few n starts rows plan small j lt);
          same = h.same ∙ from_next starts rows j n report diagonal values lt t diagonal' values' w
              ∙ ap (λ (r : Report). factor_from starts rows (j + 1) (n - (j + 1)) r (record { diagonal = diagonal'; values = values' }))
              (ap (after_column report (get_or diagonal j nan)) (sym ec) ∙ sym er);
        }
