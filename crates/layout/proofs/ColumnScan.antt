-- Check 17's rule of one column, row by row: a scan of the column.
use mathlib.Core.Path.{◌≡◌, sym, ap, ◌∙◌}
use mathlib.Core.Logic.{inl, inr}
use mathlib.Core.Bool.{true, false}
use mathlib.Core.List.{List, ◌∷◌}
use Prim.Native.Nat.{ℕ, suc, ◌+◌, ◌≤◌, ◌<◌}
use native.Mathlib.Numerals.{add-one}
use native.Mathlib.Omega.{arith}
use lib.ListN.{length, get_or, drop, drop_of_length-le}
use lib.Seq.{drop-cons}
use Rattle.plan.specs.Lists.{is_in}
use Rattle.plan.specs.File.{bad_column}
use Rattle.theory.proofs.Bools.{tested, clash}
use Rattle.theory.proofs.Lists.{is_in-head, is_in_tail, is_in_cons}
use Rattle.theory.proofs.Ascending.{ascending_tail, ascending_lt, ascending_cons}
use Rattle.theory.proofs.ColumnRule.{RuleKept, good-column, kept-good}

-- ---- the first row

-- one that is not both above the column and below n breaks the rule
row_out : (n j x : ℕ) (xs : List ℕ) → (j < x → x < n → ⊥) → bad_column n j (x ∷ xs) ≡ true
row_out n j x xs out = elim (tested (bad_column n j (x ∷ xs))) [
  | inl bad ↦ bad
  | inr good ↦ (let first = (good-column n j (x ∷ xs) good).1 x (is_in-head x xs) in absurd (out first.0 first.1))
]

-- behind one that is, the others are to be above it
row_next : (n j x : ℕ) (xs : List ℕ) → j < x → x < n → bad_column n j (x ∷ xs) ≡ bad_column n x xs
row_next n j x xs low high = elim (tested (bad_column n x xs)) [
  | inl bad ↦ elim (tested (bad_column n j (x ∷ xs))) [
    | inl same ↦ same ∙ sym bad
    | inr good ↦ clash (bad_column n x xs) bad (kept-good n x xs (there (good-column n j (x ∷ xs) good)))
  ]
  | inr good ↦ kept-good n j (x ∷ xs) (back (good-column n x xs good)) ∙ sym good
]
  where
    there : RuleKept n j (x ∷ xs) → RuleKept n x xs
    there k = (ascending_tail x xs k.0, λ i m. (ascending_lt x xs k.0 i m, (k.1 i (is_in_tail i x xs m)).1))

    back : RuleKept n x xs → RuleKept n j (x ∷ xs)
    back k = (ascending_cons x xs k.0 (λ i m. (k.1 i m).0), each)
      where
        each : (i : ℕ) → is_in i (x ∷ xs) ≡ true → (j < i) × (i < n)
        each i m = elim (is_in_cons i x xs m) [
          | inl e ↦ (omega (arith, e), omega (arith, e))
          | inr t ↦ (omega (arith, k.1 i t), (k.1 i t).1)
        ]

-- ---- a scan of a column: behind k rows, the last of them `before`, the rule is that of column `before` for the rows to come

module _ (n j : ℕ) (l : List ℕ) (before k : ℕ) (same : bad_column n j l ≡ bad_column n before (drop k l)) where
  -- what is to come begins with row k
  rows-from : k < length l → bad_column n j l ≡ bad_column n before (get_or l k 0 ∷ drop (suc k) l)
  rows-from lt = same ∙ ap (bad_column n before) (drop-cons l k 0 lt)

  -- row k is not above the row before it
  pub scan_low : k < length l → get_or l k 0 ≤ before → bad_column n j l ≡ true
  scan_low lt le = rows-from lt ∙ row_out n before (get_or l k 0) (drop (suc k) l) (λ low high. omega arith)

  -- or not below n
  pub scan_high : k < length l → n ≤ get_or l k 0 → bad_column n j l ≡ true
  scan_high lt le = rows-from lt ∙ row_out n before (get_or l k 0) (drop (suc k) l) (λ low high. omega arith)

  -- or it is both
  pub scan_next : k < length l → before < get_or l k 0 → get_or l k 0 < n → bad_column n j l ≡ bad_column n (get_or l k 0) (drop (k + 1) l)
  scan_next lt low high =
      rows-from lt ∙ row_next n before (get_or l k 0) (drop (suc k) l) low high
      ∙ ap (λ (i : ℕ). bad_column n (get_or l k 0) (drop i l)) (sym (add-one k))

  -- no row is to come
  pub scan_end : length l ≤ k → bad_column n j l ≡ false
  unfolding bad_column
  scan_end le = same ∙ ap (bad_column n before) (drop_of_length-le l le)
