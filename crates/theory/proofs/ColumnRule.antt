-- Check 17's rule of a column's rows as facts, how many rows it lets a column have, and all columns of a layout.
use mathlib.Core.Path.{◌≡◌, ap}
use mathlib.Core.Bool.{true, false, not, ◌&&◌}
use mathlib.Core.List.{List}
use Prim.Native.Nat.{ℕ, suc, ◌-◌, ◌≤◌, ◌<◌}
use native.Mathlib.Omega.{arith}
use lib.Dec.{ltb}
use lib.ListN.{length}
use borrow.Author.Tests.{not-false, ltb-true, lt-ltb}
use Rattle.plan.specs.Lists.{every, below, is_in, list_at, ascending}
use Rattle.plan.specs.File.{bad_column, bad_columns}
use Rattle.theory.proofs.Bools.{and_left, and_right, and_both}
use Rattle.theory.proofs.Lists.{every-is_in, is_in-every, exists-none}
use Rattle.theory.proofs.Ranges.{below-is_in}
use Rattle.theory.proofs.Ascending.{ascending-few}

-- the rows are ascending, and each is above the column and below n
abbrev pub RuleKept : ℕ → ℕ → List ℕ → Type 0
RuleKept n j r = (ascending r ≡ true) × ((i : ℕ) → is_in i r ≡ true → (j < i) × (i < n))

-- rows without a fault keep the rule
pub good-column : (n j : ℕ) (r : List ℕ) → bad_column n j r ≡ false → RuleKept n j r
unfolding bad_column
good-column n j r h =
    let kept : (ascending r && every (λ i. ltb j i && ltb i n) r) ≡ true = not-false (ascending r && every (λ i. ltb j i && ltb i n) r) h in (
      and_left (ascending r) _ kept,
      λ i m.
          let t : (ltb j i && ltb i n) ≡ true = every-is_in (λ i. ltb j i && ltb i n) r (and_right (ascending r) _ kept) i m in
          (ltb-true j i (and_left (ltb j i) _ t), ltb-true i n (and_right (ltb j i) _ t)),
    )

-- and the other way round
pub kept-good : (n j : ℕ) (r : List ℕ) → RuleKept n j r → bad_column n j r ≡ false
unfolding bad_column
kept-good n j r k =
    ap not (and_both (ascending r) _ k.0
    (is_in-every (λ i. ltb j i && ltb i n) r (λ i m. and_both (ltb j i) _ (lt-ltb j i (k.1 i m).0) (lt-ltb i n (k.1 i m).1))))

-- a column without a fault has at most as many rows as there are positions behind it
pub column-few : (n j : ℕ) (r : List ℕ) → bad_column n j r ≡ false → length r ≤ n - 1 - j
column-few n j r h = let k = good-column n j r h in omega (arith, ascending-few r (suc j) n k.0 k.1)

-- columns without a fault: each keeps the rule
pub good-columns : (n : ℕ) (starts rows : List ℕ) → bad_columns n starts rows ≡ false → (j : ℕ) → j < n → bad_column n j (list_at starts rows j) ≡ false
unfolding bad_columns
good-columns n starts rows h j lt = exists-none (λ j. bad_column n j (list_at starts rows j)) (below n) h j (below-is_in n j lt)
