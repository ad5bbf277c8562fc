-- What the checks of the rows start from: parts that passed check 16, a layout that passed check 17; and check 19's rule for the rows of one column.
use mathlib.Core.Path.{◌≡◌, refl}
use mathlib.Core.Bool.{true, false}
use mathlib.Core.List.{List, [], ◌∷◌}
use Prim.Native.Nat.{ℕ, ◌≤◌, ◌<◌}
use native.Mathlib.Omega.{arith}
use lib.ListN.{length, get_or, drop}
use Rattle.plan.specs.Lists.{every, is_in, list_at, ascending, total}
use Rattle.plan.specs.File.{bad_column, covered}
use Rattle.theory.specs.PartTree.{PartTree}
use Rattle.theory.proofs.Lists.{is_in-get_or}
use Rattle.theory.proofs.Sums.{positive-few}
use Rattle.theory.proofs.Ascending.{ascending_tail}
use Rattle.theory.proofs.ColumnRule.{good-column, good-columns}
use Rattle.theory.proofs.PartChecks.{parents_may, passes-tree}
use Rattle.mesh.specs.Lists.{ListWithin}
use Rattle.mesh.proofs.Lists.{good-starts-within}
use Rattle.rowchecks.specs.Rows.{parts_and_rows, SoundParts, Started, LaidOut}
use Rattle.rowchecks.specs.Numbering.{SoundParents}

-- ---- parts that passed check 16

-- they are a tree of parts
pub parts-tree : (n : ℕ) (sizes parents : List ℕ) → SoundParts n sizes parents → PartTree n sizes parents
parts-tree n sizes parents h = passes-tree (parts_and_rows n sizes parents [] []) h.good h.as_many refl

-- their sizes sum to n
pub parts-total : (n : ℕ) (sizes parents : List ℕ) → SoundParts n sizes parents → total sizes ≡ n
parts-total n sizes parents h = (parts-tree n sizes parents h).whole

-- they are no more than positions
pub parts-few : (n : ℕ) (sizes parents : List ℕ) → SoundParts n sizes parents → length sizes ≤ n
parts-few n sizes parents h =
    let t : PartTree n sizes parents = parts-tree n sizes parents h in
    omega (arith, positive-few sizes t.positive, t.whole)

-- so the parents have passed check 16
pub parts-parents : (n : ℕ) (sizes parents : List ℕ) → SoundParts n sizes parents → SoundParents parents
parts-parents n sizes parents h =
    record {
      few = omega (arith, h.few, h.as_many, parts-few n sizes parents h);
      good = parents_may (parts_and_rows n sizes parents [] []) h.good h.as_many;
    }

-- ---- a layout

-- where its starts have no fault, each column lies within the rows
pub started-within : (n : ℕ) (column_starts rows : List ℕ) → Started n column_starts rows → (j : ℕ) → j < n → ListWithin column_starts rows j
started-within n column_starts rows h = good-starts-within n column_starts rows h.starts (omega (arith, h.last))

-- and one that passed check 17
module _ (n : ℕ) (column_starts rows : List ℕ) (h : LaidOut n column_starts rows) (j : ℕ) (lt : j < n) where
  -- a column lies within the rows
  pub laid_within : ListWithin column_starts rows j
  laid_within = started-within n column_starts rows h.started j lt

  -- keeps 17's rule
  pub laid_good : bad_column n j (list_at column_starts rows j) ≡ false
  laid_good = good-columns n column_starts rows h.good j lt

  -- so its rows are ascending
  pub laid_ascending : ascending (list_at column_starts rows j) ≡ true
  laid_ascending = (good-column n j (list_at column_starts rows j) laid_good).0

  -- above it and below n
  pub laid_between : (i : ℕ) → is_in i (list_at column_starts rows j) ≡ true → (j < i) × (i < n)
  laid_between = (good-column n j (list_at column_starts rows j) laid_good).1

  -- by their places
  pub laid_row : (k : ℕ) → k < length (list_at column_starts rows j) → get_or (list_at column_starts rows j) k 0 < n
  laid_row k below_end = (laid_between _ (is_in-get_or (list_at column_starts rows j) k 0 below_end)).1

  -- those behind the first are ascending too
  pub laid_others : ascending (drop 1 (list_at column_starts rows j)) ≡ true
  laid_others = go (list_at column_starts rows j) laid_ascending
    where
      go : (r : List ℕ) → ascending r ≡ true → ascending (drop 1 r) ≡ true
      go [] a = a
      go (x ∷ r) a = ascending_tail x r a

-- ---- check 19's rule for the rows of one column

-- fewer than two rows are covered
pub covered-few : (column_starts rows r : List ℕ) → length r < 2 → covered column_starts rows r ≡ true
unfolding covered
covered-few column_starts rows [] lt = refl
covered-few column_starts rows (x ∷ []) lt = refl
covered-few column_starts rows (x ∷ (y ∷ r)) lt = absurd (omega arith)

-- others where those behind the first are in its column
pub covered_is : (column_starts rows r : List ℕ) → 0 < length r → covered column_starts rows r ≡ every (λ i. is_in i (list_at column_starts rows (get_or r 0 0))) (drop 1 r)
unfolding covered
covered_is column_starts rows [] lt = absurd (omega arith)
covered_is column_starts rows (x ∷ r) lt = refl
