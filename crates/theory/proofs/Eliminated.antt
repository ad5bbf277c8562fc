-- Every layout made by elimination passes checks 17 and 19, whatever the order.
use mathlib.Core.Path.{◌≡◌, refl, ◌∙◌, ap}
use mathlib.Core.Bool.{true, false}
use mathlib.Core.List.{List, [], ◌∷◌, flatten, map}
use Prim.Native.Nat.{ℕ, ◌<◌}
use lib.ListN.{length}
use Rattle.plan.specs.Lists.{is_in, list_at, below}
use Rattle.plan.specs.Elimination.{column, starts_of, columns}
use Rattle.plan.specs.File.{covered, bad_columns, bad_column}
use Rattle.plan.specs.Mesh.{bad_starts, Mesh}
use Rattle.theory.specs.Rows.{is_row}
use Rattle.theory.proofs.Lists.{is_in-head, none-exists}
use Rattle.theory.proofs.Ranges.{is_in-below}
use Rattle.theory.proofs.Compressed.{sums_starts}
use Rattle.theory.proofs.ColumnRule.{kept-good}
use Rattle.theory.proofs.Columns.{row_fact, column-ascending}
use Rattle.theory.proofs.EliminationTree.{rows_in_first-column}
use Rattle.theory.proofs.Slots.{column-counts-length, column_at}

module _ (m : Mesh) (order : List ℕ) where
  abbrev starts : List ℕ
  starts = starts_of (columns m order)

  abbrev rows : List ℕ
  rows = flatten (columns m order)

  -- the starts are those of n columns
  pub columns-starts : bad_starts m.nodes starts ≡ false
  unfolding starts_of
  columns-starts = sums_starts m.nodes (map length (columns m order)) (column-counts-length m order)

  column-good : (j : ℕ) → j < m.nodes → bad_column m.nodes j (list_at starts rows j) ≡ false
  unfolding is_row
  column-good j l =
      rw (column_at m order j l)
      (kept-good m.nodes j (column m order j) (column-ascending m order j, λ i h. let r = row_fact m order i j h in (r.1.later, r.0)))

  -- 17: each column's rows are strictly ascending, above the column and below n
  pub columns-good : bad_columns m.nodes starts rows ≡ false
  unfolding bad_columns
  columns-good = none-exists (λ j. bad_column m.nodes j (list_at starts rows j)) (below m.nodes) (λ j h. column-good j (is_in-below m.nodes j h))

  -- 19: a column's rows after its first are all in the first row's column
  pub column-covered : (j : ℕ) → j < m.nodes → covered starts rows (list_at starts rows j) ≡ true
  unfolding covered is_row
  column-covered j l = rw (column_at m order j l) (go (column m order j) refl)
    where
      go : (r : List ℕ) → column m order j ≡ r → covered starts rows r ≡ true
      go [] e = refl
      go (p ∷ rest) e =
          let row : is_row m order p j ≡ true = ap (is_in p) e ∙ is_in-head p rest in
          rw (column_at m order p (row_fact m order p j row).0) (rows_in_first-column m order j p rest e)
