-- The columns of an order as they are handed out, one after the other: where each is found, how many slots there are.
use mathlib.Core.Path.{◌≡◌, sym, ap, ◌∙◌}
use mathlib.Core.List.{List, [], ◌++◌, map, flatten, map-map, append-nil}
use Prim.Native.Nat.{ℕ, suc, ◌+◌, ◌-◌, ◌*◌, ◌/◌, ◌≤◌, ◌<◌}
use native.Mathlib.Nat.{zero-add}
use native.Mathlib.Omega.{arith}
use lib.ListN.{length, get_or, length-map, get_or-map}
use Rattle.plan.specs.Lists.{up_from, below, is_in, list_at, total, running_sums}
use Rattle.plan.specs.Mesh.{Mesh}
use Rattle.plan.specs.Elimination.{column, columns, starts_of}
use Rattle.plan.specs.Demand3.{has_slot}
use Rattle.theory.specs.Counting.{count}
use Rattle.theory.specs.Rows.{is_row}
use Rattle.theory.proofs.Bools.{refuted}
use Rattle.theory.proofs.Ranges.{length-up_from, get_or-map-below, length-map-up_from, map_ext_up_from}
use Rattle.theory.proofs.Sums.{block, half}
use Rattle.theory.proofs.Counting.{count_le, count_after}
use Rattle.theory.proofs.Compressed.{sums_last, sums_next, total-lengths, list_of_starts}
use Rattle.theory.proofs.Columns.{row_fact, column-keep}

module _ (m : Mesh) (order : List ℕ) where
  pub columns-length : length (columns m order) ≡ m.nodes
  unfolding columns
  columns-length = length-map-up_from (column m order) m.nodes 0

  pub column-number : (j : ℕ) → j < m.nodes → get_or (columns m order) j [] ≡ column m order j
  unfolding columns
  column-number j l = get_or-map-below (column m order) [] m.nodes j l

  -- the row counts
  abbrev counts : List ℕ
  counts = map length (columns m order)

  pub column-counts-length : length counts ≡ m.nodes
  column-counts-length = length-map (columns m order) length ∙ columns-length

  -- ---- in buffers that hold more behind the slots

  -- column j's rows are found by its starts
  pub column-listed : (more rest : List ℕ) (j : ℕ) → j < m.nodes → list_at (starts_of (columns m order) ++ more) (flatten (columns m order) ++ rest) j ≡ column m order j
  unfolding starts_of
  column-listed more rest j l = list_of_starts (columns m order) more rest j (omega (arith, columns-length)) ∙ column-number j l

  -- and with nothing behind
  pub column_at : (j : ℕ) → j < m.nodes → list_at (starts_of (columns m order)) (flatten (columns m order)) j ≡ column m order j
  column_at j l = simp append-nil at (column-listed [] [] j l)

  -- a slot is a row
  pub slot_row : (more rest : List ℕ) (i j : ℕ) → j < m.nodes → has_slot (starts_of (columns m order) ++ more) (flatten (columns m order) ++ rest) i j ≡ is_row m order i j
  unfolding has_slot is_row
  slot_row more rest i j l = ap (is_in i) (column-listed more rest j l)

  -- "all slots together number column start n"
  pub slots-last : (more : List ℕ) → get_or (starts_of (columns m order) ++ more) m.nodes 0 ≡ length (flatten (columns m order))
  unfolding starts_of
  slots-last more =
      ap (λ (k : ℕ). get_or (running_sums 0 counts ++ more) k 0) (sym column-counts-length)
      ∙ sums_last 0 counts more ∙ zero-add (total counts) ∙ total-lengths (columns m order)

  -- the slots of column j are as many as its start and the next one differ
  pub column_counted : (j : ℕ) → j < m.nodes → get_or (starts_of (columns m order)) (j + 1) 0 - get_or (starts_of (columns m order)) j 0 ≡ length (column m order j)
  unfolding starts_of
  column_counted j l =
      let next : get_or (running_sums 0 counts) (j + 1) 0 ≡ get_or (running_sums 0 counts) j 0 + get_or counts j 0 = simp append-nil at (sums_next 0 counts [] j (omega (arith, column-counts-length))) in
      let size : get_or counts j 0 ≡ length (column m order j) = get_or-map length (columns m order) j [] ∙ ap length (column-number j l) in
      omega (arith, next, size)

  -- ---- how many there are

  -- a column's rows are those after it that pass
  column_size : (j : ℕ) → j < m.nodes → length (column m order j) ≡ count (λ i. is_row m order i j) (up_from (suc j) (m.nodes - suc j))
  column_size j l =
      ap length (column-keep m order j)
      ∙ count_after (λ i. is_row m order i j) m.nodes j l (λ i le. refuted (is_row m order i j) (λ h. omega (arith, (row_fact m order i j h).1.later)))

  -- all of them, column after column
  pub slots_counted : length (flatten (columns m order)) ≡ total (map (λ j. count (λ i. is_row m order i j) (up_from (suc j) (m.nodes - suc j))) (below m.nodes))
  unfolding columns
  slots_counted =
      sym (total-lengths (columns m order))
      ∙ ap total (map-map length (column m order) (below m.nodes))
      ∙ ap total (map_ext_up_from (λ j. length (column m order j)) (λ j. count (λ i. is_row m order i j) (up_from (suc j) (m.nodes - suc j))) m.nodes 0 (λ j l h. column_size j (omega arith)))

  -- no more than pairs of positions: check 13's limit
  pub slots-few : length (flatten (columns m order)) ≤ m.nodes * (m.nodes - 1) / 2
  slots-few =
      let n : ℕ = m.nodes in
      let rows : ℕ → ℕ = λ j. count (λ i. is_row m order i j) (up_from (suc j) (n - suc j)) in
      let all : 2 * total (map rows (below n)) ≤ 2 * (n * 0) + n * (n - 1) =
      block 0 rows n 0 (λ j l. let at : 0 + j ≡ j = zero-add j in
      rw at (omega (arith, count_le (λ i. is_row m order i j) (up_from (suc j) (n - suc j)), length-up_from (n - suc j) (suc j)))) in
      omega (arith, slots_counted, half (total (map rows (below n))) 0 (n * (n - 1)) (omega (arith, all)))
