-- The rows of the first columns, and where each column starts in them.
use mathlib.Core.Path.{◌≡◌, refl, sym, ap, subst, ◌∙◌}
use mathlib.Core.List.{List, [], ◌++◌, map, flatten, append_assoc, append-nil}
use Prim.Native.Nat.{ℕ, zero, suc, ◌+◌, ◌-◌, ◌≤◌, ◌<◌}
use native.Mathlib.Nat.{add-zero}
use native.Mathlib.Numerals.{add-one}
use native.Mathlib.Omega.{arith}
use lib.ListN.{length, take, drop, get_or, length-append, length-take, get_or-map}
use lib.Seq.{take_at, drop_at, get_or-take}
use Rattle.plan.specs.Lists.{written, list_at, running_sums}
use Rattle.plan.specs.Mesh.{Mesh}
use Rattle.plan.specs.Elimination.{column, columns, starts_of}
use Rattle.theory.proofs.Flatten.{blocks, blocks_more, flatten_nil}
use Rattle.theory.proofs.Compressed.{sums_first, sums_next, sums_length}
use Rattle.theory.proofs.Slots.{column-counts-length, column-number}
use Rattle.mesh.specs.Lists.{ListWithin}
use Rattle.layout.specs.Arrays.{rows_before}

module _ (m : Mesh) (order : List ℕ) where
  -- no column
  pub rows_none : rows_before m order 0 ≡ []
  unfolding rows_before
  rows_none = flatten_nil

  -- one column more
  pub rows_more : (j : ℕ) → rows_before m order (j + 1) ≡ rows_before m order j ++ column m order j
  unfolding rows_before
  rows_more j = ap (blocks (column m order)) (add-one j) ∙ blocks_more (column m order) j

  -- all columns
  pub rows_all : rows_before m order m.nodes ≡ flatten (columns m order)
  unfolding rows_before columns
  rows_all = refl

  -- those of fewer columns stand in front
  rows-front : (k j : ℕ) → (rest : List ℕ) × (rows_before m order (j + k) ≡ rows_before m order j ++ rest)
  rows-front zero j = ([], ap (rows_before m order) (add-zero j) ∙ sym (append-nil (rows_before m order j)))
  rows-front (suc k) j =
      let r = rows-front k j in
      let e : j + suc k ≡ j + k + 1 = omega arith in
      (r.0 ++ column m order (j + k), ap (rows_before m order) e ∙ rows_more (j + k) ∙ ap (λ (l : List ℕ). l ++ column m order (j + k)) r.1 ∙ append_assoc (rows_before m order j) r.0 (column m order (j + k)))

  -- the same, of two numbers of columns
  rows_split : (j k : ℕ) → j ≤ k → (rest : List ℕ) × (rows_before m order k ≡ rows_before m order j ++ rest)
  rows_split j k le =
      let e : k ≡ j + (k - j) = omega arith in
      let r = rows-front (k - j) j in
      (r.0, ap (rows_before m order) e ∙ r.1)

  -- and are no more
  rows_fewer : (j k : ℕ) → j ≤ k → length (rows_before m order j) ≤ length (rows_before m order k)
  rows_fewer j k le = let r = rows_split j k le in omega (arith, ap length r.1, length-append (rows_before m order j) r.0)

  -- ---- the starts

  -- in the book's list of starts, start j is the number of the rows before column j
  starts-rows : (j : ℕ) → j ≤ m.nodes → get_or (starts_of (columns m order)) j 0 ≡ length (rows_before m order j)
  unfolding starts_of rows_before
  starts-rows zero le = simp append-nil at (sums_first 0 (map length (columns m order)) []) ∙ sym (ap length (flatten_nil {A = ℕ}))
  starts-rows (suc j) le =
      let next : get_or (running_sums 0 (map length (columns m order))) (j + 1) 0 ≡ get_or (running_sums 0 (map length (columns m order))) j 0 + get_or (map length (columns m order)) j 0 =
      simp append-nil at (sums_next 0 (map length (columns m order)) [] j (omega (arith, column-counts-length m order))) in
      let size : get_or (map length (columns m order)) j 0 ≡ length (column m order j) = get_or-map length (columns m order) j [] ∙ ap length (column-number m order j le) in
      subst (λ (k : ℕ). get_or (starts_of (columns m order)) k 0 ≡ length (rows_before m order k)) (add-one j)
      (omega (arith, next, size, starts-rows j (omega arith), ap length (rows_more j), length-append (rows_before m order j) (column m order j)))

  module _ (column_starts : List ℕ) (s : take (m.nodes + 1) column_starts ≡ starts_of (columns m order)) where
    -- there is one behind the last column
    pub starts-long : m.nodes < length column_starts
    unfolding starts_of
    starts-long = omega (arith, ap length s, length-take (m.nodes + 1) column_starts, sums_length 0 (map length (columns m order)), column-counts-length m order)

    -- and so it is in the array
    pub start_at : (j : ℕ) → j ≤ m.nodes → get_or column_starts j 0 ≡ length (rows_before m order j)
    start_at j le = sym (get_or-take (m.nodes + 1) column_starts j 0 (omega arith)) ∙ ap (λ (l : List ℕ). get_or l j 0) s ∙ starts-rows j le

    -- the next start is as much greater as the column has rows
    pub start-next : (j : ℕ) → j < m.nodes → get_or column_starts (j + 1) 0 ≡ get_or column_starts j 0 + length (column m order j)
    start-next j lt = omega (arith, start_at j (omega arith), start_at (j + 1) (omega arith), ap length (rows_more j), length-append (rows_before m order j) (column m order j))

    -- a column of those that are written is found by its starts
    pub column-found : (rows : List ℕ) (j c : ℕ) → j ≤ m.nodes → c < j → rows ≡ written (rows_before m order j) rows → list_at column_starts rows c ≡ column m order c
    unfolding list_at
    column-found rows j c le lt e =
        let r = rows_split (c + 1) j (omega arith) in
        let size : get_or column_starts (c + 1) 0 - get_or column_starts c 0 ≡ length (column m order c) = omega (arith, start-next c (omega arith)) in
        let split : rows ≡ rows_before m order c ++ (column m order c ++ (r.0 ++ drop (length (rows_before m order j)) rows)) =
        e
        ∙ ap (λ (l : List ℕ). l ++ drop (length (rows_before m order j)) rows) (r.1 ∙ ap (λ (l : List ℕ). l ++ r.0) (rows_more c))
        ∙ append_assoc (rows_before m order c ++ column m order c) r.0 (drop (length (rows_before m order j)) rows)
        ∙ append_assoc (rows_before m order c) (column m order c) (r.0 ++ drop (length (rows_before m order j)) rows) in
        rw size
        (ap (λ (l : List ℕ). take (length (column m order c)) (drop (get_or column_starts c 0) l)) split
        ∙ ap (take (length (column m order c))) (drop_at (rows_before m order c) (column m order c ++ (r.0 ++ drop (length (rows_before m order j)) rows)) (get_or column_starts c 0) (sym (start_at c (omega arith))))
        ∙ take_at (column m order c) (r.0 ++ drop (length (rows_before m order j)) rows) (length (column m order c)) refl)

    -- each column has its place within the rows
    pub column-within : (rows : List ℕ) → length (flatten (columns m order)) ≤ length rows → (c : ℕ) → c < m.nodes → ListWithin column_starts rows c
    column-within rows room c lt =
        record {
          started = omega (arith, starts-long);
          ordered = omega (arith, start-next c lt);
          ended = omega (arith, start_at (c + 1) (omega arith), rows_fewer (c + 1) m.nodes (omega arith), ap length rows_all);
        }
