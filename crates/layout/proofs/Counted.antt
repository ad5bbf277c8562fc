-- The elimination tree and the counts, from no row to all rows; and what `count_rows` leaves in its buffers.
use mathlib.Core.Path.{◌≡◌, sym, ap, ◌∙◌}
use mathlib.Core.List.{List, [], ◌++◌, map}
use Prim.Native.Nat.{ℕ, ◌≤◌, ◌<◌}
use native.Mathlib.Omega.{arith}
use lib.Dec.{ltb}
use lib.ListN.{length, take, drop, get_or, replicate, length-map, length-replicate, get_or-replicate, get_or-map, get_or-append, length-append, length-drop}
use lib.Seq.{drop-append_seam, length-take-le}
use borrow.Author.Tests.{le-ltb}
use Rattle.plan.specs.Lists.{written}
use Rattle.plan.specs.Mesh.{Mesh}
use Rattle.plan.specs.Elimination.{column, columns}
use Rattle.theory.specs.Rows.{first_row}
use Rattle.theory.proofs.Bools.{cond_false}
use Rattle.theory.proofs.Ranges.{get_or-map-below, length-map-up_from}
use Rattle.theory.proofs.Columns.{column-keep}
use Rattle.theory.proofs.Written.{front-written}
use Rattle.mesh.specs.Lists.{none}
use Rattle.layout.specs.Arrays.{parent_below, CountedBelow, Tree, tree_of}
use Rattle.layout.proofs.Stores.{written-front}

-- ---- a buffer whose first n numbers were set to x

module _ (n x : ℕ) (found part : List ℕ) (room : n ≤ length found) where
  -- its front is a part of its own, which was filled
  pub reset_part : part ≡ replicate (length (take n found)) x → part ++ drop n found ≡ written (replicate n x) found
  reset_part e = rw (e, length-take-le n found room, length-replicate n x)

  -- it is as long as it was
  pub reset_long : length part ≡ length (take n found) → length (part ++ drop n found) ≡ length found
  reset_long e = omega (arith, length-append part (drop n found), length-drop n found, length-take-le n found room)

module _ (n x : ℕ) (found left : List ℕ) (e : left ≡ written (replicate n x) found) where
  -- each of them is x
  reset_at : (k : ℕ) → k < n → get_or left k 0 ≡ x
  reset_at k lt =
      ap (λ (l : List ℕ). get_or l k 0) e
      ∙ get_or-append (replicate n x) (drop (length (replicate n x)) found) 0 k (omega (arith, length-replicate n x))
      ∙ get_or-replicate n k x 0 lt

  -- and the others are as found
  pub reset_rest : drop n left ≡ drop n found
  reset_rest =
      let many : length (replicate n x) ≡ n = length-replicate n x in
      ap (drop n) e
      ∙ ap (λ (k : ℕ). drop k (written (replicate n x) found)) (sym many)
      ∙ drop-append_seam (replicate n x) (drop (length (replicate n x)) found)
      ∙ ap (λ (k : ℕ). drop k found) many

module _ (m : Mesh) (order : List ℕ) where
  -- ---- no row

  -- the buffers are reset: no row is counted
  pub counted_none : (tree₀ counts₀ tree counts : List ℕ) → tree ≡ written (replicate m.nodes none) tree₀ → counts ≡ written (replicate m.nodes 0) counts₀
      → CountedBelow m order 0 tree counts
  counted_none tree₀ counts₀ tree counts f g = record {
    parent = λ k l. reset_at m.nodes none tree₀ tree f k l
        ∙ sym (cond_false (ltb (first_row m order k) 0) (first_row m order k) none (le-ltb (first_row m order k) 0 (omega arith)));
    rows = reset_at m.nodes 0 counts₀ counts g;
  }

  -- ---- all rows

  -- there is one parent for each column
  tree-many : length (tree_of m order) ≡ m.nodes
  unfolding tree_of
  tree-many = length-map-up_from (parent_below m order m.nodes) m.nodes 0

  -- and one count
  counts-many : length (map length (columns m order)) ≡ m.nodes
  unfolding columns
  counts-many = length-map (columns m order) length ∙ length-map-up_from (column m order) m.nodes 0

  -- the tree at a column
  tree_at : (k : ℕ) → k < m.nodes → get_or (tree_of m order) k 0 ≡ parent_below m order m.nodes k
  unfolding tree_of
  tree_at k lt = get_or-map-below (parent_below m order m.nodes) 0 m.nodes k lt

  -- its count
  counts_at_lem : (k : ℕ) → k < m.nodes → get_or (map length (columns m order)) k 0 ≡ length (column m order k)
  unfolding columns
  counts_at_lem k lt = get_or-map length (columns m order) k [] ∙ ap length (get_or-map-below (column m order) [] m.nodes k lt)

  module _ (tree counts : List ℕ) (c : CountedBelow m order m.nodes tree counts) where
    -- the tree is whole
    pub counted_tree : (tree₀ : List ℕ) → m.nodes ≤ length tree → drop m.nodes tree ≡ drop m.nodes tree₀ → tree ≡ written (tree_of m order) tree₀
    counted_tree tree₀ room rest = written-front m.nodes (tree_of m order) tree₀ tree tree-many room (λ k l. c.parent k l ∙ sym (tree_at k l)) rest

    -- and so are the counts
    pub counted_rows : (counts₀ : List ℕ) → m.nodes ≤ length counts → drop m.nodes counts ≡ drop m.nodes counts₀ → counts ≡ written (map length (columns m order)) counts₀
    counted_rows counts₀ room rest = written-front m.nodes (map length (columns m order)) counts₀ counts counts-many room
        (λ k l. c.rows k l ∙ ap length (sym (column-keep m order k)) ∙ sym (counts_at_lem k l)) rest

  -- ---- what `count_rows` promises

  -- a buffer with the tree at its front has each column's parent at the column's place
  pub tree-written : (found tree : List ℕ) → tree ≡ written (tree_of m order) found → Tree m order tree
  tree-written found tree e k lt =
      ap (λ (l : List ℕ). get_or l k 0) e
      ∙ get_or-append (tree_of m order) (drop (length (tree_of m order)) found) 0 k (omega (arith, tree-many))
      ∙ tree_at k lt

  -- a buffer with the counts at its front has those of n columns
  pub counts-written : (found counts : List ℕ) → counts ≡ written (map length (columns m order)) found → take m.nodes counts ≡ map length (columns m order)
  counts-written found counts e = front-written m.nodes (map length (columns m order)) found counts e counts-many
