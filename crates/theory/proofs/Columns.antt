-- The joins and the columns of a mesh are those of the relation `joined_after` over its neighbours.
use mathlib.Core.Path.{◌≡◌, refl, sym, ap, ◌∙◌}
use mathlib.Core.Logic.{◌⊎◌, inl, inr}
use mathlib.Core.Bool.{Bool, true, false, not, ◌&&◌, ◌||◌, false≢true}
use mathlib.Core.List.{List, [], map, head_d}
use Prim.Native.Nat.{ℕ, zero, suc, ◌≤◌, ◌<◌}
use native.Mathlib.Omega.{arith}
use lib.Dec.{eqb, ltb}
use lib.ListN.{get_or, get_or-eq_default}
use borrow.Author.Tests.{ltb-true, ltb-false, lt-ltb}
use Rattle.plan.specs.Lists.{below, is_in, keep, ascending}
use Rattle.plan.specs.Mesh.{Mesh}
use Rattle.plan.specs.Elimination.{Joins, joined, tabulate, initial, remaining, eliminate, joins_after, column}
use Rattle.theory.specs.Checked.{Symmetric}
use Rattle.theory.specs.Rows.{edge_at, is_row, first_row}
use Rattle.theory.proofs.Bools.{and_left, and_right, and_both, tested, iff_eq}
use Rattle.theory.proofs.Lists.{is_in-keep}
use Rattle.theory.proofs.Ranges.{is_in-below, below-is_in, get_or-map-below, length-map-up_from}
use Rattle.theory.proofs.Ascending.{ascending-keep, ascending-kept, head_or-is_in, head_or_least, ascending_ext}
use Rattle.theory.proofs.Joined.{new, joined_after}
use Rattle.theory.proofs.JoinedTree.{Slot, Parent}

-- the row of a table
tabulate_at : (n : ℕ) (f : ℕ → ℕ → Bool) (a : ℕ) → a < n → get_or (tabulate n f) a [] ≡ keep (f a) (below n)
unfolding tabulate
tabulate_at n f a lt = get_or-map-below (λ a. keep (f a) (below n)) [] n a lt

tabulate_out : (n : ℕ) (f : ℕ → ℕ → Bool) (a : ℕ) → n ≤ a → get_or (tabulate n f) a [] ≡ []
unfolding tabulate
tabulate_out n f a le = get_or-eq_default (map (λ a. keep (f a) (below n)) (below n)) [] (omega (arith, length-map-up_from (λ a. keep (f a) (below n)) n 0))

tabulate-joined : (n : ℕ) (f : ℕ → ℕ → Bool) (a b : ℕ) → a < n → b < n → joined (tabulate n f) a b ≡ f a b
tabulate-joined n f a b la lb =
    ap (is_in b) (tabulate_at n f a la) ∙ is_in-keep (f a) (below n) b ∙ ap (λ t. t && f a b) (below-is_in n b lb)

is_in-remaining : (g : Joins) (k a : ℕ) → is_in a (remaining g k) ≡ (joined g k a && ltb k a)
unfolding remaining
is_in-remaining g k a = is_in-keep (ltb k) (get_or g k []) a

-- neighbours by position are mirrored where the mesh's lists are
pub edge-mirror : (m : Mesh) (order : List ℕ) → Symmetric m → (a b : ℕ) → edge_at m order a b ≡ true → edge_at m order b a ≡ true
unfolding edge_at
edge-mirror m order s a b h = s.mirror (get_or order a 0) (get_or order b 0) h

module _ (m : Mesh) (order : List ℕ) where
  -- the joins after k eliminations, as a test
  joins_test : ℕ → ℕ → ℕ → Bool
  joins_test zero a b = edge_at m order a b
  joins_test (suc k) a b = let g : Joins = joins_after k m order in joined g a b || (not (eqb a b) && (is_in a (remaining g k) && is_in b (remaining g k)))

  joins-table : (k : ℕ) → joins_after k m order ≡ tabulate m.nodes (joins_test k)
  unfolding joins_after initial eliminate joins_test edge_at
  joins-table zero = refl
  joins-table (suc k) = refl

  joins-joined : (k a b : ℕ) → k ≤ m.nodes → a < m.nodes → b < m.nodes → joined (joins_after k m order) a b ≡ joined_after (edge_at m order) k a b
  unfolding joins_test joined_after new
  joins-joined zero a b lk la lb = ap (λ g. joined g a b) (joins-table zero) ∙ tabulate-joined m.nodes (joins_test zero) a b la lb
  joins-joined (suc k) a b lk la lb =
      ap (λ g. joined g a b) (joins-table (suc k)) ∙ tabulate-joined m.nodes (joins_test (suc k)) a b la lb ∙ turn
      (joins-joined k a b (omega arith) la lb) (joins-joined k k a (omega arith) lk la) (joins-joined k k b (omega arith) lk lb)
    where
      turn : joined (joins_after k m order) a b ≡ joined_after (edge_at m order) k a b → joined (joins_after k m order) k a ≡ joined_after (edge_at m order) k k a
          → joined (joins_after k m order) k b ≡ joined_after (edge_at m order) k k b → joins_test (suc k) a b ≡ joined_after (edge_at m order) (suc k) a b
      turn p q r = cc (is_in-remaining (joins_after k m order) k a, is_in-remaining (joins_after k m order) k b)

  -- column j has row i: in terms of the relation
  pub row_fact : (i j : ℕ) → is_row m order i j ≡ true → (i < m.nodes) × Slot (edge_at m order) i j
  unfolding is_row column
  row_fact i j h = go (tested (ltb j m.nodes))
    where
      both : (joined (joins_after j m order) j i && ltb j i) ≡ true
      both = sym (is_in-remaining (joins_after j m order) j i) ∙ h

      in_row : joined (joins_after j m order) j i ≡ true
      in_row = and_left (joined (joins_after j m order) j i) _ both

      go : (ltb j m.nodes ≡ true) ⊎ (ltb j m.nodes ≡ false) → (i < m.nodes) × Slot (edge_at m order) i j
      go (inl t) =
          let lj : j < m.nodes = ltb-true j m.nodes t in
          let row = ap (λ g. get_or g j []) (joins-table j) ∙ tabulate_at m.nodes (joins_test j) j lj in
          let kept = sym (ap (is_in i) row ∙ is_in-keep (joins_test j j) (below m.nodes) i) ∙ in_row in
          let li : i < m.nodes = is_in-below m.nodes i (and_left (is_in i (below m.nodes)) _ kept) in (
            li,
            record {
              later = ltb-true j i (and_right (joined (joins_after j m order) j i) _ both);
              joined = sym (joins-joined j j i (omega arith) lj li) ∙ in_row;
            },
          )
      go (inr t) =
          let row = ap (λ g. get_or g j []) (joins-table j) ∙ tabulate_out m.nodes (joins_test j) j (ltb-false j m.nodes t) in
          absurd (false≢true (sym (ap (is_in i) row) ∙ in_row))

  -- and back
  pub row_test : (i j : ℕ) → i < m.nodes → Slot (edge_at m order) i j → is_row m order i j ≡ true
  unfolding is_row column
  row_test i j li s =
      is_in-remaining (joins_after j m order) j i
      ∙ and_both (joined (joins_after j m order) j i) _
      (joins-joined j j i (omega (arith, s.later)) (omega (arith, s.later)) li ∙ s.joined)
      (lt-ltb j i s.later)

  -- a column's rows are "ascending"
  pub column-ascending : (j : ℕ) → ascending (column m order j) ≡ true
  unfolding column remaining
  column-ascending j = ascending-keep (ltb j) (get_or (joins_after j m order) j []) (go (tested (ltb j m.nodes)))
    where
      go : (ltb j m.nodes ≡ true) ⊎ (ltb j m.nodes ≡ false) → ascending (get_or (joins_after j m order) j []) ≡ true
      go (inl t) =
          let row = ap (λ g. get_or g j []) (joins-table j) ∙ tabulate_at m.nodes (joins_test j) j (ltb-true j m.nodes t) in
          rw row (ascending-kept (joins_test j j) m.nodes)
      go (inr t) =
          let row = ap (λ g. get_or g j []) (joins-table j) ∙ tabulate_out m.nodes (joins_test j) j (ltb-false j m.nodes t) in
          rw row

  -- so a list is column j's rows where it is ascending and has the same rows
  column_unique : (j : ℕ) (l : List ℕ) → ascending l ≡ true → ((i : ℕ) → is_in i l ≡ is_row m order i j) → l ≡ column m order j
  unfolding is_row
  column_unique j l up f = ascending_ext l (column m order j) up (column-ascending j) f

  -- the rows are the positions that pass, in their order
  pub column-keep : (j : ℕ) → column m order j ≡ keep (λ i. is_row m order i j) (below m.nodes)
  column-keep j = sym (column_unique j (keep (λ i. is_row m order i j) (below m.nodes)) (ascending-kept (λ i. is_row m order i j) m.nodes) same_rows)
    where
      same_rows : (i : ℕ) → is_in i (keep (λ i. is_row m order i j) (below m.nodes)) ≡ is_row m order i j
      same_rows i = is_in-keep (λ i. is_row m order i j) (below m.nodes) i ∙ iff_eq _ _ (and_right (is_in i (below m.nodes)) _)
          (λ h. and_both (is_in i (below m.nodes)) _ (below-is_in m.nodes i (row_fact i j h).0) h)

  -- the first row, for a column with a row
  pub first_fact : (i k : ℕ) → is_row m order i k ≡ true → Parent (edge_at m order) (first_row m order k) k
  unfolding is_row first_row
  first_fact i k h = record { row = first.1; least = λ x s. go x s (tested (ltb x m.nodes)) }
    where
      p : ℕ
      p = head_d (column m order k) m.nodes

      first : (p < m.nodes) × Slot (edge_at m order) p k
      first = row_fact p k (head_or-is_in m.nodes (column m order k) i h)

      go : (x : ℕ) → Slot (edge_at m order) x k → (ltb x m.nodes ≡ true) ⊎ (ltb x m.nodes ≡ false) → p ≤ x
      go x s (inl t) = head_or_least m.nodes (column m order k) (column-ascending k) x (row_test x k (ltb-true x m.nodes t) s)
      go x s (inr t) = omega (arith, ltb-false x m.nodes t, first.0)

  -- and there is no other
  pub first_unique : (p k : ℕ) → p < m.nodes → Parent (edge_at m order) p k → first_row m order k ≡ p
  first_unique p k lt q =
      let q' : Parent (edge_at m order) (first_row m order k) k = first_fact p k (row_test p k lt q.row) in
      omega (arith, q.least (first_row m order k) q'.row, q'.least p q.row)
