-- The elimination tree of a mesh's columns, the parent of a column being its first row: what counting row by row and writing column by column rest
-- on.
use mathlib.Core.Path.{◌≡◌, refl, sym, ap, subst, ◌∙◌}
use mathlib.Core.Logic.{◌⊎◌, inl, inr, ◌≢◌, ◌↔◌}
use mathlib.Core.Bool.{Bool, true, false, false≢true}
use mathlib.Core.List.{List, [], ◌∷◌, head_d}
use Prim.Native.Nat.{ℕ, zero, suc, ◌+◌, ◌≤◌, ◌<◌}
use native.Mathlib.Omega.{arith}
use lib.ListN.{get_or}
use Rattle.plan.specs.Lists.{is_in, every, ascending}
use Rattle.plan.specs.Mesh.{Mesh}
use Rattle.plan.specs.Elimination.{column}
use Rattle.theory.specs.Checked.{Symmetric}
use Rattle.theory.specs.Rows.{edge_at, is_row, first_row}
use Rattle.theory.proofs.Bools.{iff_eq, eq_or_ne}
use Rattle.theory.proofs.Lists.{is_in-head, is_in_tail, is_in-every}
use Rattle.theory.proofs.Ascending.{ascending_lt}
use Rattle.theory.proofs.JoinedTree.{Slot, Parent, start, up, Climbed, Shared, Child, slot_clique, slot_source, slot_neighbour, slot_climbed, slot_child, child_slot}
use Rattle.theory.proofs.Columns.{row_fact, row_test, column-ascending, first_fact, first_unique}

-- column j is met on the way up the parents from an earlier neighbour of i, while below i
pub data Climb (m : Mesh) (order : List ℕ) (i : ℕ) : ℕ → Type 0 where
  neighbour : {k : ℕ} → k < i → edge_at m order i k ≡ true → Climb m order i k
  onward : {k : ℕ} → Climb m order i k → first_row m order k < i → Climb m order i (first_row m order k)

-- p is column j or an ancestor of it: met on the way up the parents from j
pub data Above (m : Mesh) (order : List ℕ) (j : ℕ) : ℕ → Type 0 where
  self : Above m order j j
  parent : {p : ℕ} → Above m order j p → first_row m order p < m.nodes → Above m order j (first_row m order p)

module _ (m : Mesh) (order : List ℕ) where
  -- a row is later than its column, and a position
  pub row_range : (i j : ℕ) → is_row m order i j ≡ true → (j < i) × (i < m.nodes)
  row_range i j h = let t = row_fact m order i j h in (t.1.later, t.0)

  -- an earlier neighbour of i has row i
  pub row_neighbour : Symmetric m → (i k : ℕ) → k < i → i < m.nodes → edge_at m order i k ≡ true → is_row m order i k ≡ true
  unfolding edge_at
  row_neighbour s i k lt li e = row_test m order i k li (slot_neighbour (edge_at m order) i k lt (s.mirror (get_or order i 0) (get_or order k 0) e))

  -- (a) a row of column k past its parent is a row of the parent's column
  pub row_of_first : (i k : ℕ) → is_row m order i k ≡ true → first_row m order k < i → is_row m order i (first_row m order k) ≡ true
  row_of_first i k h lt =
      let t = row_fact m order i k h in
      row_test m order i (first_row m order k) t.0 (slot_clique (edge_at m order) k (first_row m order k) i (first_fact m order i k h).row t.1 lt)

  -- (b) a row of column j is a neighbour, or shares with j an earlier column
  pub row_origin : (i j : ℕ) → is_row m order i j ≡ true
      → (edge_at m order j i ≡ true) ⊎ ((k : ℕ) × (k < j) × (is_row m order i k ≡ true) × (is_row m order j k ≡ true))
  unfolding edge_at
  row_origin i j h = go (slot_source (edge_at m order) i j (row_fact m order i j h).1)
    where
      bound : (j < i) × (i < m.nodes)
      bound = row_range i j h

      go : (edge_at m order j i ≡ true) ⊎ Shared (edge_at m order) i j → (edge_at m order j i ≡ true) ⊎ ((k : ℕ) × (k < j) × (is_row m order i k ≡ true) × (is_row m order j k ≡ true))
      go (inl e) = inl e
      go (inr s) = inr (s.column, s.low.later, row_test m order i s.column bound.1 s.high, row_test m order j s.column (omega (arith, bound)) s.low)

  -- (c) the columns with row i are those met by climbing
  pub row_climb : Symmetric m → (i j : ℕ) → i < m.nodes → (is_row m order i j ≡ true) ↔ Climb m order i j
  unfolding edge_at
  row_climb s i j li = (λ h. there (slot_climbed (edge_at m order) i j (row_fact m order i j h).1), back)
    where
      there : {x : ℕ} → Climbed (edge_at m order) i x → Climb m order i x
      there (start {k = k} lt e) = neighbour lt (s.mirror (get_or order k 0) (get_or order i 0) e)
      there (up {k = k} {p = p} c q lt) = subst (λ x. Climb m order i x) is (onward (there c) (omega (arith, is)))
        where
          is : first_row m order k ≡ p
          is = first_unique m order p k (omega arith) q

      back : {x : ℕ} → Climb m order i x → is_row m order i x ≡ true
      back (neighbour {k = k} lt e) = row_neighbour s i k lt li e
      back (onward {k = k} c lt) = row_of_first i k (back c) lt

  -- for an algorithm that marks the columns of row i: a set of such columns that has i's earlier neighbours, and with a column its parent while below
  -- i, is all of them
  pub row_closure : Symmetric m → (i : ℕ) → i < m.nodes → (marked : ℕ → Bool)
      → ((k : ℕ) → k < i → edge_at m order i k ≡ true → marked k ≡ true)
      → ((k : ℕ) → marked k ≡ true → first_row m order k < i → marked (first_row m order k) ≡ true)
      → ((j : ℕ) → marked j ≡ true → is_row m order i j ≡ true)
      → (j : ℕ) → marked j ≡ is_row m order i j
  row_closure s i li marked first close sound j = iff_eq (marked j) (is_row m order i j) (sound j) (λ h. reach ((row_climb s i j li).0 h))
    where
      reach : {x : ℕ} → Climb m order i x → marked x ≡ true
      reach (neighbour {k = k} lt e) = first k lt e
      reach (onward {k = k} c lt) = close k (reach c) lt

  -- the parent is at most each row
  pub first_le : (i k : ℕ) → is_row m order i k ≡ true → first_row m order k ≤ i
  first_le i k h = (first_fact m order i k h).least i (row_fact m order i k h).1

  -- and is a row itself
  pub first-row : (i k : ℕ) → is_row m order i k ≡ true → is_row m order (first_row m order k) k ≡ true
  first-row i k h =
      let t = row_fact m order i k h in
      row_test m order (first_row m order k) k (omega (arith, t.0, first_le i k h)) (first_fact m order i k h).row

  -- row i is the parent where no earlier row is in the column: so the first row that marks a column is its parent
  pub first_here : (i k : ℕ) → is_row m order i k ≡ true → ((x : ℕ) → x < i → is_row m order x k ≡ false) → first_row m order k ≡ i
  first_here i k h none = go (eq_or_ne (first_row m order k) i)
    where
      go : (first_row m order k ≡ i) ⊎ (first_row m order k ≢ i) → first_row m order k ≡ i
      go (inl e) = e
      go (inr ne) = absurd (false≢true (sym (none (first_row m order k) (omega (arith, first_le i k h))) ∙ first-row i k h))

  -- (d) column j's rows are its later neighbours and its children's rows, without j
  pub row_children : (i j : ℕ) → i < m.nodes
      → (is_row m order i j ≡ true) ↔ (((j < i) × (edge_at m order j i ≡ true)) ⊎ ((c : ℕ) × (first_row m order c ≡ j) × (is_row m order i c ≡ true) × (i ≢ j)))
  unfolding edge_at
  row_children i j li = (λ h. there (row_fact m order i j h).1 (slot_child (edge_at m order) i j (row_fact m order i j h).1), back)
    where
      there : Slot (edge_at m order) i j → (edge_at m order j i ≡ true) ⊎ Child (edge_at m order) i j → ((j < i) × (edge_at m order j i ≡ true)) ⊎ ((c : ℕ) × (first_row m order c ≡ j) × (is_row m order i c ≡ true) × (i ≢ j))
      there s (inl e) = inl (s.later, e)
      there s (inr c) = inr (c.column, first_unique m order j c.column (omega (arith, s.later)) c.first, row_test m order i c.column li c.high, omega (arith, s.later))

      back : ((j < i) × (edge_at m order j i ≡ true)) ⊎ ((c : ℕ) × (first_row m order c ≡ j) × (is_row m order i c ≡ true) × (i ≢ j)) → is_row m order i j ≡ true
      back (inl t) = row_test m order i j li (slot_neighbour (edge_at m order) i j t.0 t.1)
      back (inr t) =
          let q : Parent (edge_at m order) j t.0 = subst (λ p. Parent (edge_at m order) p t.0) t.1 (first_fact m order i t.0 t.2) in
          row_test m order i j li (child_slot (edge_at m order) i j t.3 (record { column = t.0; first = q; high = (row_fact m order i t.0 t.2).1 }))

  -- a parent that is a position is a row of its column
  pub first_is_row : (k : ℕ) → first_row m order k < m.nodes → is_row m order (first_row m order k) k ≡ true
  unfolding first_row is_row head_d
  first_is_row k h = go (column m order k) refl h
    where
      go : (l : List ℕ) → column m order k ≡ l → head_d l m.nodes < m.nodes → is_in (head_d l m.nodes) (column m order k) ≡ true
      go [] e lt = absurd (omega arith)
      go (p ∷ rest) e lt = ap (is_in p) e ∙ is_in-head p rest

  -- so it is later than its column
  pub first-later : (k : ℕ) → first_row m order k < m.nodes → k < first_row m order k
  first-later k h = (row_range (first_row m order k) k (first_is_row k h)).0

  -- a row of column j later than an ancestor p of j is a row of column p
  pub row_of_above : (i j : ℕ) → is_row m order i j ≡ true → {p : ℕ} → Above m order j p → p < i → is_row m order i p ≡ true
  row_of_above i j h self lt = h
  row_of_above i j h (parent {p = p} a known) lt =
      let later : p < first_row m order p = first-later p known in
      row_of_first i p (row_of_above i j h a (omega arith)) lt

  -- so the parent of an ancestor passes over no row of the column
  pub parent_at_most : (i j : ℕ) → is_row m order i j ≡ true → {p : ℕ} → Above m order j p → p < i → first_row m order p ≤ i
  parent_at_most i j h {p} a lt = first_le i p (row_of_above i j h a lt)

  -- the way up from p meets row i
  meets : (steps i j : ℕ) → is_row m order i j ≡ true → (p : ℕ) → Above m order j p → p < i → i ≤ p + steps → Above m order j i
  meets zero i j h p a lt enough = absurd (omega arith)
  meets (suc steps) i j h p a lt enough =
      let le : first_row m order p ≤ i = parent_at_most i j h a lt in
      let known : first_row m order p < m.nodes = omega (arith, row_range i j h) in
      let later : p < first_row m order p = first-later p known in
      elim (eq_or_ne (first_row m order p) i) [
        | inl e ↦ subst (λ (x : ℕ). Above m order j x) e (parent a known)
        | inr e ↦ meets steps i j h (first_row m order p) (parent a known) (omega arith) (omega arith)
      ]

  -- (e) all rows of a column are its ancestors
  pub row_is_ancestor : (i j : ℕ) → is_row m order i j ≡ true → Above m order j i
  row_is_ancestor i j h = meets i i j h j self (row_range i j h).0 (omega arith)

  -- (e) check 19: a column's rows after its first are all in the first row's column
  pub rows_in_first-column : (j p : ℕ) (rest : List ℕ) → column m order j ≡ p ∷ rest → every (λ i. is_in i (column m order p)) rest ≡ true
  unfolding is_row
  rows_in_first-column j p rest e = is_in-every (λ i. is_in i (column m order p)) rest there
    where
      rises : ascending (p ∷ rest) ≡ true
      rises = subst (λ l. ascending l ≡ true) e (column-ascending m order j)

      row : (x : ℕ) → is_in x (p ∷ rest) ≡ true → is_row m order x j ≡ true
      row x t = ap (is_in x) e ∙ t

      there : (x : ℕ) → is_in x rest ≡ true → is_in x (column m order p) ≡ true
      there x t =
          let a = row_fact m order p j (row p (is_in-head p rest)) in
          let b = row_fact m order x j (row x (is_in_tail x p rest t)) in
          row_test m order x p b.0 (slot_clique (edge_at m order) j p x a.1 b.1 (ascending_lt p rest rises x t))
