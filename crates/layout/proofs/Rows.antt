-- One column more: once the neighbours and the children's rows have the mark j, the positions after j that have it are column j's rows.
use mathlib.Core.Path.{◌≡◌, sym, ap, ◌∙◌}
use mathlib.Core.Logic.{◌⊎◌, inl, inr, ◌≢◌}
use mathlib.Core.Bool.{Bool, true, cond, ◌&&◌, ◌||◌}
use mathlib.Core.List.{List}
use Prim.Native.Nat.{ℕ, ◌+◌, ◌≤◌, ◌<◌}
use native.Mathlib.Omega.{arith}
use lib.Dec.{ltb, eqb}
use lib.ListN.{get_or}
use borrow.Author.Tests.{eqb-true, eq-eqb, ne_eqb, ltb-true, lt-ltb}
use Rattle.plan.specs.Lists.{list_at, below, is_in}
use Rattle.plan.specs.Mesh.{Mesh}
use Rattle.plan.specs.Elimination.{column}
use Rattle.theory.specs.Rows.{edge_at, is_row, first_row}
use Rattle.theory.proofs.Bools.{or_cases, or_left, or_right, and_left, and_right, and_both, tested, iff_eq, cond_true, cond_false}
use Rattle.theory.proofs.Lists.{exists-is_in, is_in-exists, keep_ext}
use Rattle.theory.proofs.Ranges.{is_in-below, below-is_in}
use Rattle.theory.proofs.Columns.{column-keep}
use Rattle.theory.proofs.EliminationTree.{row_range, row_children, first-later}
use Rattle.mesh.specs.Lists.{none}
use Rattle.layout.specs.Arrays.{Ordered, Tree, Marked, Unmarked, neighbour_position, child_row, marked_below, Meets}
use Rattle.layout.proofs.Marks.{marked_both, neighbour_edge}
use Rattle.layout.proofs.Climbs.{tree-first, first-tree, tree_meets}

-- the columns before j are found in the rows
abbrev pub Listed : Mesh → List ℕ → List ℕ → List ℕ → ℕ → Type 0
Listed m order column_starts rows j = (c : ℕ) → c < j → list_at column_starts rows c ≡ column m order c

-- whether position i is that of a neighbour of j, or a row of a child of j
abbrev touched : Mesh → List ℕ → List ℕ → List ℕ → List ℕ → ℕ → ℕ → Bool
touched m order tree column_starts rows j i = edge_at m order j i || child_row m.nodes tree column_starts rows j i

module _ (m : Mesh) (order tree : List ℕ) (t : Tree m order tree) (small : m.nodes ≤ none) (j : ℕ) (lj : j < m.nodes) where
  -- a child of j has j as its first row, and is earlier
  pub child_column : (c : ℕ) → c < m.nodes → get_or tree c 0 ≡ j → (first_row m order c ≡ j) × (c < j)
  child_column c lc e =
      let f = first-tree m order tree t c lc (omega (arith, e)) in
      (omega (arith, e, f.0), omega (arith, e, f.0, first-later m order c f.1))

  -- later neighbours and the children's rows are the rows of column j
  touched_row : (column_starts rows : List ℕ) → Listed m order column_starts rows j → (i : ℕ) → j < i → i < m.nodes → touched m order tree column_starts rows j i ≡ is_row m order i j
  unfolding child_row is_row
  touched_row column_starts rows listed i lt li = iff_eq (touched m order tree column_starts rows j i) (is_row m order i j) there (λ h. back ((row_children m order i j li).0 h))
    where
      there : touched m order tree column_starts rows j i ≡ true → is_row m order i j ≡ true
      there h = elim (or_cases (edge_at m order j i) (child_row m.nodes tree column_starts rows j i) h) [
        | inl e ↦ (row_children m order i j li).1 (inl (lt, e))
        | inr e ↦ (let r = exists-is_in (λ c. eqb (get_or tree c 0) j && is_in i (list_at column_starts rows c)) (below m.nodes) e in
            let f = child_column r.0 (is_in-below m.nodes r.0 r.1) (eqb-true _ _ (and_left (eqb (get_or tree r.0 0) j) _ r.2)) in
            (row_children m order i j li).1
            (inr (r.0, f.0, ap (is_in i) (sym (listed r.0 f.1)) ∙ and_right (eqb (get_or tree r.0 0) j) _ r.2, λ same. omega (arith, same))))
      ]

      back : ((j < i) × (edge_at m order j i ≡ true)) ⊎ ((c : ℕ) × (first_row m order c ≡ j) × (is_row m order i c ≡ true) × (i ≢ j)) → touched m order tree column_starts rows j i ≡ true
      back (inl e) = or_left (edge_at m order j i) _ e.1
      back (inr r) =
          let lc : r.0 < m.nodes = omega (arith, row_range m order i r.0 r.2) in
          let known : first_row m order r.0 < m.nodes = omega (arith, r.1) in
          let e : get_or tree r.0 0 ≡ j = tree-first m order tree t r.0 lc known ∙ r.1 in
          or_right (edge_at m order j i) _
          (is_in-exists (λ c. eqb (get_or tree c 0) j && is_in i (list_at column_starts rows c)) (below m.nodes) r.0 (below-is_in m.nodes r.0 lc)
          (and_both (eqb (get_or tree r.0 0) j) _ (eq-eqb _ _ e) (ap (is_in i) (listed r.0 (child_column r.0 lc e).1) ∙ r.2)))

-- column j has been marked: its neighbours' positions first, then its children's rows, which are found in the rows
pub record Marking (m : Mesh) (order positions tree column_starts rows : List ℕ) (j : ℕ) (before between after : List ℕ) : Type 0 where
  pub ordered : Ordered m order positions
  pub parents : Tree m order tree
  pub few : m.nodes ≤ none
  pub inside : j < m.nodes
  pub listed : Listed m order column_starts rows j
  pub clear : Unmarked m.nodes j before
  pub neighbours : Marked j (neighbour_position m order positions j) before between
  pub children : Marked j (child_row m.nodes tree column_starts rows j) between after

module _ {m : Mesh} {order positions tree column_starts rows : List ℕ} {j : ℕ} {before between after : List ℕ}
    (w : Marking m order positions tree column_starts rows j before between after) where
  -- the mark of a position
  mark : (i : ℕ) → i < m.nodes → get_or after i 0 ≡ cond (touched m order tree column_starts rows j i) j (get_or before i 0)
  mark i li =
      marked_both j (neighbour_position m order positions j) (child_row m.nodes tree column_starts rows j) before between after w.neighbours w.children i
      ∙ ap (λ (b : Bool). cond (b || child_row m.nodes tree column_starts rows j i) j (get_or before i 0)) (neighbour_edge m order positions w.ordered j i li)

  -- it is j, or it was there before
  pub still_unmarked : Unmarked m.nodes (j + 1) after
  still_unmarked i r li le lr q = elim (tested (touched m order tree column_starts rows j i)) [
    | inl b ↦ omega (arith, mark i li ∙ cond_true _ j (get_or before i 0) b)
    | inr b ↦ w.clear i r li (omega arith) lr (sym (mark i li ∙ cond_false _ j (get_or before i 0) b) ∙ q)
  ]

  -- a position after j has the mark j where it is a row of column j
  marked_row : (i : ℕ) → j < i → i < m.nodes → eqb (get_or after i 0) j ≡ is_row m order i j
  marked_row i lt li = elim (tested (is_row m order i j)) [
    | inl b ↦ eq-eqb _ _ (mark i li ∙ cond_true _ j (get_or before i 0) (same ∙ b)) ∙ sym b
    | inr b ↦ ne_eqb (get_or after i 0) j (λ e. w.clear i j li (omega arith) w.inside (sym (mark i li ∙ cond_false _ j (get_or before i 0) (same ∙ b)) ∙ e)) ∙ sym b
  ]
    where
      same : touched m order tree column_starts rows j i ≡ is_row m order i j
      same = touched_row m order tree w.parents w.few j w.inside column_starts rows w.listed i lt li

  -- so those that have it make up the column
  pub marked_column : marked_below after j m.nodes ≡ column m order j
  unfolding marked_below
  marked_column = keep_ext (λ i. ltb j i && eqb (get_or after i 0) j) (λ i. is_row m order i j) (below m.nodes) same ∙ sym (column-keep m order j)
    where
      same : (i : ℕ) → is_in i (below m.nodes) ≡ true → (ltb j i && eqb (get_or after i 0) j) ≡ is_row m order i j
      same i h =
          let li : i < m.nodes = is_in-below m.nodes i h in
          iff_eq (ltb j i && eqb (get_or after i 0) j) (is_row m order i j)
          (λ b. sym (marked_row i (ltb-true j i (and_left (ltb j i) _ b)) li) ∙ and_right (ltb j i) _ b)
          (λ b. let lt : j < i = (row_range m order i j b).0 in and_both (ltb j i) _ (lt-ltb j i lt) (marked_row i lt li ∙ b))

  -- and the way up from j meets them
  pub marked_meets : Meets m.nodes j tree after
  marked_meets = tree_meets m order tree w.parents j after w.inside (λ i lt li e. sym (marked_row i lt li) ∙ eq-eqb _ _ e)
