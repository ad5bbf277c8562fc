-- The way up the elimination tree from column j: the positions that have the mark j are met on it in ascending order.
use mathlib.Core.Path.{◌≡◌, refl, sym, ap, subst, ◌∙◌}
use mathlib.Core.Logic.{◌⊎◌, inl, inr, ◌≢◌}
use mathlib.Core.Bool.{Bool, true, false, cond, ◌&&◌}
use mathlib.Core.List.{List, [], ◌∷◌, ◌++◌, append-nil}
use Prim.Native.Nat.{ℕ, suc, ◌+◌, ◌-◌, ◌≤◌, ◌<◌}
use native.Mathlib.Nat.{zero-add}
use native.Mathlib.Omega.{arith}
use lib.Dec.{ltb, eqb}
use lib.ListN.{length, take, drop, set, get_or, length-append, length-set}
use lib.Seq.{take-set-le, drop-set-lt, get_or-set_same}
use borrow.Author.Tests.{eqb-true, ltb-true, lt-ltb, le-ltb}
use Rattle.plan.specs.Lists.{keep, up_from, below, written}
use Rattle.plan.specs.Mesh.{Mesh}
use Rattle.theory.specs.Rows.{is_row, first_row}
use Rattle.theory.proofs.Bools.{and_left, and_right, tested, cond_true, cond_false, lt_or_le}
use Rattle.theory.proofs.Lists.{take_more, is_in-none, of_keep, keep_append, exists-is_in}
use Rattle.theory.proofs.Ranges.{is_in-up_from, up_from_add, up_from_snoc}
use Rattle.theory.proofs.Counting.{count-exists}
use Rattle.theory.proofs.EliminationTree.{Above, self as above-self, parent as Above-parent, first-later, parent_at_most}
use Rattle.mesh.specs.Lists.{none}
use Rattle.layout.specs.Arrays.{Tree, Rising, marked_below, Ancestor, self, parent, Meets}
use Rattle.layout.proofs.Stores.{written-parts}

-- ---- lists

-- a list of no length is empty
no_length : (l : List ℕ) → length l ≤ 0 → l ≡ []
no_length [] h = refl
no_length (x ∷ l) h = absurd (omega arith)

-- ---- the positions with the mark j

module _ (marks : List ℕ) (j : ℕ) where
  -- whether i is after j and has the mark j
  abbrev later : ℕ → Bool
  later i = ltb j i && eqb (get_or marks i 0) j

  -- what it says
  later_fact : (i : ℕ) → later i ≡ true → (j < i) × (get_or marks i 0 ≡ j)
  later_fact i t = (ltb-true j i (and_left (ltb j i) _ t), eqb-true (get_or marks i 0) j (and_right (ltb j i) _ t))

  -- those below a, and those from a on
  marked_split : (a n : ℕ) → a ≤ n → marked_below marks j n ≡ marked_below marks j a ++ keep later (up_from a (n - a))
  unfolding marked_below
  marked_split a n le =
      let e : n ≡ a + (n - a) = omega arith in
      ap (λ (k : ℕ). keep later (up_from 0 k)) e
      ∙ ap (keep later) (up_from_add 0 a (n - a) ∙ ap (λ (k : ℕ). up_from 0 a ++ up_from k (n - a)) (zero-add a))
      ∙ keep_append later (up_from 0 a) (up_from a (n - a))

  -- none is after j and at most j
  marked_none : marked_below marks j (j + 1) ≡ []
  unfolding marked_below
  marked_none = is_in-none (keep later (below (j + 1)))
      (λ x m. let t = of_keep later (below (j + 1)) x m in absurd (omega (arith, is_in-up_from (j + 1) 0 x t.0, (later_fact x t.1).0)))

  -- where not all are below a, there is one from a on
  marked_left : (a n : ℕ) → a ≤ n → length (marked_below marks j a) < length (marked_below marks j n) → (i : ℕ) × (a ≤ i) × (i < n) × (get_or marks i 0 ≡ j)
  marked_left a n le lt =
      let some : 0 < length (keep later (up_from a (n - a))) = omega (arith, ap length (marked_split a n le), length-append (marked_below marks j a) (keep later (up_from a (n - a)))) in
      let t = exists-is_in later (up_from a (n - a)) (count-exists later (up_from a (n - a)) some) in
      let range = is_in-up_from (n - a) a t.0 t.1 in
      (t.0, range.0, omega (arith, range.1, range.0), (later_fact t.0 t.2).1)

  -- where there are no more of them, those below a are all
  marked_all : (a n : ℕ) → a ≤ n → length (marked_below marks j n) ≤ length (marked_below marks j a) → marked_below marks j a ≡ marked_below marks j n
  marked_all a n le few =
      let none : keep later (up_from a (n - a)) ≡ [] =
      no_length (keep later (up_from a (n - a))) (omega (arith, ap length (marked_split a n le), length-append (marked_below marks j a) (keep later (up_from a (n - a))))) in
      sym (marked_split a n le ∙ ap (λ (l : List ℕ). marked_below marks j a ++ l) none ∙ append-nil (marked_below marks j a))

  -- where there is none from a up to p, position p is the next to be tried
  marked_next : (a p : ℕ) → a ≤ p → j < p → ((i : ℕ) → a ≤ i → i < p → get_or marks i 0 ≢ j)
      → marked_below marks j (p + 1) ≡ marked_below marks j a ++ cond (eqb (get_or marks p 0) j) (p ∷ []) []
  marked_next a p le lt clear =
      marked_split a (p + 1) (omega arith) ∙ ap (λ (l : List ℕ). marked_below marks j a ++ l) last
    where
      between : keep later (up_from a (p - a)) ≡ []
      between = is_in-none (keep later (up_from a (p - a)))
          (λ x m. let t = of_keep later (up_from a (p - a)) x m in
          let range = is_in-up_from (p - a) a x t.0 in
          clear x range.0 (omega (arith, range.0, range.1)) (later_fact x t.1).1)

      last : keep later (up_from a (p + 1 - a)) ≡ cond (eqb (get_or marks p 0) j) (p ∷ []) []
      last =
          let many : p + 1 - a ≡ suc (p - a) = omega arith in
          let here : a + (p - a) ≡ p = omega arith in
          ap (keep later) (ap (up_from a) many ∙ up_from_snoc a (p - a) ∙ ap (λ (x : ℕ). up_from a (p - a) ++ (x ∷ [])) here)
          ∙ keep_append later (up_from a (p - a)) (p ∷ [])
          ∙ ap (λ (l : List ℕ). l ++ keep later (p ∷ [])) between
          ∙ rw (lt-ltb j p lt)

-- ---- the way up

-- the way up from j has come to k: the marked positions up to k are at the front of the rows, and behind the places of all marked positions the
-- rows are as found
pub record Ascent (n j : ℕ) (tree marks found rows : List ℕ) (k at : ℕ) : Type 0 where
  pub known : k < n
  pub later : j ≤ k
  pub above : Ancestor tree j k
  pub many : at ≡ length (marked_below marks j (k + 1))
  pub front : take at rows ≡ marked_below marks j (k + 1)
  pub behind : drop (length (marked_below marks j n)) rows ≡ drop (length (marked_below marks j n)) found

module _ (n j : ℕ) (tree marks found : List ℕ) (small : n ≤ none) (h : Meets n j tree marks) where
  -- nothing is written
  pub ascent_start : j < n → Ascent n j tree marks found found j 0
  ascent_start lt = record { known = lt; later = omega arith; above = self; many = rw (marked_none marks j); front = sym (marked_none marks j); behind = refl }

  module _ (rows : List ℕ) (k at : ℕ) (c : Ascent n j tree marks found rows k at) where
    -- where not all are written there is a parent
    pub ascent_parent : at < length (marked_below marks j n) → (k < get_or tree k 0) × (get_or tree k 0 < n)
    ascent_parent lt =
        let i = marked_left marks j (k + 1) n (omega (arith, c.known)) (omega (arith, c.many)) in
        let le = h.met k i.0 c.above (omega (arith, i.1)) i.2 i.3 in
        h.rising k c.known (omega (arith, le, i.2))

    -- it is written, and the place moves on if it has the mark
    pub ascent_more : (rows' : List ℕ) (at' : ℕ) → at < length (marked_below marks j n) → at < length rows
        → at' ≡ at + cond (eqb (get_or marks (get_or tree k 0) 0) j) 1 0
        → rows' ≡ set rows at (get_or tree k 0)
        → Ascent n j tree marks found rows' (get_or tree k 0) at'
    ascent_more rows' at' lt room e f = go (tested (eqb (get_or marks p 0) j))
      where
        p : ℕ
        p = get_or tree k 0

        up : (k < p) × (p < n)
        up = ascent_parent lt

        some : p ≢ none
        some q = omega (arith, up.1)

        next : marked_below marks j (p + 1) ≡ marked_below marks j (k + 1) ++ cond (eqb (get_or marks p 0) j) (p ∷ []) []
        next = marked_next marks j (k + 1) p (omega (arith, up.0)) (omega (arith, up.0, c.later))
            (λ i le li m. absurd (omega (arith, h.met k i c.above (omega arith) (omega (arith, up.1)) m)))

        taken : eqb (get_or marks p 0) j ≡ true → marked_below marks j (p + 1) ≡ marked_below marks j (k + 1) ++ (p ∷ [])
        taken t = next ∙ ap (λ (l : List ℕ). marked_below marks j (k + 1) ++ l) (cond_true _ (p ∷ []) [] t)

        passed : eqb (get_or marks p 0) j ≡ false → marked_below marks j (p + 1) ≡ marked_below marks j (k + 1)
        passed t = next ∙ ap (λ (l : List ℕ). marked_below marks j (k + 1) ++ l) (cond_false _ (p ∷ []) [] t) ∙ append-nil (marked_below marks j (k + 1))

        -- the rows before the place are as before, and the position is at it
        before : take at (set rows at p) ≡ marked_below marks j (k + 1)
        before = take-set-le at rows at p (omega arith) ∙ c.front

        there : take (at + 1) (set rows at p) ≡ marked_below marks j (k + 1) ++ (p ∷ [])
        there = take_more (set rows at p) at 0 (omega (arith, length-set rows at p, room)) ∙ rw (before, get_or-set_same rows at p 0 room)

        left : drop (length (marked_below marks j n)) rows' ≡ drop (length (marked_below marks j n)) found
        left = ap (drop (length (marked_below marks j n))) f ∙ drop-set-lt (length (marked_below marks j n)) rows at p lt ∙ c.behind

        go : (eqb (get_or marks p 0) j ≡ true) ⊎ (eqb (get_or marks p 0) j ≡ false) → Ascent n j tree marks found rows' p at'
        go (inl t) =
            let place : at' ≡ at + 1 = e ∙ ap (λ (x : ℕ). at + x) (cond_true _ 1 0 t) in
            record {
              known = up.1;
              later = omega (arith, up.0, c.later);
              above = parent c.above some;
              many = place ∙ ap (λ (x : ℕ). x + 1) c.many ∙ sym (ap length (taken t) ∙ length-append (marked_below marks j (k + 1)) (p ∷ []));
              front = rw (place, f) (there ∙ sym (taken t));
              behind = left;
            }
        go (inr t) =
            let place : at' ≡ at = omega (arith, e, cond_false {A = ℕ} (eqb (get_or marks p 0) j) 1 0 t) in
            record {
              known = up.1;
              later = omega (arith, up.0, c.later);
              above = parent c.above some;
              many = place ∙ c.many ∙ sym (ap length (passed t));
              front = rw (place, f) (before ∙ sym (passed t));
              behind = left;
            }

    -- all are written
    pub ascent_end : length (marked_below marks j n) ≤ at → rows ≡ written (marked_below marks j n) found
    ascent_end le =
        let all : marked_below marks j (k + 1) ≡ marked_below marks j n = marked_all marks j (k + 1) n (omega (arith, c.known)) (omega (arith, c.many)) in
        written-parts at (marked_below marks j n) found rows (c.many ∙ ap length all) (c.front ∙ all) c.behind

-- ---- the elimination tree of a mesh

module _ (m : Mesh) (order tree : List ℕ) (t : Tree m order tree) where
  -- a first row is the parent
  pub tree-first : (k : ℕ) → k < m.nodes → first_row m order k < m.nodes → get_or tree k 0 ≡ first_row m order k
  tree-first k lk lt = t k lk ∙ cond_true (ltb (first_row m order k) m.nodes) (first_row m order k) none (lt-ltb _ _ lt)

  -- and a parent is the first row
  pub first-tree : (k : ℕ) → k < m.nodes → get_or tree k 0 ≢ none → (get_or tree k 0 ≡ first_row m order k) × (first_row m order k < m.nodes)
  first-tree k lk some = elim (lt_or_le (first_row m order k) m.nodes) [
    | inl lt ↦ (tree-first k lk lt, lt)
    | inr le ↦ absurd (some (t k lk ∙ cond_false (ltb (first_row m order k) m.nodes) (first_row m order k) none (le-ltb _ _ le)))
  ]

  -- it is later
  pub tree-rising : Rising m.nodes tree
  tree-rising k lk some =
      let f = first-tree k lk some in
      (omega (arith, f.0, first-later m order k f.1), omega (arith, f.0, f.1))

  -- an ancestor by the array is one of the columns
  ancestor_above : (j : ℕ) → j < m.nodes → {k : ℕ} → Ancestor tree j k → (j ≤ k) × (k < m.nodes) × Above m order j k
  ancestor_above j lj self = (omega arith, lj, above-self)
  ancestor_above j lj (parent {k = k} a some) =
      let b = ancestor_above j lj a in
      let f = first-tree k b.1 some in
      (omega (arith, b.0, f.0, first-later m order k f.1), omega (arith, f.0, f.1), subst (λ (x : ℕ). Above m order j x) (sym f.0) (Above-parent b.2 f.1))

  -- the way up from j passes over no row of column j
  pub tree_meets : (j : ℕ) (marks : List ℕ) → j < m.nodes → ((i : ℕ) → j < i → i < m.nodes → get_or marks i 0 ≡ j → is_row m order i j ≡ true) → Meets m.nodes j tree marks
  tree_meets j marks lj rows = record { rising = tree-rising; met = met }
    where
      met : (k i : ℕ) → Ancestor tree j k → k < i → i < m.nodes → get_or marks i 0 ≡ j → get_or tree k 0 ≤ i
      met k i a lt li e =
          let b = ancestor_above j lj a in
          let le = parent_at_most m order i j (rows i (omega (arith, b.0)) li e) b.2 lt in
          omega (arith, le, tree-first k b.1 (omega (arith, le)))
