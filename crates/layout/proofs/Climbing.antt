-- The laws of counting by climbing: one row's marks from the first neighbour to the last.
use mathlib.Core.Path.{◌≡◌, refl, sym, ap, ◌∙◌}
use mathlib.Core.Logic.{◌≢◌, inl, inr}
use mathlib.Core.Bool.{Bool, true, false, cond, ◌&&◌}
use mathlib.Core.List.{List, [], ◌∷◌}
use Prim.Native.Nat.{ℕ, ◌+◌, ◌≤◌, ◌<◌}
use native.Mathlib.Numerals.{add-one}
use native.Mathlib.Omega.{arith}
use lib.Dec.{ltb, eqb}
use lib.ListN.{length, drop, get_or, set}
use lib.Seq.{get_or-set_same, get_or-set_other, drop-set-lt}
use borrow.Author.Tests.{ltb-true, lt-ltb, le-ltb, eqb-true, eqb-false, eq-eqb, ne_eqb}
use Rattle.plan.specs.Lists.{below, up_from, index_of}
use Rattle.plan.specs.Mesh.{Mesh, neighbours_of, adjacent}
use Rattle.theory.specs.Counting.{count}
use Rattle.theory.specs.Checked.{Symmetric}
use Rattle.theory.specs.Rows.{edge_at, is_row, first_row}
use Rattle.theory.proofs.Bools.{tested, eq_or_ne, lt_or_le, refuted, clash, and_left, and_right, and_both, cond_true}
use Rattle.theory.proofs.Lists.{is_in-get_or, get_or-index_of, index_of_lt}
use Rattle.theory.proofs.Ranges.{up_from_snoc, length-up_from}
use Rattle.theory.proofs.Counting.{unit, count-append, count_cons, count_le}
use Rattle.mesh.proofs.Lists.{entry_node}
use Rattle.theory.proofs.EliminationTree.{first_is_row, row_neighbour, row_range, row_of_first, row_closure, first_le, first-later}
use Rattle.mesh.specs.Lists.{none}
use Rattle.layout.specs.Arrays.{Ordered, Unmarked, parent_below, row_count_below, CountedBelow}
use Rattle.layout.specs.Climbing.{counted_up_to, Climbing, Climbed}
use Rattle.layout.proofs.Stores.{get_or-set_cases}
use Rattle.layout.proofs.Inverse.{order_of_inverse, inverse_of_order}

-- On the way up from column `start`: k is next to be looked at.
pub record Way (m : Mesh) (order : List ℕ) (i start : ℕ) (tree₀ marks₀ counts₀ tree marks counts : List ℕ) (k : ℕ) : Type 0 where
  pub climbing : Climbing m order i k tree marks counts
  pub low : k ≤ i
  pub row : k < i → is_row m order i k ≡ true
  pub reached : start ≢ k → get_or marks start 0 ≡ i
  pub kept : (x : ℕ) → get_or marks₀ x 0 ≡ i → get_or marks x 0 ≡ i
  pub rest_tree : drop m.nodes tree ≡ drop m.nodes tree₀
  pub rest_counts : drop m.nodes counts ≡ drop m.nodes counts₀

module _ (m : Mesh) (order : List ℕ) where
  -- ---- rows below i, and below i + 1

  -- row i is counted
  row-count_more : (i k : ℕ) → row_count_below m order (i + 1) k ≡ row_count_below m order i k + unit (is_row m order i k)
  row-count_more i k =
      let t = ap (count (λ r. is_row m order r k)) (ap (up_from 0) (add-one i) ∙ up_from_snoc 0 i) in
      let s = count-append (λ r. is_row m order r k) (below i) ((0 + i) ∷ []) in
      let c = count_cons (λ r. is_row m order r k) (0 + i) [] in
      let z : 0 + i ≡ i = omega arith in
      let e : unit (is_row m order (0 + i) k) ≡ unit (is_row m order i k) = rw z in
      omega arith

  -- there are at most i
  row-count-few : (i k : ℕ) → row_count_below m order i k ≤ i
  row-count-few i k = omega (arith, count_le (λ r. is_row m order r k) (below i), length-up_from i 0)

  -- a column that has row i has its parent by then
  parent_here : (i k : ℕ) → is_row m order i k ≡ true → parent_below m order (i + 1) k ≡ first_row m order k
  parent_here i k h = cond_true (ltb (first_row m order k) (i + 1)) (first_row m order k) none (lt-ltb (first_row m order k) (i + 1) (omega (arith, first_le m order i k h)))

  -- a column that does not have row i keeps the parent that it has, if any
  parent-same : (i k : ℕ) → i < m.nodes → is_row m order i k ≡ false → parent_below m order (i + 1) k ≡ parent_below m order i k
  parent-same i k li h = elim (lt_or_le (first_row m order k) i) [
    | inl l ↦
        let a : ltb (first_row m order k) (i + 1) ≡ true = lt-ltb (first_row m order k) (i + 1) (omega arith) in
        let b : ltb (first_row m order k) i ≡ true = lt-ltb (first_row m order k) i l in
        rw (a, b)
    | inr l ↦ elim (eq_or_ne (first_row m order k) i) [
      | inl e ↦ clash (is_row m order i k) (rw e at (first_is_row m order k (omega arith))) h
      | inr e ↦
          let a : ltb (first_row m order k) (i + 1) ≡ false = le-ltb (first_row m order k) (i + 1) (omega (arith, e)) in
          let b : ltb (first_row m order k) i ≡ false = le-ltb (first_row m order k) i l in
          rw (a, b)
    ]
  ]

  -- what is stored as a column's parent once row i touches it
  parent_touched : (i k : ℕ) → i < none → is_row m order i k ≡ true
      → cond (eqb (parent_below m order i k) none) i (parent_below m order i k) ≡ first_row m order k
  parent_touched i k few h = elim (lt_or_le (first_row m order k) i) [
    | inl l ↦
        let a : ltb (first_row m order k) i ≡ true = lt-ltb (first_row m order k) i l in
        let b : eqb (first_row m order k) none ≡ false = ne_eqb (first_row m order k) none (omega arith) in
        rw (a, b)
    | inr l ↦
        let a : ltb (first_row m order k) i ≡ false = le-ltb (first_row m order k) i l in
        let e : first_row m order k ≡ i = omega (arith, first_le m order i k h) in
        rw a (sym e)
  ]

  module _ (i : ℕ) (li : i < m.nodes) where
    -- ---- one row

    -- column i does not have row i
    own_row : is_row m order i i ≡ false
    own_row = refuted (is_row m order i i) (λ h. omega (arith, row_range m order i i h))

    -- the row begins: position i alone has the mark, which is i
    pub climbing-start : (tree marks counts : List ℕ) (mark : ℕ) → mark ≡ i → i < length marks → CountedBelow m order i tree counts → Unmarked m.nodes i marks
        → Climbing m order i i tree (set marks i mark) counts
    climbing-start tree marks counts mark e room c u = rw e (record {
      parent = λ k l. c.parent k l ∙ elim (eq_or_ne k i) [
        | inl e ↦ rw (e, own, eq-eqb i i refl) (sym (parent-same i i li own_row))
        | inr e ↦ rw (other k e, fresh k l)
      ];
      rows = λ k l. c.rows k l ∙ elim (eq_or_ne k i) [
        | inl e ↦ rw (e, own, eq-eqb i i refl) (let t = row-count_more i i in let z : unit (is_row m order i i) ≡ 0 = rw own_row in omega arith)
        | inr e ↦ rw (other k e, fresh k l)
      ];
      self = own;
      sound = λ k l ne e. absurd (u k i l (omega arith) li (sym (other k ne) ∙ e));
      closed = λ k l e f ne. elim (eq_or_ne k i) [
        | inl q ↦ absurd (let t : first_row m order i < i = rw q at f in omega (arith, first-later m order i (omega arith)))
        | inr q ↦ absurd (u k i l (omega arith) li (sym (other k q) ∙ e))
      ];
      unmarked = λ k r l le lr. get_or-set_cases (λ y. y ≢ r) marks i i k room (λ q. omega arith) (λ q. u k r l (omega arith) lr);
    })
      where
        own : get_or (set marks i i) i 0 ≡ i
        own = get_or-set_same marks i i 0 room

        other : (k : ℕ) → k ≢ i → get_or (set marks i i) k 0 ≡ get_or marks k 0
        other k ne = get_or-set_other marks i k i 0 ne

        fresh : (k : ℕ) → k < m.nodes → eqb (get_or marks k 0) i ≡ false
        fresh k l = ne_eqb (get_or marks k 0) i (u k i l (omega arith) li)

    -- another parent may be next where this one is marked, or is not before i
    climbing-next : (next other : ℕ) (tree marks counts : List ℕ) → (next < i → get_or marks next 0 ≡ i)
        → Climbing m order i next tree marks counts → Climbing m order i other tree marks counts
    climbing-next next other tree marks counts f c = record {
      parent = c.parent;
      rows = c.rows;
      self = c.self;
      sound = c.sound;
      closed = λ k l e lt ne. elim (eq_or_ne (first_row m order k) next) [
        | inl q ↦ rw q (f (omega arith))
        | inr q ↦ c.closed k l e lt q
      ];
      unmarked = c.unmarked;
    }

    -- column k, which has row i, is counted and marked; then its parent is next
    climbing-step : (k : ℕ) (tree marks counts : List ℕ) → k < length tree → k < length marks → k < length counts
        → is_row m order i k ≡ true → get_or marks k 0 ≢ i → Climbing m order i k tree marks counts
        → Climbing m order i (first_row m order k) (set tree k (first_row m order k)) (set marks k i) (set counts k (get_or counts k 0 + 1))
    climbing-step k tree marks counts rt rm rc h ne c = record {
      parent = λ x l. elim (eq_or_ne x k) [
        | inl e ↦ rw (e, get_or-set_same tree k (first_row m order k) 0 rt, own, eq-eqb i i refl) (sym (parent_here i k h))
        | inr e ↦ rw (get_or-set_other tree k x (first_row m order k) 0 e, other x e) (c.parent x l)
      ];
      rows = λ x l. elim (eq_or_ne x k) [
        | inl e ↦ rw (e, get_or-set_same counts k (get_or counts k 0 + 1) 0 rc, own, eq-eqb i i refl)
            (let t = row-count_more i k in let z : unit (is_row m order i k) ≡ 1 = rw h in let q : get_or counts k 0 ≡ row_count_below m order i k = rw (ne_eqb (get_or marks k 0) i ne) at (c.rows k lk) in omega arith)
        | inr e ↦ rw (get_or-set_other counts k x (get_or counts k 0 + 1) 0 e, other x e) (c.rows x l)
      ];
      self = rw (other i (omega (arith, below_row))) c.self;
      sound = λ x l n. get_or-set_cases (λ y. y ≡ i → is_row m order i x ≡ true) marks k i x rm (λ q e. rw q h) (λ q. c.sound x l n);
      closed = λ x l e lt n. elim (eq_or_ne x k) [
        | inl q ↦ absurd (n (ap (first_row m order) q))
        | inr q ↦ get_or-set_cases (λ y. y ≡ i) marks k i (first_row m order x) rm (λ p. refl) (c.closed x l (sym (other x q) ∙ e) lt)
      ];
      unmarked = λ x r l le lr. get_or-set_cases (λ y. y ≢ r) marks k i x rm (λ q. omega arith) (λ q. c.unmarked x r l le lr);
    }
      where
        below_row : k < i
        below_row = (row_range m order i k h).0

        lk : k < m.nodes
        lk = omega (arith, below_row)

        own : get_or (set marks k i) k 0 ≡ i
        own = get_or-set_same marks k i 0 rm

        other : (x : ℕ) → x ≢ k → get_or (set marks k i) x 0 ≡ get_or marks x 0
        other x n = get_or-set_other marks k x i 0 n

    -- no count is above i + 1
    pub climbing-few : (next k : ℕ) (tree marks counts : List ℕ) → Climbing m order i next tree marks counts → k < m.nodes → get_or counts k 0 ≤ i + 1
    climbing-few next k tree marks counts c l =
        let few = row-count-few (counted_up_to marks i k) k in
        let here : counted_up_to marks i k ≤ i + 1 = elim (tested (eqb (get_or marks k 0) i)) [ inl e ↦ rw e (omega arith) | inr e ↦ rw e (omega arith) ] in
        omega (arith, c.rows k l)

    -- ---- one way up

    module _ (start : ℕ) (tree₀ marks₀ counts₀ : List ℕ) where
      -- the way begins
      pub way_start : start ≤ i → (start < i → is_row m order i start ≡ true)
          → Climbing m order i i tree₀ marks₀ counts₀ → Way m order i start tree₀ marks₀ counts₀ tree₀ marks₀ counts₀ start
      way_start low row c = record {
        climbing = climbing-next i start tree₀ marks₀ counts₀ (λ l. absurd (omega arith)) c;
        low = low;
        row = row;
        reached = λ ne. absurd (ne refl);
        kept = λ x e. e;
        rest_tree = refl;
        rest_counts = refl;
      }

      module _ (tree marks counts : List ℕ) (k : ℕ) (way : Way m order i start tree₀ marks₀ counts₀ tree marks counts k) where
        -- a column without the mark is before i
        unmarked-before : get_or marks k 0 ≢ i → k < i
        unmarked-before ne = elim (eq_or_ne k i) [ inl e ↦ absurd (ne (rw e way.climbing.self)) | inr e ↦ omega (arith, e, way.low) ]

        -- what is stored as its parent is its first row
        way_parent : i < none → get_or marks k 0 ≢ i → cond (eqb (get_or tree k 0) none) i (get_or tree k 0) ≡ first_row m order k
        way_parent few ne =
            let lt : k < i = unmarked-before ne in
            let is : get_or tree k 0 ≡ parent_below m order i k = rw (ne_eqb (get_or marks k 0) i ne) at (way.climbing.parent k (omega arith)) in
            rw is (parent_touched i k few (way.row lt))

        -- one step up, to the parent p
        pub way_step : (p : ℕ) → k < length tree → k < length marks → k < length counts → i < none → get_or marks k 0 ≢ i
            → p ≡ cond (eqb (get_or tree k 0) none) i (get_or tree k 0)
            → (k < p) × Way m order i start tree₀ marks₀ counts₀ (set tree k p) (set marks k i) (set counts k (get_or counts k 0 + 1)) p
        way_step p rt rm rc few ne e = rw (e ∙ way_parent few ne) (
          first-later m order k (omega (arith, first_le m order i k row)),
          record {
            climbing = climbing-step k tree marks counts rt rm rc row ne way.climbing;
            low = first_le m order i k row;
            row = λ l. row_of_first m order i k row l;
            reached = λ n. get_or-set_cases (λ y. y ≡ i) marks k i start rm (λ q. refl) way.reached;
            kept = λ x h. get_or-set_cases (λ y. y ≡ i) marks k i x rm (λ q. refl) (λ q. way.kept x h);
            rest_tree = drop-set-lt m.nodes tree k (first_row m order k) inside ∙ way.rest_tree;
            rest_counts = drop-set-lt m.nodes counts k (get_or counts k 0 + 1) inside ∙ way.rest_counts;
          },
        )
          where
            row : is_row m order i k ≡ true
            row = way.row (unmarked-before ne)

            inside : k < m.nodes
            inside = omega (arith, unmarked-before ne)

        -- the way ends
        pub way_end : get_or marks k 0 ≡ i → Climbed m order i start tree₀ marks₀ counts₀ tree marks counts
        way_end e = record {
          climbing = climbing-next k i tree marks counts (λ l. e) way.climbing;
          reached = λ l. elim (eq_or_ne start k) [ inl q ↦ rw q e | inr q ↦ way.reached q ];
          kept = way.kept;
          rest_tree = way.rest_tree;
          rest_counts = way.rest_counts;
        }

    -- the row ends: with its earlier neighbours all columns that have it are counted
    pub climbing-end : (tree marks counts : List ℕ) → Symmetric m → Climbing m order i i tree marks counts
        → ((k : ℕ) → k < i → edge_at m order i k ≡ true → get_or marks k 0 ≡ i) → CountedBelow m order (i + 1) tree counts
    climbing-end tree marks counts s c near = record {
      parent = λ k l. c.parent k l ∙ elim (tested (eqb (get_or marks k 0) i)) [
        | inl e ↦ rw e
        | inr e ↦ rw e (sym (parent-same i k li (unmarked k e)))
      ];
      rows = λ k l. c.rows k l ∙ elim (tested (eqb (get_or marks k 0) i)) [
        | inl e ↦ rw e
        | inr e ↦ rw e (let t = row-count_more i k in let z : unit (is_row m order i k) ≡ 0 = rw (unmarked k e) in omega arith)
      ];
    }
      where
        marked : ℕ → Bool
        marked k = ltb k i && eqb (get_or marks k 0) i

        mark : (k : ℕ) → marked k ≡ true → get_or marks k 0 ≡ i
        mark k h = eqb-true (get_or marks k 0) i (and_right (ltb k i) _ h)

        before : (k : ℕ) → marked k ≡ true → k < i
        before k h = ltb-true k i (and_left (ltb k i) _ h)

        both : (k : ℕ) → k < i → get_or marks k 0 ≡ i → marked k ≡ true
        both k l e = and_both (ltb k i) _ (lt-ltb k i l) (eq-eqb (get_or marks k 0) i e)

        all : (k : ℕ) → marked k ≡ is_row m order i k
        all k = row_closure m order s i li marked (λ k l e. both k l (near k l e))
            (λ k h lt. both (first_row m order k) lt (c.closed k (omega (arith, before k h)) (mark k h) lt (omega arith)))
            (λ k h. c.sound k (omega (arith, before k h)) (omega (arith, before k h)) (mark k h)) k

        unmarked : (k : ℕ) → eqb (get_or marks k 0) i ≡ false → is_row m order i k ≡ false
        unmarked k e = refuted (is_row m order i k) (λ h. eqb-false (get_or marks k 0) i e (mark k (all k ∙ h)))

  -- ---- the neighbours of the node at position i, by the lent positions

  module _ (inverse : List ℕ) (h : Ordered m order inverse) (i : ℕ) (li : i < m.nodes) where
    -- the neighbours
    abbrev near : List ℕ
    near = neighbours_of m (get_or order i 0)

    -- an entry's position, where it is before i, is a column that has row i
    pub entry_row : (e : ℕ) → e < length near → get_or inverse (get_or near e 0) 0 < i → is_row m order i (get_or inverse (get_or near e 0) 0) ≡ true
    unfolding edge_at adjacent
    entry_row e l lt =
        let w : ℕ = get_or near e 0 in
        row_neighbour m order h.checked.symmetric i (get_or inverse w 0) lt li
        (rw (order_of_inverse m order inverse h w (entry_node m h.checked (get_or order i 0) e l)) (is_in-get_or near e 0 l))

    -- each earlier neighbour is the position of an entry
    pub entries-all : (marks : List ℕ) → ((e : ℕ) → e < length near → get_or inverse (get_or near e 0) 0 < i → get_or marks (get_or inverse (get_or near e 0) 0) 0 ≡ i)
        → (k : ℕ) → k < i → edge_at m order i k ≡ true → get_or marks k 0 ≡ i
    unfolding edge_at adjacent
    entries-all marks f k lt edge =
        let w : ℕ = get_or order k 0 in
        let le : index_of w near < length near = index_of_lt near w edge in
        let is : get_or inverse (get_or near (index_of w near) 0) 0 ≡ k = ap (λ (x : ℕ). get_or inverse x 0) (get_or-index_of near w 0 le) ∙ inverse_of_order m order inverse h k (omega arith) in
        rw is at (f (index_of w near) le (omega arith))
