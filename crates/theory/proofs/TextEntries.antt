-- How many entries the mesh of pairs has, and how many pairs there can be without one given again.
use mathlib.Core.Path.{◌≡◌, refl, sym, ap, ap₂, ◌∙◌}
use mathlib.Core.Logic.{inl, inr, ◌≢◌}
use mathlib.Core.Bool.{Bool, true, false, not, cond, ◌&&◌, ◌||◌, false≢true, and_comm}
use mathlib.Core.List.{List, [], ◌∷◌, map, flatten}
use Prim.Native.Nat.{ℕ, zero, suc, ◌+◌, ◌-◌, ◌*◌, ◌≤◌, ◌<◌}
use native.Mathlib.Omega.{arith}
use lib.Dec.{eqb, ltb}
use lib.ListN.{length}
use borrow.Author.Tests.{eq-eqb, ne_eqb, eqb-true, lt-ltb}
use Rattle.plan.specs.Lists.{exists, keep, up_from, below, total}
use Rattle.plan.specs.Elimination.{tabulate}
use Rattle.plan.specs.MadeMesh.{mesh_of}
use Rattle.plan.specs.MatrixMarket.{Pair, row_count, pairs_of, bad_pair, same_pair, has_pair, given_again, repeated_pair, are_neighbours, lists_of, text_mesh}
use Rattle.plan.specs.AcceptedTexts.{off_diagonal, EntriesByPairs, PairsAreFew}
use Rattle.theory.specs.Counting.{count}
use Rattle.theory.proofs.Bools.{or_cases, or_left, or_neither, or_false_left, or_false_right, and_left, and_right, and_both, tested, clash, refuted, iff_eq, eqb_same, eq_or_ne, lt_or_le}
use Rattle.theory.proofs.Ranges.{is_in-below, length-up_from, map_ext_up_from}
use Rattle.theory.proofs.Counting.{unit, unit_either, count_cons, count_none, count_ext, count_sum, count_mono, count-once, count-below}
use Rattle.theory.proofs.Compressed.{total-lengths}
use Rattle.theory.proofs.AnyLists.{none_kept, kept-apart}
use Rattle.theory.proofs.MadeMesh.{relation_lists}
use Rattle.theory.proofs.TextMesh.{good-pairs, text_pairs-good}

-- ---- how many places (v, w) below n a relation has

abbrev pub cells : ℕ → (ℕ → ℕ → Bool) → ℕ
cells n g = total (map (λ v. count (g v) (below n)) (below n))

-- the entries of its lists
pub entries_cells : (n : ℕ) (g : ℕ → ℕ → Bool) → length (flatten (relation_lists n g)) ≡ cells n g
entries_cells n g = sym (total-lengths (relation_lists n g)) ∙ ap total (both (below n))
  where
    both : (l : List ℕ) → map length (map (λ v. keep (g v) (below n)) l) ≡ map (λ v. count (g v) (below n)) l
    both [] = refl
    both (v ∷ l) = ap (λ (r : List ℕ). count (g v) (below n) ∷ r) (both l)

total_sum : (f g h : ℕ → ℕ) → ((v : ℕ) → f v ≡ g v + h v) → (l : List ℕ) → total (map f l) ≡ total (map g l) + total (map h l)
total_sum f g h e [] = refl
total_sum f g h e (v ∷ l) = omega (arith, e v, total_sum f g h e l)

-- a relation that falls into two
cells_sum : (n : ℕ) (p q r : ℕ → ℕ → Bool) → ((v w : ℕ) → unit (p v w) ≡ unit (q v w) + unit (r v w)) → cells n p ≡ cells n q + cells n r
cells_sum n p q r h =
    total_sum (λ v. count (p v) (below n)) (λ v. count (q v) (below n)) (λ v. count (r v) (below n)) (λ v. count_sum (p v) (q v) (r v) (below n) (h v)) (below n)

cells_ext : (n : ℕ) (p q : ℕ → ℕ → Bool) → ((v w : ℕ) → p v w ≡ q v w) → cells n p ≡ cells n q
cells_ext n p q h =
    ap total (map_ext_up_from (λ v. count (p v) (below n)) (λ v. count (q v) (below n)) n 0 (λ v l u. count_ext (p v) (q v) (below n) (λ w t. h v w)))

cells_none : (n : ℕ) (p : ℕ → ℕ → Bool) → ((v w : ℕ) → p v w ≡ false) → cells n p ≡ 0
cells_none n p h = go (below n)
  where
    go : (l : List ℕ) → total (map (λ v. count (p v) (below n)) l) ≡ 0
    go [] = refl
    go (v ∷ l) = omega (arith, count_none (p v) (below n) (λ w t. h v w), go l)

-- a single place
cells_one : (n a b : ℕ) → a < n → b < n → cells n (λ v w. eqb a v && eqb b w) ≡ 1
cells_one n a b la lb = go (below n) ∙ count-once n 0 a (omega arith) (omega (arith, la))
  where
    row : (v : ℕ) (t : Bool) → count (λ w. t && eqb b w) (below n) ≡ unit t
    row v true = count-once n 0 b (omega arith) (omega (arith, lb))
    row v false = count_none (λ w. false) (below n) (λ w t. refl)

    go : (l : List ℕ) → total (map (λ v. count (λ w. eqb a v && eqb b w) (below n)) l) ≡ count (eqb a) l
    go [] = refl
    go (v ∷ l) = omega (arith, row v (eqb a v), go l, count_cons (eqb a) v l)

-- ---- the places of one pair

-- an index counted from 1 and a node counted from 0
from_one : (i v : ℕ) → 0 < i → eqb (v + 1) i ≡ eqb (i - 1) v
from_one i v pos = iff_eq _ _
    (λ h. eq-eqb (i - 1) v (omega (arith, eqb-true (v + 1) i h)))
    (λ h. eq-eqb (v + 1) i (omega (arith, pos, eqb-true (i - 1) v h)))

module _ (n : ℕ) (p : Pair) (inside : p.0 ≤ n) (pos : 0 < p.1) (down : p.1 ≤ p.0) where
  -- row by column
  pair_place_lem : cells n (λ v w. same_pair (v + 1, w + 1) p) ≡ 1
  pair_place_lem =
      cells_ext n (λ v w. same_pair (v + 1, w + 1) p) (λ v w. eqb (p.0 - 1) v && eqb (p.1 - 1) w)
      (λ v w. ap₂ (λ (a b : Bool). a && b) (from_one p.0 v (omega arith)) (from_one p.1 w pos))
      ∙ cells_one n (p.0 - 1) (p.1 - 1) (omega arith) (omega arith)

  -- and column by row
  pair_mirrored : cells n (λ v w. same_pair (w + 1, v + 1) p) ≡ 1
  pair_mirrored =
      cells_ext n (λ v w. same_pair (w + 1, v + 1) p) (λ v w. eqb (p.1 - 1) v && eqb (p.0 - 1) w)
      (λ v w. ap₂ (λ (a b : Bool). a && b) (from_one p.0 w (omega arith)) (from_one p.1 v pos) ∙ and_comm (eqb (p.0 - 1) w) (eqb (p.1 - 1) v))
      ∙ cells_one n (p.1 - 1) (p.0 - 1) (omega arith) (omega arith)

-- the first pair of a list without a fault of 24
first_good : (n : ℕ) (p : Pair) (ps : List Pair) → exists (bad_pair n) (p ∷ ps) ≡ false → (p.0 ≤ n) × (0 < p.1) × (p.1 ≤ p.0)
first_good n p ps h =
    good-pairs n (p ∷ ps) h p.0 p.1
    (or_left (same_pair p p) _ (and_both (eqb p.0 p.0) _ (eqb_same p.0) (eqb_same p.1)))

-- what stands at a pair's own place is that pair
at_pair : (i j : ℕ) (p : Pair) (ps : List Pair) → same_pair (i, j) p ≡ true → has_pair i j ps ≡ exists (same_pair p) ps
at_pair i j p ps t =
    ap₂ (λ (a b : ℕ). has_pair a b ps) (eqb-true i p.0 (and_left (eqb i p.0) _ t)) (eqb-true j p.1 (and_right (eqb i p.0) _ t))

-- ---- as many places as pairs

-- each pair of a list without a fault of 24 or 25 has a place of its own
pub pairs_cells : (n : ℕ) (ps : List Pair) → exists (bad_pair n) ps ≡ false → given_again ps ≡ false → cells n (λ v w. has_pair (v + 1) (w + 1) ps) ≡ length ps
pairs_cells n [] good once = cells_none n (λ v w. false) (λ v w. refl)
pairs_cells n (p ∷ ps) good once =
    let g = first_good n p ps good in
    omega (
      arith,
      cells_sum n (λ v w. has_pair (v + 1) (w + 1) (p ∷ ps)) (λ v w. same_pair (v + 1, w + 1) p) (λ v w. has_pair (v + 1) (w + 1) ps) apart,
      pair_place_lem n p g.0 g.1 g.2,
      pairs_cells n ps (or_false_right (bad_pair n p) _ good) (or_false_right (exists (same_pair p) ps) _ once),
    )
  where
    apart : (v w : ℕ) → unit (has_pair (v + 1) (w + 1) (p ∷ ps)) ≡ unit (same_pair (v + 1, w + 1) p) + unit (has_pair (v + 1) (w + 1) ps)
    apart v w = unit_either (same_pair (v + 1, w + 1) p) (has_pair (v + 1) (w + 1) ps)
        (λ t. at_pair (v + 1) (w + 1) p ps t ∙ or_false_left (exists (same_pair p) ps) _ once)

-- at most a + 1, a + 2, ..: twice their sum
climb : (f : ℕ → ℕ) (k a : ℕ) → ((v : ℕ) → f v ≤ v + 1) → 2 * total (map f (up_from a k)) ≤ 2 * (k * a) + k * (k + 1)
climb f zero a h = omega arith
climb f (suc k) a h = omega (arith, h a, climb f k (suc a) h)

-- more pairs than n (n + 1) / 2 have one given again
pub pairs-few : (n : ℕ) (ps : List Pair) → exists (bad_pair n) ps ≡ false → given_again ps ≡ false → 2 * length ps ≤ n * (n + 1)
pairs-few n ps good once =
    omega (arith, pairs_cells n ps good once, climb (λ v. count (λ w. has_pair (v + 1) (w + 1) ps) (below n)) n 0 row)
  where
    row : (v : ℕ) → count (λ w. has_pair (v + 1) (w + 1) ps) (below n) ≤ v + 1
    row v = omega (
      arith,
      count_mono (λ w. has_pair (v + 1) (w + 1) ps) (λ w. ltb w (v + 1)) (below n)
          (λ w t. lt-ltb w (v + 1) (let le = (good-pairs n ps good (v + 1) (w + 1) t).2 in omega (arith, le))),
      count-below (v + 1) 0 n,
    )

-- ---- two entries for each pair that is not diagonal

-- a diagonal pair joins nothing
neighbours-diagonal : (p : Pair) (ps : List Pair) → p.0 ≡ p.1 → (v w : ℕ) → are_neighbours (p ∷ ps) v w ≡ are_neighbours ps v w
unfolding are_neighbours
neighbours-diagonal p ps e v w = go (not (eqb v w)) refl
  where
    never : (v w : ℕ) → not (eqb v w) ≡ true → same_pair (v + 1, w + 1) p ≡ false
    never v w ne = refuted (same_pair (v + 1, w + 1) p) (λ t.
        clash (not (eqb v w)) ne
        (ap not (eq-eqb v w
        (let a = eqb-true (v + 1) p.0 (and_left (eqb (v + 1) p.0) _ t) in
        let b = eqb-true (w + 1) p.1 (and_right (eqb (v + 1) p.0) _ t) in
        omega (arith, a, b, e)))))

    other : (v w : ℕ) → not (eqb v w) ≡ true → same_pair (w + 1, v + 1) p ≡ false
    other v w ne = refuted (same_pair (w + 1, v + 1) p) (λ t.
        clash (not (eqb v w)) ne
        (ap not (eq-eqb v w
        (let a = eqb-true (w + 1) p.0 (and_left (eqb (w + 1) p.0) _ t) in
        let b = eqb-true (v + 1) p.1 (and_right (eqb (w + 1) p.0) _ t) in
        omega (arith, a, b, e)))))

    go : (b : Bool) → not (eqb v w) ≡ b
        → (b && (has_pair (v + 1) (w + 1) (p ∷ ps) || has_pair (w + 1) (v + 1) (p ∷ ps))) ≡ (b && (has_pair (v + 1) (w + 1) ps || has_pair (w + 1) (v + 1) ps))
    go false h = refl
    go true h = rw (never v w h, other v w h)

module _ (n : ℕ) (p : Pair) (ps : List Pair) (good : exists (bad_pair n) (p ∷ ps) ≡ false) (once : given_again (p ∷ ps) ≡ false) (off : p.0 ≢ p.1) where
  -- where the first pair joins v and w, the others do not
  alone : (i j : ℕ) → same_pair (i, j) p ≡ true → (has_pair i j ps ≡ false) × (has_pair j i ps ≡ false) × (same_pair (j, i) p ≡ false)
  alone i j t =
      let a = eqb-true i p.0 (and_left (eqb i p.0) _ t) in
      let b = eqb-true j p.1 (and_right (eqb i p.0) _ t) in
      let g = first_good n p ps good in (
        at_pair i j p ps t ∙ or_false_left (exists (same_pair p) ps) _ once,
        refuted (has_pair j i ps) (λ u. off (let le = (good-pairs n ps (or_false_right (bad_pair n p) _ good) j i u).2 in omega (arith, a, b, le, g.2))),
        refuted (same_pair (j, i) p) (λ u. off (let c = eqb-true j p.0 (and_left (eqb j p.0) _ u) in omega (arith, b, c))),
      )

  different : (v w : ℕ) → same_pair (v + 1, w + 1) p ≡ true → not (eqb v w) ≡ true
  different v w t =
      let a = eqb-true (v + 1) p.0 (and_left (eqb (v + 1) p.0) _ t) in
      let b = eqb-true (w + 1) p.1 (and_right (eqb (v + 1) p.0) _ t) in
      ap not (ne_eqb v w (λ e. off (omega (arith, a, b, e))))

  different_back : (v w : ℕ) → same_pair (w + 1, v + 1) p ≡ true → not (eqb v w) ≡ true
  different_back v w t =
      let a = eqb-true (w + 1) p.0 (and_left (eqb (w + 1) p.0) _ t) in
      let b = eqb-true (v + 1) p.1 (and_right (eqb (w + 1) p.0) _ t) in
      ap not (ne_eqb v w (λ e. off (omega (arith, a, b, e))))

  -- v and w are neighbours by the first pair, one way or the other, or by the others
  neighbours-apart : (v w : ℕ) → unit (are_neighbours (p ∷ ps) v w) ≡ unit (same_pair (v + 1, w + 1) p || same_pair (w + 1, v + 1) p) + unit (are_neighbours ps v w)
  unfolding are_neighbours
  neighbours-apart v w = elim (tested (same_pair (v + 1, w + 1) p)) [
    | inl t ↦ (let r = alone (v + 1) (w + 1) t in rw (different v w t, t, r.0, r.1))
    | inr f ↦ elim (tested (same_pair (w + 1, v + 1) p)) [
      | inl t ↦ (let r = alone (w + 1) (v + 1) t in rw (different_back v w t, t, f, r.0, r.1))
      | inr k ↦ rw (f, k) (omega arith)
    ]
  ]

  ways_apart : (v w : ℕ) → unit (same_pair (v + 1, w + 1) p || same_pair (w + 1, v + 1) p) ≡ unit (same_pair (v + 1, w + 1) p) + unit (same_pair (w + 1, v + 1) p)
  ways_apart v w = unit_either (same_pair (v + 1, w + 1) p) (same_pair (w + 1, v + 1) p) (λ t. (alone (v + 1) (w + 1) t).2)

  cells_pair : cells n (are_neighbours (p ∷ ps)) ≡ 2 + cells n (are_neighbours ps)
  cells_pair =
      let g = first_good n p ps good in
      omega (
        arith,
        cells_sum n (are_neighbours (p ∷ ps)) (λ v w. same_pair (v + 1, w + 1) p || same_pair (w + 1, v + 1) p) (are_neighbours ps) neighbours-apart,
        cells_sum n (λ v w. same_pair (v + 1, w + 1) p || same_pair (w + 1, v + 1) p) (λ v w. same_pair (v + 1, w + 1) p) (λ v w. same_pair (w + 1, v + 1) p) ways_apart,
        pair_place_lem n p g.0 g.1 g.2,
        pair_mirrored n p g.0 g.1 g.2,
      )

neighbours_nothing : (v w : ℕ) → are_neighbours [] v w ≡ false
unfolding are_neighbours
neighbours_nothing v w = and_comm (not (eqb v w)) false

-- the entries of the mesh of pairs without a fault of 24 or 25
pub neighbours_cells : (n : ℕ) (ps : List Pair) → exists (bad_pair n) ps ≡ false → given_again ps ≡ false → cells n (are_neighbours ps) ≡ 2 * length (keep off_diagonal ps)
neighbours_cells n [] good once = cells_none n (are_neighbours []) neighbours_nothing
neighbours_cells n (p ∷ ps) good once =
    let rest = neighbours_cells n ps (or_false_right (bad_pair n p) _ good) (or_false_right (exists (same_pair p) ps) _ once) in
    elim (eq_or_ne p.0 p.1) [
      | inl e ↦ rw (eq-eqb p.0 p.1 e) (cells_ext n (are_neighbours (p ∷ ps)) (are_neighbours ps) (neighbours-diagonal p ps e) ∙ rest)
      | inr e ↦ rw (ne_eqb p.0 p.1 e) (omega (arith, cells_pair n p ps good once e, rest))
    ]

pub entries_by_pairs : EntriesByPairs
unfolding text_mesh lists_of tabulate mesh_of repeated_pair
entries_by_pairs text square once =
    entries_cells (row_count text) (are_neighbours (pairs_of text))
    ∙ neighbours_cells (row_count text) (pairs_of text) (text_pairs-good text square) once

pub pairs_are_few : PairsAreFew
unfolding repeated_pair
pairs_are_few text square once = pairs-few (row_count text) (pairs_of text) (text_pairs-good text square) once

-- ---- diagonal pairs

-- whether a pair is diagonal
abbrev on_diagonal : Pair → Bool
on_diagonal p = eqb p.0 p.1

diagonal-ends : (i j : ℕ) (ps : List Pair) → has_pair i j (keep on_diagonal ps) ≡ true → i ≡ j
diagonal-ends i j [] h = absurd (false≢true h)
diagonal-ends i j (p ∷ ps) h = go (on_diagonal p) refl h (diagonal-ends i j ps)
  where
    go : (b : Bool) → on_diagonal p ≡ b → exists (same_pair (i, j)) (cond b (p ∷ keep on_diagonal ps) (keep on_diagonal ps)) ≡ true
        → (has_pair i j (keep on_diagonal ps) ≡ true → i ≡ j) → i ≡ j
    go false e h ih = ih h
    go true e h ih = elim (or_cases (same_pair (i, j) p) _ h) [
      | inl s ↦ (
          let a = eqb-true i p.0 (and_left (eqb i p.0) _ s) in
          let b = eqb-true j p.1 (and_right (eqb i p.0) _ s) in
          omega (arith, a, b, eqb-true p.0 p.1 e))
      | inr t ↦ ih t
    ]

-- numbers of at most 1 sum to no more than there are
ones : (f : ℕ → ℕ) → ((v : ℕ) → f v ≤ 1) → (l : List ℕ) → total (map f l) ≤ length l
ones f h [] = omega arith
ones f h (v ∷ l) = omega (arith, h v, ones f h l)

-- those kept of pairs of which none is given again
kept-once : (ps : List Pair) → given_again ps ≡ false → given_again (keep on_diagonal ps) ≡ false
kept-once [] h = refl
kept-once (p ∷ ps) h = go (on_diagonal p) (kept-once ps (or_false_right (exists (same_pair p) ps) _ h))
  where
    go : (b : Bool) → given_again (keep on_diagonal ps) ≡ false → given_again (cond b (p ∷ keep on_diagonal ps) (keep on_diagonal ps)) ≡ false
    go true rest = or_neither (exists (same_pair p) (keep on_diagonal ps)) _ (none_kept (same_pair p) on_diagonal ps (or_false_left (exists (same_pair p) ps) _ h)) rest
    go false rest = rest

-- without a fault of 24 or 25 there are no more diagonal pairs than nodes
pub diagonal-few : (n : ℕ) (ps : List Pair) → exists (bad_pair n) ps ≡ false → given_again ps ≡ false → length ps ≤ n + length (keep off_diagonal ps)
diagonal-few n ps good once =
    let ds : List Pair = keep on_diagonal ps in
    omega (
      arith,
      kept-apart on_diagonal ps,
      pairs_cells n ds (none_kept (bad_pair n) on_diagonal ps good) (kept-once ps once),
      ones (λ v. count (λ w. has_pair (v + 1) (w + 1) ds) (below n)) row (below n),
      length-up_from n 0,
    )
  where
    row : (v : ℕ) → count (λ w. has_pair (v + 1) (w + 1) (keep on_diagonal ps)) (below n) ≤ 1
    row v =
        let fewer = count_mono (λ w. has_pair (v + 1) (w + 1) (keep on_diagonal ps)) (eqb v) (below n) (λ w t. eq-eqb v w (omega (arith, diagonal-ends (v + 1) (w + 1) ps t))) in
        elim (lt_or_le v n) [
          | inl l ↦ omega (arith, fewer, count-once n 0 v (omega arith) (omega (arith, l)))
          | inr l ↦ omega (arith, fewer, count_none (eqb v) (below n) (λ w t. ne_eqb v w (λ e. omega (arith, l, e, is_in-below n w t))))
        ]
