-- The mesh of an accepted text: it passes the checks of a mesh, and its lists are those of the pairs, whatever their order.
use mathlib.Core.Path.{◌≡◌, refl, sym, ap, ap₂, ◌∙◌}
use mathlib.Core.Logic.{inl, inr}
use mathlib.Core.Bool.{Bool, true, false, not, ◌&&◌, ◌||◌, false≢true, or_comm}
use mathlib.Core.List.{List, [], ◌∷◌}
use Prim.Native.Nat.{ℕ, ◌+◌, ◌≤◌, ◌<◌, min, max}
use native.Mathlib.Omega.{arith}
use lib.Dec.{ltb, eqb}
use borrow.Author.Tests.{eqb-true, eqb-false, ltb-false, lt-ltb}
use Rattle.plan.specs.Lists.{exists, keep, below}
use Rattle.plan.specs.Refusals.{first_fault}
use Rattle.plan.specs.Answers.{Reply}
use Rattle.plan.specs.Mesh.{Mesh, adjacent, bad_node_count, too_many_entries, list_too_long, mesh_checks}
use Rattle.plan.specs.Elimination.{tabulate}
use Rattle.plan.specs.MadeMesh.{mesh_of, MeshCapacity, mesh_capacity, mesh_buffers_too_short}
use Rattle.plan.specs.MatrixMarket.{Pair, row_count, column_count, pairs_of, bad_text, index_outside, bad_pair, bad_matrix, same_pair, has_pair, repeated_pair, are_neighbours, lists_of, text_mesh, text_checks, reading_text}
use Rattle.plan.specs.AcceptedTexts.{AcceptedPasses, HandedPasses, ListsArePairs, SamePairsSameMesh}
use Rattle.theory.proofs.Bools.{or_cases, or_left, or_right, or_false_left, or_false_right, and_left, and_right, and_both, eqb_same, eqb_comm, iff_eq, lt_or_le}
use Rattle.theory.proofs.Lists.{keep_ext}
use Rattle.theory.proofs.Ranges.{map_ext_up_from}
use Rattle.theory.proofs.Refusals.{no_fault}
use Rattle.theory.proofs.Checked.{checked}
use Rattle.theory.proofs.HandedMesh.{made-passed, hand_number, filled-mesh}
use Rattle.theory.proofs.MadeMesh.{relation_mesh, made-adjacent, made-passes}

-- ---- nodes that pairs join

-- no node is its own neighbour
pub neighbours_alone : (pairs : List Pair) (v : ℕ) → are_neighbours pairs v v ≡ false
unfolding are_neighbours
neighbours_alone pairs v = rw (eqb_same v)

-- and neighbours are so both ways
pub neighbours_comm : (pairs : List Pair) (v w : ℕ) → are_neighbours pairs v w ≡ are_neighbours pairs w v
unfolding are_neighbours
neighbours_comm pairs v w =
    ap₂ (λ (a b : Bool). not a && b) (eqb_comm v w) (or_comm (has_pair (v + 1) (w + 1) pairs) (has_pair (w + 1) (v + 1) pairs))

pub neighbours_other : (pairs : List Pair) (v w : ℕ) → are_neighbours pairs v w ≡ true → not (eqb v w) ≡ true
unfolding are_neighbours
neighbours_other pairs v w t = and_left (not (eqb v w)) _ t

-- lists of pairs that have the same pairs join the same nodes
pub neighbours-same : (ps qs : List Pair) → ((i j : ℕ) → has_pair i j ps ≡ has_pair i j qs) → (v w : ℕ) → are_neighbours ps v w ≡ are_neighbours qs v w
unfolding are_neighbours
neighbours-same ps qs h v w = ap₂ (λ (a b : Bool). not (eqb v w) && (a || b)) (h (v + 1) (w + 1)) (h (w + 1) (v + 1))

-- the mesh of a text is that of the nodes its pairs join
pub text_mesh_lem : (text : List ℕ) → text_mesh text ≡ relation_mesh (row_count text) (are_neighbours (pairs_of text))
unfolding text_mesh lists_of tabulate
text_mesh_lem text = refl

-- ---- what the checks give

-- the checks of a text, each without a fault
pub record TextPassed (text : List ℕ) (room : MeshCapacity) : Type 0 where
  pub kind : bad_text text ≡ false
  pub matrix : bad_matrix text ≡ false
  pub once : repeated_pair text ≡ false
  pub count : bad_node_count (text_mesh text).nodes ≡ false
  pub entries : too_many_entries (text_mesh text) ≡ false
  pub short : list_too_long (text_mesh text) ≡ false
  pub fits : mesh_buffers_too_short (text_mesh text) room ≡ false

pub text_passed : (text : List ℕ) (room : MeshCapacity) → first_fault (text_checks text room) ≡ 0 → TextPassed text room
unfolding text_checks
text_passed text room h =
    let c23 = no_fault 23 (bad_text text) _ (omega arith) h in
    let c24 = no_fault 24 (bad_matrix text) _ (omega arith) c23.1 in
    let c25 = no_fault 25 (repeated_pair text) _ (omega arith) c24.1 in
    let made = made-passed (text_mesh text) room c25.1 in
    record { kind = c23.0; matrix = c24.0; once = c25.0; count = made.count; entries = made.entries; short = made.short; fits = made.fits }

pub no_refusal : (text : List ℕ) (room : MeshCapacity) → (reading_text text room).reply.number ≡ 0 → first_fault (text_checks text room) ≡ 0
unfolding reading_text
no_refusal text room h = sym (hand_number (first_fault (text_checks text room)) (text_mesh text)) ∙ h

-- ---- the mesh passes

passes : (text : List ℕ) (room : MeshCapacity) → TextPassed text room → first_fault (mesh_checks (text_mesh text)) ≡ 0
unfolding text_mesh lists_of tabulate
passes text room p =
    made-passes (row_count text) (are_neighbours (pairs_of text)) (neighbours_alone (pairs_of text))
    (λ v w t. neighbours_comm (pairs_of text) w v ∙ t) (unfold mesh_of in p.count) p.entries p.short

pub accepted-passes : AcceptedPasses
accepted-passes text room h = passes text room (text_passed text room (no_refusal text room h))

-- ---- the lists are those of the pairs

-- the pairs of a matrix without a fault of 24: both indices inside, the row number at least the column's
pub good-pairs : (n : ℕ) (pairs : List Pair) → exists (bad_pair n) pairs ≡ false → (i j : ℕ) → has_pair i j pairs ≡ true → (i ≤ n) × (0 < j) × (j ≤ i)
good-pairs n [] h i j t = absurd (false≢true t)
good-pairs n (p ∷ ps) h i j t = elim (or_cases (same_pair (i, j) p) (has_pair i j ps) t) [
  | inl e ↦ here (eqb-true i p.0 (and_left (eqb i p.0) _ e)) (eqb-true j p.1 (and_right (eqb i p.0) _ e))
  | inr e ↦ good-pairs n ps (or_false_right (bad_pair n p) _ h) i j e
]
  where
    good : bad_pair n p ≡ false
    good = or_false_left (bad_pair n p) _ h

    inside : (index_outside n p.0 || index_outside n p.1) ≡ false
    inside = or_false_left (index_outside n p.0 || index_outside n p.1) _ good

    here : i ≡ p.0 → j ≡ p.1 → (i ≤ n) × (0 < j) × (j ≤ i)
    here a b =
        let le : p.0 ≤ n = ltb-false n p.0 (or_false_right (eqb p.0 0) _ (or_false_left (index_outside n p.0) _ inside)) in
        let pos : p.1 ≡ 0 → ⊥ = eqb-false p.1 0 (or_false_left (eqb p.1 0) _ (or_false_right (index_outside n p.0) _ inside)) in
        let ge : p.1 ≤ p.0 = ltb-false p.0 p.1 (or_false_right (index_outside n p.0 || index_outside n p.1) _ good) in
        (omega arith, omega (arith, b, pos), omega arith)

module _ (n : ℕ) (pairs : List Pair) (good : exists (bad_pair n) pairs ≡ false) where
  -- two nodes that a pair joins, the larger first
  pair_of : (v w : ℕ) → are_neighbours pairs v w ≡ true → has_pair (max v w + 1) (min v w + 1) pairs ≡ true
  unfolding are_neighbours
  pair_of v w t = elim (or_cases (has_pair (v + 1) (w + 1) pairs) (has_pair (w + 1) (v + 1) pairs) (and_right (not (eqb v w)) _ t)) [
    | inl e ↦ (let le = (good-pairs n pairs good (v + 1) (w + 1) e).2 in
        let a : max v w ≡ v = omega (arith, le) in
        let b : min v w ≡ w = omega (arith, le) in
        rw (a, b) e)
    | inr e ↦ (let le = (good-pairs n pairs good (w + 1) (v + 1) e).2 in
        let a : max v w ≡ w = omega (arith, le) in
        let b : min v w ≡ v = omega (arith, le) in
        rw (a, b) e)
  ]

  -- and back
  of_pair : (v w : ℕ) → not (eqb v w) ≡ true → has_pair (max v w + 1) (min v w + 1) pairs ≡ true → are_neighbours pairs v w ≡ true
  unfolding are_neighbours
  of_pair v w ne t = and_both (not (eqb v w)) _ ne (elim (lt_or_le v w) [
    | inl l ↦ (let a : max v w ≡ w = omega (arith, l) in
        let b : min v w ≡ v = omega (arith, l) in
        let e : has_pair (w + 1) (v + 1) pairs ≡ true = rw (a, b) at t in
        or_right (has_pair (v + 1) (w + 1) pairs) _ e)
    | inr l ↦ (let a : max v w ≡ v = omega (arith, l) in
        let b : min v w ≡ w = omega (arith, l) in
        let e : has_pair (v + 1) (w + 1) pairs ≡ true = rw (a, b) at t in
        or_left (has_pair (v + 1) (w + 1) pairs) _ e)
  ])

  -- only nodes are neighbours
  joined-inside : (v w : ℕ) → has_pair (max v w + 1) (min v w + 1) pairs ≡ true → (v < n) × (w < n)
  joined-inside v w t = let le = (good-pairs n pairs good (max v w + 1) (min v w + 1) t).0 in (omega (arith, le), omega (arith, le))

  -- w stands in v's list exactly when v is not w and the pairs have that of the two
  pub pair_lists : (v w : ℕ) → adjacent (relation_mesh n (are_neighbours pairs)) v w ≡ (not (eqb v w) && has_pair (max v w + 1) (min v w + 1) pairs)
  pair_lists v w = made-adjacent n (are_neighbours pairs) v w ∙ iff_eq _ _ to from
    where
      to : (ltb v n && (ltb w n && are_neighbours pairs v w)) ≡ true → (not (eqb v w) && has_pair (max v w + 1) (min v w + 1) pairs) ≡ true
      to t =
          let j : are_neighbours pairs v w ≡ true = and_right (ltb w n) _ (and_right (ltb v n) _ t) in
          and_both (not (eqb v w)) _ (neighbours_other pairs v w j) (pair_of v w j)

      from : (not (eqb v w) && has_pair (max v w + 1) (min v w + 1) pairs) ≡ true → (ltb v n && (ltb w n && are_neighbours pairs v w)) ≡ true
      from t =
          let h : has_pair (max v w + 1) (min v w + 1) pairs ≡ true = and_right (not (eqb v w)) _ t in
          let r = joined-inside v w h in
          and_both (ltb v n) _ (lt-ltb v n r.0) (and_both (ltb w n) _ (lt-ltb w n r.1) (of_pair v w (and_left (not (eqb v w)) _ t) h))

-- the pairs of a text that passes 24
pub text_pairs-good : (text : List ℕ) → bad_matrix text ≡ false → exists (bad_pair (row_count text)) (pairs_of text) ≡ false
unfolding bad_matrix
text_pairs-good text h = or_false_right (not (eqb (row_count text) (column_count text))) _ h

pub lists_are_pairs : ListsArePairs
lists_are_pairs text room h v w =
    ap (λ (m : Mesh). adjacent m v w) (text_mesh_lem text)
    ∙ pair_lists (row_count text) (pairs_of text) (text_pairs-good text (text_passed text room (no_refusal text room h)).matrix) v w

-- ---- the same pairs

pub lists_same : (n : ℕ) (ps qs : List Pair) → ((i j : ℕ) → has_pair i j ps ≡ has_pair i j qs) → lists_of n ps ≡ lists_of n qs
unfolding lists_of tabulate
lists_same n ps qs h =
    map_ext_up_from (λ v. keep (are_neighbours ps v) (below n)) (λ v. keep (are_neighbours qs v) (below n)) n 0
    (λ v l u. keep_ext (are_neighbours ps v) (are_neighbours qs v) (below n) (λ w t. neighbours-same ps qs h v w))

pub same-pairs-same-mesh : SamePairsSameMesh
unfolding text_mesh
same-pairs-same-mesh a b e h =
    ap (λ (n : ℕ). mesh_of n (lists_of n (pairs_of a))) e ∙ ap (mesh_of (row_count b)) (lists_same (row_count b) (pairs_of a) (pairs_of b) h)

-- ---- what is handed out

pub handed-passes : HandedPasses
handed-passes text c found left h =
    let number : (reading_text text (mesh_capacity found)).reply.number ≡ 0 = sym (ap (λ (r : Reply). r.number) h.reply) in
    let none = no_refusal text (mesh_capacity found) number in
    let ok = accepted-passes text (mesh_capacity found) number in
    (filled-mesh (first_fault (text_checks text (mesh_capacity found))) (text_mesh text) c found left (checked (text_mesh text) ok).starts.many none (unfold reading_text in h), ok)
