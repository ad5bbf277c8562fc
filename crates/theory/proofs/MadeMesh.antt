-- A mesh that is made of lists, and that of a relation between n nodes: list v holds the nodes that the relation joins v to, in ascending order. It
-- passes checks 2 and 4 to 7.
use mathlib.Core.Path.{◌≡◌, refl, sym, ap, ◌∙◌}
use mathlib.Core.Logic.{inl, inr}
use mathlib.Core.Bool.{Bool, true, false, not, ◌&&◌}
use mathlib.Core.List.{List, [], map, flatten, append-nil}
use Prim.Native.Nat.{ℕ, ◌+◌, ◌≤◌, ◌<◌}
use native.Mathlib.Omega.{arith}
use lib.Dec.{leb, ltb}
use lib.ListN.{length, get_or, length-map, get_or-map}
use borrow.Author.Tests.{lt-ltb, lt-leb, le-ltb, eq-eqb}
use Rattle.plan.specs.Lists.{exists, keep, below, is_in, ascending, total, running_sums}
use Rattle.plan.specs.Refusals.{first_fault}
use Rattle.plan.specs.Mesh.{max_neighbours, Mesh, neighbours_of, adjacent, bad_node_count, bad_starts, bad_mesh_starts, too_many_entries, neighbour_outside, lists_itself, not_ascending, list_too_long, one_sided, mesh_checks}
use Rattle.plan.specs.Elimination.{starts_of}
use Rattle.plan.specs.MadeMesh.{mesh_of}
use Rattle.theory.proofs.Bools.{or_neither, and_both, and_left, and_right, refuted, lt_or_le}
use Rattle.theory.proofs.Lists.{none-exists, exists_ext, exists-map, is_in-keep, of_keep}
use Rattle.theory.proofs.Ranges.{is_in-below, below-is_in, get_or-map-below, length-map-up_from, map-get_or}
use Rattle.theory.proofs.Flatten.{of_flatten}
use Rattle.theory.proofs.Ascending.{ascending-kept}
use Rattle.theory.proofs.Compressed.{sums_last, sums_length, sums_starts, total-lengths, list_of_starts}
use Rattle.theory.proofs.Refusals.{fault_later, first_nil}
use Rattle.theory.proofs.Checked.{list_out}

-- ---- the mesh of any lists

module _ (n : ℕ) (lists : List (List ℕ)) (many : length lists ≡ n) where
  -- node v's list is list v
  pub made_list : (v : ℕ) → v < n → neighbours_of (mesh_of n lists) v ≡ get_or lists v []
  unfolding neighbours_of mesh_of starts_of
  made_list v lt =
      let found = list_of_starts lists [] [] v (omega (arith, many)) in
      simp append-nil at found

  -- check 26, by the lengths of the lists
  pub made-long : list_too_long (mesh_of n lists) ≡ exists (ltb max_neighbours) (map length lists)
  unfolding list_too_long mesh_of
  made-long =
      exists_ext (λ v. ltb max_neighbours (length (neighbours_of (mesh_of n lists) v))) (λ v. ltb max_neighbours (get_or (map length lists) v 0)) (below n)
      (λ v h. ap (λ (l : List ℕ). ltb max_neighbours (length l)) (made_list v (is_in-below n v h)) ∙ sym (ap (ltb max_neighbours) (get_or-map length lists v [])))
      ∙ sym (exists-map (ltb max_neighbours) (λ v. get_or (map length lists) v 0) (below n))
      ∙ ap (exists (ltb max_neighbours)) (ap (λ (k : ℕ). map (λ v. get_or (map length lists) v 0) (below k)) (sym (length-map lists length ∙ many)) ∙ map-get_or (map length lists))

-- ---- the mesh of a relation

-- the lists of a relation, and the mesh of them
abbrev pub relation_lists : ℕ → (ℕ → ℕ → Bool) → List (List ℕ)
relation_lists n g = map (λ v. keep (g v) (below n)) (below n)

abbrev pub relation_mesh : ℕ → (ℕ → ℕ → Bool) → Mesh
relation_mesh n g = mesh_of n (relation_lists n g)

module _ (n : ℕ) (g : ℕ → ℕ → Bool) where
  pub many : length (relation_lists n g) ≡ n
  many = length-map-up_from (λ v. keep (g v) (below n)) n 0

  counted : length (map length (relation_lists n g)) ≡ n
  counted = length-map (relation_lists n g) length ∙ many

  -- node v's list
  pub list_of : (v : ℕ) → v < n → neighbours_of (relation_mesh n g) v ≡ keep (g v) (below n)
  list_of v lt = made_list n (relation_lists n g) many v lt ∙ get_or-map-below (λ v. keep (g v) (below n)) [] n v lt

  -- check 2
  pub made-starts : bad_mesh_starts (relation_mesh n g) ≡ false
  unfolding bad_mesh_starts mesh_of starts_of
  made-starts =
      let cs : List ℕ = map length (relation_lists n g) in
      let last : get_or (running_sums 0 cs) (length cs) 0 ≡ 0 + total cs = simp append-nil at (sums_last 0 cs []) in
      let ends : get_or (running_sums 0 cs) n 0 ≡ length (flatten (relation_lists n g)) =
      ap (λ (k : ℕ). get_or (running_sums 0 cs) k 0) (sym counted) ∙ last ∙ omega (arith, total-lengths (relation_lists n g)) in
      or_neither (bad_starts n (running_sums 0 cs)) _ (sums_starts n cs counted) (ap not (eq-eqb _ _ ends))

  -- past the nodes the lists are empty
  pub list_past : (v : ℕ) → n ≤ v → neighbours_of (relation_mesh n g) v ≡ []
  unfolding mesh_of starts_of
  list_past v le = list_out (relation_mesh n g) v (omega (arith, sums_length 0 (map length (relation_lists n g)), counted)) le

  -- w stands in v's list exactly where both are nodes and the relation joins them
  pub made-adjacent : (v w : ℕ) → adjacent (relation_mesh n g) v w ≡ (ltb v n && (ltb w n && g v w))
  unfolding adjacent
  made-adjacent v w = elim (lt_or_le v n) [
    | inl l ↦ rw (lt-ltb v n l) (ap (is_in w) (list_of v l) ∙ is_in-keep (g v) (below n) w ∙ ap (λ (b : Bool). b && g v w) (inside w))
    | inr l ↦ rw (le-ltb v n l) (ap (is_in w) (list_past v l))
  ]
    where
      inside : (w : ℕ) → is_in w (below n) ≡ ltb w n
      inside w = elim (lt_or_le w n) [
        | inl l ↦ below-is_in n w l ∙ sym (lt-ltb w n l)
        | inr l ↦ refuted (is_in w (below n)) (λ h. omega (arith, is_in-below n w h)) ∙ sym (le-ltb w n l)
      ]

  -- an entry of any list is a node
  entry_node : (w : ℕ) → is_in w (flatten (relation_lists n g)) ≡ true → w < n
  entry_node w h =
      let r = of_flatten (relation_lists n g) w h in
      let lt : r.0 < n = omega (arith, r.1, many) in
      is_in-below n w (of_keep (g r.0) (below n) w (sym (ap (is_in w) (get_or-map-below (λ v. keep (g v) (below n)) [] n r.0 lt)) ∙ r.2)).0

  -- check 4
  pub made_inside : neighbour_outside (relation_mesh n g) ≡ false
  unfolding neighbour_outside mesh_of
  made_inside = none-exists (leb n) (flatten (relation_lists n g)) (λ w h. lt-leb n w (entry_node w h))

  -- check 6
  pub made-ascends : not_ascending (relation_mesh n g) ≡ false
  unfolding not_ascending mesh_of
  made-ascends = none-exists (λ v. not (ascending (neighbours_of (relation_mesh n g) v))) (below n)
      (λ v h. ap (λ (l : List ℕ). not (ascending l)) (list_of v (is_in-below n v h)) ∙ ap not (ascending-kept (g v) n))

  -- check 5, where the relation joins no node to itself
  pub made-loopless : ((v : ℕ) → g v v ≡ false) → lists_itself (relation_mesh n g) ≡ false
  unfolding lists_itself mesh_of
  made-loopless alone = none-exists (λ v. adjacent (relation_mesh n g) v v) (below n) (λ v h. made-adjacent v v ∙ last (ltb v n) (ltb v n) (g v v) (alone v))
    where
      last : (a b c : Bool) → c ≡ false → (a && (b && c)) ≡ false
      last false b c e = refl
      last true false c e = refl
      last true true c e = e

  -- check 7, where it joins both ways
  pub made_mirrored : ((v w : ℕ) → g v w ≡ true → g w v ≡ true) → one_sided (relation_mesh n g) ≡ false
  unfolding one_sided mesh_of
  made_mirrored mirror =
      none-exists (λ v. exists (λ w. not (adjacent (relation_mesh n g) w v)) (neighbours_of (relation_mesh n g) v)) (below n)
      (λ v h. none-exists (λ w. not (adjacent (relation_mesh n g) w v)) (neighbours_of (relation_mesh n g) v) (λ w t. ap not (back v w (unfold adjacent in t))))
    where
      back : (v w : ℕ) → adjacent (relation_mesh n g) v w ≡ true → adjacent (relation_mesh n g) w v ≡ true
      back v w t =
          let e : (ltb v n && (ltb w n && g v w)) ≡ true = sym (made-adjacent v w) ∙ t in
          let right : (ltb w n && g v w) ≡ true = and_right (ltb v n) _ e in
          made-adjacent w v ∙ and_both (ltb w n) _ (and_left (ltb w n) _ right) (and_both (ltb v n) _ (and_left (ltb v n) _ e) (mirror v w (and_right (ltb w n) _ right)))

  -- a mesh so made that passes 1, 3 and 26 passes all checks of a mesh
  pub made-passes : ((v : ℕ) → g v v ≡ false) → ((v w : ℕ) → g v w ≡ true → g w v ≡ true)
      → bad_node_count n ≡ false → too_many_entries (relation_mesh n g) ≡ false → list_too_long (relation_mesh n g) ≡ false
      → first_fault (mesh_checks (relation_mesh n g)) ≡ 0
  unfolding mesh_checks
  made-passes alone mirror count entries short =
      fault_later 1 (bad_node_count (relation_mesh n g).nodes) _ (unfold mesh_of in count)
      ∙ fault_later 2 (bad_mesh_starts (relation_mesh n g)) _ made-starts
      ∙ fault_later 3 (too_many_entries (relation_mesh n g)) _ entries
      ∙ fault_later 4 (neighbour_outside (relation_mesh n g)) _ made_inside
      ∙ fault_later 5 (lists_itself (relation_mesh n g)) _ (made-loopless alone)
      ∙ fault_later 6 (not_ascending (relation_mesh n g)) _ made-ascends
      ∙ fault_later 26 (list_too_long (relation_mesh n g)) _ short
      ∙ fault_later 7 (one_sided (relation_mesh n g)) [] (made_mirrored mirror)
      ∙ first_nil
