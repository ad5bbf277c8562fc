-- The joined mesh (document 02, E10): it passes the checks of a mesh, two of its nodes are neighbours as stated, and its lists are those of the two
-- meshes, merged.
use mathlib.Core.Path.{◌≡◌, refl, sym, ap, ◌∙◌}
use mathlib.Core.Logic.{◌⊎◌, inl, inr}
use mathlib.Core.Bool.{Bool, true, false, ◌&&◌, ◌||◌, false≢true, or-false}
use mathlib.Core.List.{List, [], ◌∷◌, map}
use Prim.Native.Nat.{ℕ, ◌+◌, ◌≤◌, ◌<◌}
use native.Mathlib.Omega.{arith}
use lib.Dec.{ltb}
use lib.ListN.{length}
use borrow.Author.Tests.{ltb-true, lt-ltb}
use Rattle.plan.specs.Lists.{keep, below, is_in, ascending}
use Rattle.plan.specs.Refusals.{first_fault}
use Rattle.plan.specs.Answers.{Reply}
use Rattle.plan.specs.Mesh.{Mesh, neighbours_of, adjacent, mesh_checks}
use Rattle.plan.specs.Elimination.{tabulate}
use Rattle.plan.specs.MadeMesh.{mesh_of, MeshCapacity, mesh_capacity, made_checks}
use Rattle.plan.specs.Joining.{Pairing, pairing, bad_pairing, paired_twice, goes_to, joined_nodes, comes_from, joined_neighbours, joined_lists, joined_mesh, lent_checks, join_checks, joining}
use Rattle.plan.specs.JoinStatements.{NeighboursAsStated, NeighboursStay, UnpairedStay, SideBySide, JoinedPasses, JoinedHanded}
use Rattle.theory.specs.Checked.{Checked}
use Rattle.theory.specs.Pairings.{Paired}
use Rattle.theory.proofs.Bools.{or_cases, or_left, or_right, or_neither, and_left, and_right, and_both, iff_eq}
use Rattle.theory.proofs.Lists.{map-is_in, is_in-map, map_ext, of_keep, in_keep, keep_all}
use Rattle.theory.proofs.Ranges.{length-up_from, below-is_in}
use Rattle.theory.proofs.Ascending.{ascending-kept, ascending_ext}
use Rattle.theory.proofs.Refusals.{no_fault, no_fault_first, first-none}
use Rattle.theory.proofs.Checked.{checked, mesh-passed, list_out}
use Rattle.theory.proofs.MadeMesh.{relation_mesh, list_of, made-adjacent, made-passes}
use Rattle.theory.proofs.HandedMesh.{MadePassed, made-passed, hand_number, filled-mesh}
use Rattle.theory.proofs.JoinedNodes.{paired, unpaired_below, goes_unpaired, goes_inside, goes_comes, comes_goes, comes_unpaired}

-- ---- the joined mesh

-- it is the mesh of a relation
pub joined-mesh : (a b : Mesh) (p : Pairing) → joined_mesh a b p ≡ relation_mesh (joined_nodes a.nodes b.nodes p) (joined_neighbours a b p)
unfolding joined_mesh joined_lists tabulate
joined-mesh a b p = refl

module _ (a b : Mesh) (p : Pairing) (ca : Checked a) (cb : Checked b) (h : Paired a.nodes b.nodes p) where
  abbrev goes : ℕ → ℕ
  goes = goes_to a.nodes p

  abbrev comes : ℕ → ℕ
  comes = comes_from a.nodes b.nodes p

  abbrev count : ℕ
  count = joined_nodes a.nodes b.nodes p

  -- no node is its own neighbour
  pub joined_alone : (v : ℕ) → joined_neighbours a b p v v ≡ false
  unfolding joined_neighbours
  joined_alone v = or_neither (adjacent a v v) _ (ca.loopless v) (cb.loopless (comes v))

  -- neighbours are so both ways
  pub joined-mirror : (v w : ℕ) → joined_neighbours a b p v w ≡ true → joined_neighbours a b p w v ≡ true
  unfolding joined_neighbours
  joined-mirror v w t = elim (or_cases (adjacent a v w) _ t) [
    | inl s ↦ or_left (adjacent a w v) _ (ca.symmetric.mirror v w s)
    | inr s ↦ or_right (adjacent a w v) _ (cb.symmetric.mirror (comes v) (comes w) s)
  ]

  -- what comes from a node of the second mesh is a node of the joined one
  come_inside : (v : ℕ) → comes v < b.nodes → v < count
  come_inside v lt = omega (arith, goes_comes a.nodes b.nodes p v lt, goes_inside a.nodes b.nodes p h (comes v) lt)

  -- both are nodes
  pub joined-inside : (v w : ℕ) → joined_neighbours a b p v w ≡ true → (v < count) × (w < count)
  unfolding joined_neighbours
  joined-inside v w t = elim (or_cases (adjacent a v w) _ t) [
    | inl s ↦ (let r = ca.inside v w s in (more v r.0, more w r.1))
    | inr s ↦ (let r = cb.inside (comes v) (comes w) s in (come_inside v r.0, come_inside w r.1))
  ]
    where
      more : (v : ℕ) → v < a.nodes → v < count
      more v lt = unfold joined_nodes in omega arith

  pub joined-adjacent : (v w : ℕ) → adjacent (joined_mesh a b p) v w ≡ joined_neighbours a b p v w
  joined-adjacent v w =
      ap (λ (m : Mesh). adjacent m v w) (joined-mesh a b p)
      ∙ made-adjacent count (joined_neighbours a b p) v w
      ∙ iff_eq (ltb v count && (ltb w count && joined_neighbours a b p v w)) (joined_neighbours a b p v w)
      (λ t. last (ltb v count) (ltb w count) (joined_neighbours a b p v w) t)
      (λ t. let r = joined-inside v w t in and_both (ltb v count) _ (lt-ltb v count r.0) (and_both (ltb w count) _ (lt-ltb w count r.1) t))
    where
      last : (x y z : Bool) → (x && (y && z)) ≡ true → z ≡ true
      last true true z t = t
      last true false z t = absurd (false≢true t)
      last false y z t = absurd (false≢true t)

  -- node v's list
  pub joined_list : (v : ℕ) → v < count → neighbours_of (joined_mesh a b p) v ≡ keep (joined_neighbours a b p v) (below count)
  joined_list v lt = ap (λ (m : Mesh). neighbours_of m v) (joined-mesh a b p) ∙ list_of count (joined_neighbours a b p) v lt

  -- ---- lists merged

  -- what comes from an entry of a list of the second mesh is where an entry of it goes
  pub comes_listed : (v x : ℕ) → is_in (comes x) (neighbours_of b v) ≡ is_in x (map goes (neighbours_of b v))
  comes_listed v x = iff_eq _ _ there back
    where
      l : List ℕ
      l = neighbours_of b v

      node : (w : ℕ) → is_in w l ≡ true → w < b.nodes
      node w t = (cb.inside v w (unfold adjacent in t)).1

      there : is_in (comes x) l ≡ true → is_in x (map goes l) ≡ true
      there t = ap (λ (z : ℕ). is_in z (map goes l)) (sym (goes_comes a.nodes b.nodes p x (node (comes x) t))) ∙ is_in-map goes l (comes x) t

      back : is_in x (map goes l) ≡ true → is_in (comes x) l ≡ true
      back t =
          let r = map-is_in goes l x t in
          ap (λ (z : ℕ). is_in z l) (ap comes r.2 ∙ comes_goes a.nodes b.nodes p h r.0 (node r.0 r.1)) ∙ r.1

  -- An ascending list is node v's, if it holds just v's neighbours in the first mesh and the nodes where its neighbours in the second go.
  pub merged_list_lem : (v : ℕ) (l : List ℕ) → ascending l ≡ true
      → ((x : ℕ) → is_in x l ≡ (is_in x (neighbours_of a v) || is_in x (map goes (neighbours_of b (comes v)))))
      → l ≡ keep (joined_neighbours a b p v) (below count)
  merged_list_lem v l up members =
      ascending_ext l (keep (joined_neighbours a b p v) (below count)) up (ascending-kept (joined_neighbours a b p v) count)
      (λ x. members x ∙ ap (λ (t : Bool). is_in x (neighbours_of a v) || t) (sym (comes_listed (comes v) x)) ∙ own x)
    where
      listed : (x : ℕ) → (is_in x (neighbours_of a v) || is_in (comes x) (neighbours_of b (comes v))) ≡ joined_neighbours a b p v x
      listed x = unfold joined_neighbours adjacent in refl

      own : (x : ℕ) → (is_in x (neighbours_of a v) || is_in (comes x) (neighbours_of b (comes v))) ≡ is_in x (keep (joined_neighbours a b p v) (below count))
      own x =
          iff_eq (is_in x (neighbours_of a v) || is_in (comes x) (neighbours_of b (comes v))) (is_in x (keep (joined_neighbours a b p v) (below count)))
          (λ t. in_keep (joined_neighbours a b p v) (below count) x (below-is_in count x (joined-inside v x (sym (listed x) ∙ t)).1) (sym (listed x) ∙ t))
          (λ t. listed x ∙ (of_keep (joined_neighbours a b p v) (below count) x t).1)

  -- past its nodes a mesh has no neighbours
  first_past : (v : ℕ) → a.nodes ≤ v → neighbours_of a v ≡ []
  first_past v le = list_out a v ca.starts.many le

  second_past : (w : ℕ) → b.nodes ≤ w → neighbours_of b w ≡ []
  second_past w le = list_out b w cb.starts.many le

  -- an unpaired node of the first mesh keeps its list
  pub unpaired_list : (v : ℕ) → v < a.nodes → is_in v p.first ≡ false → neighbours_of (joined_mesh a b p) v ≡ neighbours_of a v
  unpaired_list v lt free =
      joined_list v (unfold joined_nodes in omega arith)
      ∙ sym (merged_list_lem v (neighbours_of a v) (ca.ascends v) (λ x.
      sym (ap (λ (l : List ℕ). is_in x (neighbours_of a v) || is_in x (map goes l)) (second_past (comes v) (omega (arith, comes_unpaired a.nodes b.nodes p h v lt free)))
      ∙ or-false (is_in x (neighbours_of a v)))))

  -- ---- it passes

  pub joined-passes : (room : MeshCapacity) → MadePassed (joined_mesh a b p) room → first_fault (mesh_checks (joined_mesh a b p)) ≡ 0
  unfolding joined_mesh joined_lists tabulate
  joined-passes room made = made-passes count (joined_neighbours a b p) joined_alone joined-mirror (unfold mesh_of in made.count) made.entries made.short

-- ---- what the checks give

-- those of what is lent
pub record LentPassed (a b : Mesh) (p : Pairing) : Type 0 where
  pub first : Checked a
  pub second : Checked b
  pub pairs : Paired a.nodes b.nodes p

pub lent-passed : (a b : Mesh) (p : Pairing) → first_fault (lent_checks a b p) ≡ 0 → LentPassed a b p
unfolding lent_checks
lent-passed a b p h =
    let one = no_fault_first (mesh_checks a) _ h in
    let behind = sym (mesh-passed a _ one) ∙ h in
    let two = no_fault_first (mesh_checks b) _ behind in
    let c32 = no_fault 32 (bad_pairing a.nodes b.nodes p) _ (omega arith) (sym (mesh-passed b _ two) ∙ behind) in
    let c33 = no_fault 33 (paired_twice p) _ (omega arith) c32.1 in
    record { first = checked a one; second = checked b two; pairs = paired a.nodes b.nodes p c32.0 c33.0 }

-- behind them come those of the joined mesh
pub lent-behind : (a b : Mesh) (p : Pairing) (room : MeshCapacity) → first_fault (lent_checks a b p) ≡ 0
    → first_fault (join_checks a b p room) ≡ first_fault (made_checks (joined_mesh a b p) room)
unfolding join_checks
lent-behind a b p room h = first-none (lent_checks a b p) (made_checks (joined_mesh a b p) room) (unfold lent_checks mesh_checks in refl) h

-- all of them
pub record JoinPassed (a b : Mesh) (p : Pairing) (room : MeshCapacity) : Type 0 where
  pub lent : LentPassed a b p
  pub made : MadePassed (joined_mesh a b p) room

pub join_passed : (a b : Mesh) (p : Pairing) (room : MeshCapacity) → first_fault (join_checks a b p room) ≡ 0 → JoinPassed a b p room
unfolding join_checks
join_passed a b p room h =
    let none = no_fault_first (lent_checks a b p) _ h in
    record { lent = lent-passed a b p none; made = made-passed (joined_mesh a b p) room (sym (lent-behind a b p room none) ∙ (unfold join_checks in h)) }

no_number : (a b : Mesh) (p : Pairing) (room : MeshCapacity) → (joining a b p room).reply.number ≡ 0 → first_fault (join_checks a b p room) ≡ 0
unfolding joining
no_number a b p room h = sym (hand_number (first_fault (join_checks a b p room)) (joined_mesh a b p)) ∙ h

no_refusal : (a b : Mesh) (p : Pairing) (room : MeshCapacity) → (joining a b p room).reply.number ≡ 0 → JoinPassed a b p room
no_refusal a b p room h = join_passed a b p room (no_number a b p room h)

-- ---- the statements

pub neighbours_as_stated : NeighboursAsStated
neighbours_as_stated a b p room h = let j = no_refusal a b p room h in joined-adjacent a b p j.lent.first j.lent.second j.lent.pairs

module _ (a b : Mesh) (p : Pairing) (room : MeshCapacity) (j : JoinPassed a b p room) where
  stated : (v w : ℕ) → adjacent (joined_mesh a b p) v w ≡ joined_neighbours a b p v w
  stated = joined-adjacent a b p j.lent.first j.lent.second j.lent.pairs

  stays_first : (v w : ℕ) → adjacent a v w ≡ true → adjacent (joined_mesh a b p) v w ≡ true
  stays_first v w t = stated v w ∙ (unfold joined_neighbours in or_left (adjacent a v w) _ t)

  stays_second : (v w : ℕ) → adjacent b v w ≡ true → adjacent (joined_mesh a b p) (goes_to a.nodes p v) (goes_to a.nodes p w) ≡ true
  unfolding joined_neighbours
  stays_second v w t =
      let r = j.lent.second.inside v w t in
      let own = comes_goes a.nodes b.nodes p j.lent.pairs in
      stated (goes_to a.nodes p v) (goes_to a.nodes p w)
      ∙ or_right (adjacent a (goes_to a.nodes p v) (goes_to a.nodes p w)) _ (rw (own v r.0, own w r.1) t)

  no_others : (v w : ℕ) → adjacent (joined_mesh a b p) v w ≡ true
      → (adjacent a v w ≡ true) ⊎ ((x : ℕ) × (y : ℕ) × (adjacent b x y ≡ true) × (goes_to a.nodes p x ≡ v) × (goes_to a.nodes p y ≡ w))
  no_others v w t =
      let x : ℕ = comes_from a.nodes b.nodes p v in
      let y : ℕ = comes_from a.nodes b.nodes p w in
      elim (or_cases (adjacent a v w) (adjacent b x y) (unfold joined_neighbours in sym (stated v w) ∙ t)) [
        | inl s ↦ inl s
        | inr s ↦ (let r = j.lent.second.inside x y s in
            inr (x, y, s, goes_comes a.nodes b.nodes p v r.0, goes_comes a.nodes b.nodes p w r.1))
      ]

pub neighbours-stay : NeighboursStay
neighbours-stay a b p room h =
    let j = no_refusal a b p room h in
    record { first = stays_first a b p room j; second = stays_second a b p room j; others = no_others a b p room j }

pub unpaired_stay : UnpairedStay
unpaired_stay a b p room h = let j = no_refusal a b p room h in unpaired_list a b p j.lent.first j.lent.second j.lent.pairs

pub joined_pass : JoinedPasses
joined_pass a b p room h = let j = no_refusal a b p room h in joined-passes a b p j.lent.first j.lent.second j.lent.pairs room j.made

-- ---- no pairs

-- with no pairs every node is unpaired
all_unpaired : (w : ℕ) → unpaired_below (pairing [] []) w ≡ w
all_unpaired w = ap length (keep_all (below w)) ∙ length-up_from w 0

-- a number added to each element
ascending_shifted : (k : ℕ) (l : List ℕ) → ascending l ≡ true → ascending (map (λ x. k + x) l) ≡ true
ascending_shifted k [] up = refl
ascending_shifted k (x ∷ []) up = refl
ascending_shifted k (x ∷ (y ∷ l)) up =
    and_both (ltb (k + x) (k + y)) _ (lt-ltb (k + x) (k + y) (omega (arith, ltb-true x y (and_left (ltb x y) _ up))))
    (ascending_shifted k (y ∷ l) (and_right (ltb x y) _ up))

module _ (a b : Mesh) (room : MeshCapacity) (j : JoinPassed a b (pairing [] []) room) where
  goes_behind : (w : ℕ) → goes_to a.nodes (pairing [] []) w ≡ a.nodes + w
  goes_behind w = goes_unpaired a.nodes b.nodes (pairing [] []) w refl ∙ ap (λ (k : ℕ). a.nodes + k) (all_unpaired w)

  many_beside : joined_nodes a.nodes b.nodes (pairing [] []) ≡ a.nodes + b.nodes
  unfolding joined_nodes
  many_beside = ap (λ (k : ℕ). a.nodes + k) (all_unpaired b.nodes)

  second_beside : (w : ℕ) → w < b.nodes → neighbours_of (joined_mesh a b (pairing [] [])) (a.nodes + w) ≡ map (λ x. a.nodes + x) (neighbours_of b w)
  second_beside w lt =
      let v : ℕ = a.nodes + w in
      let l : List ℕ = map (λ x. a.nodes + x) (neighbours_of b w) in
      let own : comes_from a.nodes b.nodes (pairing [] []) v ≡ w =
      sym (ap (comes_from a.nodes b.nodes (pairing [] [])) (goes_behind w)) ∙ comes_goes a.nodes b.nodes (pairing [] []) j.lent.pairs w lt in
      let same : map (goes_to a.nodes (pairing [] [])) (neighbours_of b (comes_from a.nodes b.nodes (pairing [] []) v)) ≡ l =
      rw own (map_ext (goes_to a.nodes (pairing [] [])) (λ x. a.nodes + x) (neighbours_of b w) (λ x t. goes_behind x)) in
      joined_list a b (pairing [] []) j.lent.first j.lent.second j.lent.pairs v (omega (arith, many_beside, lt))
      ∙ sym (merged_list_lem a b (pairing [] []) j.lent.first j.lent.second j.lent.pairs v l (ascending_shifted a.nodes (neighbours_of b w) (j.lent.second.ascends w))
      (λ x. sym (rw (list_out a v j.lent.first.starts.many (omega arith), same) refl)))

pub side_by_side : SideBySide
side_by_side a b room h =
    let j = no_refusal a b (pairing [] []) room h in
    record {
      nodes = (unfold joined_mesh mesh_of in many_beside a b room j);
      first = λ v lt. unpaired_list a b (pairing [] []) j.lent.first j.lent.second j.lent.pairs v lt refl;
      second = second_beside a b room j;
    }

-- ---- what is handed out

pub joined-handed : JoinedHanded
joined-handed a b p c found left h =
    let number : (joining a b p (mesh_capacity found)).reply.number ≡ 0 = sym (ap (λ (r : Reply). r.number) h.reply) in
    let ok = joined_pass a b p (mesh_capacity found) number in
    let none = no_number a b p (mesh_capacity found) number in
    (filled-mesh (first_fault (join_checks a b p (mesh_capacity found))) (joined_mesh a b p) c found left (checked (joined_mesh a b p) ok).starts.many none (unfold joining in h), ok)
