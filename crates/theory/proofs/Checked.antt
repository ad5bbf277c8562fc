-- What the checks of a mesh, 1 to 7 and 26, give: a mesh that passes them is `Checked`.
use mathlib.Core.Path.{◌≡◌, refl, ap}
use mathlib.Core.Logic.{inl, inr}
use mathlib.Core.Bool.{Bool, true, false, not, ◌||◌}
use mathlib.Core.List.{List, [], ◌++◌}
use Prim.Native.Nat.{ℕ, ◌+◌, ◌-◌, ◌≤◌, ◌<◌}
use native.Mathlib.Omega.{arith}
use lib.Dec.{leb, ltb, eqb}
use lib.ListN.{length, get_or, drop, get_or-eq_default}
use borrow.Author.Tests.{eqb-true, eqb-false, leb-false, ltb-false, not-false}
use Rattle.plan.specs.Lists.{exists, below, is_in, list_at, ascending}
use Rattle.plan.specs.Refusals.{Checks, first_fault}
use Rattle.plan.specs.Mesh.{max_entries, max_nodes, max_neighbours, Mesh, neighbours_of, adjacent, bad_node_count, bad_starts, bad_mesh_starts, too_many_entries, neighbour_outside, lists_itself, not_ascending, list_too_long, one_sided, mesh_checks}
use Rattle.theory.specs.Checked.{Starts, Checked}
use Rattle.theory.proofs.Bools.{or_false_left, or_false_right, clash, lt_or_le}
use Rattle.theory.proofs.Lists.{is_in-take, is_in-drop, exists-none}
use Rattle.theory.proofs.Ranges.{below-is_in}
use Rattle.theory.proofs.Refusals.{no_fault, first-none}

-- the eight checks, each without a fault
record Passed (m : Mesh) : Type 0 where
  count : bad_node_count m.nodes ≡ false
  starts : bad_mesh_starts m ≡ false
  entries : too_many_entries m ≡ false
  inside : neighbour_outside m ≡ false
  loopless : lists_itself m ≡ false
  ascends : not_ascending m ≡ false
  short : list_too_long m ≡ false
  mirrored : one_sided m ≡ false

passed-each : (m : Mesh) → first_fault (mesh_checks m) ≡ 0 → Passed m
unfolding mesh_checks
passed-each m h =
    let c1 = no_fault 1 (bad_node_count m.nodes) _ (omega arith) h in
    let c2 = no_fault 2 (bad_mesh_starts m) _ (omega arith) c1.1 in
    let c3 = no_fault 3 (too_many_entries m) _ (omega arith) c2.1 in
    let c4 = no_fault 4 (neighbour_outside m) _ (omega arith) c3.1 in
    let c5 = no_fault 5 (lists_itself m) _ (omega arith) c4.1 in
    let c6 = no_fault 6 (not_ascending m) _ (omega arith) c5.1 in
    let c26 = no_fault 26 (list_too_long m) _ (omega arith) c6.1 in
    let c7 = no_fault 7 (one_sided m) _ (omega arith) c26.1 in
    record { count = c1.0; starts = c2.0; entries = c3.0; inside = c4.0; loopless = c5.0; ascends = c6.0; short = c26.0; mirrored = c7.0 }

-- check 1
pub node_count : (n : ℕ) → bad_node_count n ≡ false → (0 < n) × (n ≤ max_nodes)
unfolding bad_node_count
node_count n h =
    let ne = eqb-false n 0 (or_false_left (eqb n 0) _ h) in
    let le : n ≤ max_nodes = ltb-false max_nodes n (or_false_right (eqb n 0) _ h) in
    (omega arith, le)

-- starts of n lists that are not bad
pub good-starts : (n : ℕ) (starts : List ℕ) → bad_starts n starts ≡ false → Starts n starts
unfolding bad_starts
good-starts n starts h =
    let long : Bool = eqb (length starts) (n + 1) in
    let first : Bool = eqb (get_or starts 0 0) 0 in
    let both : (not long || not first) ≡ false = or_false_left (not long || not first) _ h in
    record {
      many = eqb-true (length starts) (n + 1) (not-false long (or_false_left (not long) _ both));
      zero_first = eqb-true (get_or starts 0 0) 0 (not-false first (or_false_right (not long) _ both));
      rising = or_false_right (not long || not first) _ h;
    }

-- check 2: those of a mesh, and the last is the number of entries
pub mesh-starts : (m : Mesh) → bad_mesh_starts m ≡ false → Starts m.nodes m.starts × (get_or m.starts m.nodes 0 ≡ length m.neighbours)
unfolding bad_mesh_starts
mesh-starts m h =
    let bad : Bool = bad_starts m.nodes m.starts in
    let ends : Bool = eqb (get_or m.starts m.nodes 0) (length m.neighbours) in
    (good-starts m.nodes m.starts (or_false_left bad _ h), eqb-true _ _ (not-false ends (or_false_right bad _ h)))

-- past the nodes the lists are empty
pub list_out : (m : Mesh) (v : ℕ) → length m.starts ≡ m.nodes + 1 → m.nodes ≤ v → neighbours_of m v ≡ []
unfolding neighbours_of list_at
list_out m v full le =
    let none : get_or m.starts (v + 1) 0 ≡ 0 = get_or-eq_default m.starts 0 (omega (arith, full)) in
    let nothing : 0 - get_or m.starts v 0 ≡ 0 = omega arith in
    rw (none, nothing)

-- check 4: an entry of a list is a node
pub entry_inside : (m : Mesh) → neighbour_outside m ≡ false → (v w : ℕ) → adjacent m v w ≡ true → w < m.nodes
unfolding adjacent neighbours_of list_at neighbour_outside
entry_inside m h v w a =
    leb-false m.nodes w
    (exists-none (leb m.nodes) m.neighbours h w (is_in-drop w (get_or m.starts v 0) m.neighbours (is_in-take w (get_or m.starts (v + 1) 0 - get_or m.starts v 0) (drop (get_or m.starts v 0) m.neighbours) a)))

-- check 6: a node's list ascends
pub list_ascends : (m : Mesh) → not_ascending m ≡ false → (v : ℕ) → v < m.nodes → ascending (neighbours_of m v) ≡ true
unfolding not_ascending
list_ascends m h v lt =
    not-false (ascending (neighbours_of m v)) (exists-none (λ v. not (ascending (neighbours_of m v))) (below m.nodes) h v (below-is_in m.nodes v lt))

-- check 26: it has few entries
pub list_short : (m : Mesh) → list_too_long m ≡ false → (v : ℕ) → v < m.nodes → length (neighbours_of m v) ≤ max_neighbours
unfolding list_too_long
list_short m h v lt =
    ltb-false max_neighbours (length (neighbours_of m v))
    (exists-none (λ v. ltb max_neighbours (length (neighbours_of m v))) (below m.nodes) h v (below-is_in m.nodes v lt))

-- check 7: each of them has its mirror
pub list_mirrored : (m : Mesh) → one_sided m ≡ false → (v w : ℕ) → v < m.nodes → adjacent m v w ≡ true → adjacent m w v ≡ true
unfolding one_sided
list_mirrored m h v w lt a =
    let one : exists (λ w. not (adjacent m w v)) (neighbours_of m v) ≡ false =
    exists-none (λ v. exists (λ w. not (adjacent m w v)) (neighbours_of m v)) (below m.nodes) h v (below-is_in m.nodes v lt) in
    not-false (adjacent m w v) (exists-none (λ w. not (adjacent m w v)) (neighbours_of m v) one w (unfold adjacent in a))

module _ (m : Mesh) (h : Passed m) where
  full : length m.starts ≡ m.nodes + 1
  full = (mesh-starts m h.starts).0.many

  -- a node with a neighbour is below n
  listed : (v w : ℕ) → adjacent m v w ≡ true → v < m.nodes
  unfolding adjacent
  listed v w a = elim (lt_or_le v m.nodes) [
    | inl l ↦ l
    | inr l ↦ clash (is_in w (neighbours_of m v)) a (ap (is_in w) (list_out m v full l))
  ]

  -- check 5
  loopless : (v : ℕ) → adjacent m v v ≡ false
  unfolding lists_itself
  loopless v = elim (lt_or_le v m.nodes) [
    | inl l ↦ exists-none (λ v. adjacent m v v) (below m.nodes) h.loopless v (below-is_in m.nodes v l)
    | inr l ↦ unfold adjacent in ap (is_in v) (list_out m v full l)
  ]

  -- check 6
  ascends : (v : ℕ) → ascending (neighbours_of m v) ≡ true
  ascends v = elim (lt_or_le v m.nodes) [
    | inl l ↦ list_ascends m h.ascends v l
    | inr l ↦ ap ascending (list_out m v full l)
  ]

  -- check 26
  short : (v : ℕ) → length (neighbours_of m v) ≤ max_neighbours
  short v = elim (lt_or_le v m.nodes) [
    | inl l ↦ list_short m h.short v l
    | inr l ↦ (let e : length (neighbours_of m v) ≡ 0 = ap length (list_out m v full l) in omega (arith, e))
  ]

  -- check 7
  mirror : (v w : ℕ) → adjacent m v w ≡ true → adjacent m w v ≡ true
  mirror v w a = list_mirrored m h.mirrored v w (listed v w a) a

-- behind a mesh that passes its checks the first fault is that of the checks to come
pub mesh-passed : (m : Mesh) (cs : Checks) → first_fault (mesh_checks m) ≡ 0 → first_fault (mesh_checks m ++ cs) ≡ first_fault cs
mesh-passed m cs h = first-none (mesh_checks m) cs (unfold mesh_checks in refl) h

-- a mesh that passes its checks
pub checked : (m : Mesh) → first_fault (mesh_checks m) ≡ 0 → Checked m
checked m h =
    let p : Passed m = passed-each m h in
    let c = node_count m.nodes p.count in
    let starts = mesh-starts m p.starts in
    record {
      some = c.0;
      few = c.1;
      starts = starts.0;
      last = starts.1;
      entries = unfold too_many_entries in ltb-false max_entries (length m.neighbours) p.entries;
      inside = λ v w a. (listed m p v w a, entry_inside m p.inside v w a);
      loopless = loopless m p;
      ascends = ascends m p;
      short = short m p;
      symmetric = record { mirror = mirror m p };
    }
