-- A mesh that is made, as it is handed out: what its checks say, the number that is answered, and the mesh in the buffers.
use mathlib.Core.Path.{◌≡◌, refl, ap}
use mathlib.Core.Bool.{false}
use mathlib.Core.List.{[], ◌∷◌}
use Prim.Native.Nat.{ℕ, zero, suc, ◌+◌, ◌≤◌, ◌<◌}
use native.Mathlib.Omega.{arith}
use lib.Dec.{ltb}
use lib.ListN.{length, get_or, take}
use borrow.Author.Tests.{ltb-false}
use Rattle.std.specs.Prelude.{Ok, Err}
use Rattle.plan.specs.declared.MeshCounts.{MeshCounts}
use Rattle.plan.specs.declared.refusal.Refusal.{Refusal}
use Rattle.plan.specs.Answers.{Reply, refused}
use Rattle.plan.specs.Lists.{written}
use Rattle.plan.specs.Refusals.{number_of, first_fault}
use Rattle.plan.specs.Mesh.{Mesh, lent, bad_node_count, too_many_entries, list_too_long}
use Rattle.plan.specs.MadeMesh.{MeshBuffers, MeshCapacity, mesh_capacity, mesh_buffers_too_short, made_checks, hand_mesh, fill_mesh, MeshFilled}
use Rattle.theory.proofs.Bools.{or_false_left, or_false_right}
use Rattle.theory.proofs.Written.{front-written}
use Rattle.theory.proofs.Refusals.{number-suc, no_fault}

-- checks 1, 3, 26 and 8, each without a fault
pub record MadePassed (m : Mesh) (room : MeshCapacity) : Type 0 where
  pub count : bad_node_count m.nodes ≡ false
  pub entries : too_many_entries m ≡ false
  pub short : list_too_long m ≡ false
  pub fits : mesh_buffers_too_short m room ≡ false

pub made-passed : (m : Mesh) (room : MeshCapacity) → first_fault (made_checks m room) ≡ 0 → MadePassed m room
unfolding made_checks
made-passed m room h =
    let c1 = no_fault 1 (bad_node_count m.nodes) _ (omega arith) h in
    let c3 = no_fault 3 (too_many_entries m) _ (omega arith) c1.1 in
    let c26 = no_fault 26 (list_too_long m) _ (omega arith) c3.1 in
    let c8 = no_fault 8 (mesh_buffers_too_short m room) _ (omega arith) c26.1 in
    record { count = c1.0; entries = c3.0; short = c26.0; fits = c8.0 }

-- the number that is answered is that of the first fault
pub hand_number : (k : ℕ) (m : Mesh) → (hand_mesh k m).reply.number ≡ k
unfolding hand_mesh
hand_number zero m = refl
hand_number (suc k) m = refl

module _ (m : Mesh) (found : MeshBuffers) where
  -- of a fault its number, and the buffers as they were
  pub refused-mesh : (r : Refusal) → MeshFilled (hand_mesh (number_of r) m) (Err r) found found
  unfolding hand_mesh fill_mesh
  refused-mesh r =
      let n : (k : ℕ) × (number_of r ≡ suc k) = number-suc r in
      rw n.1 (record { reply = ap refused n.1; starts = refl; neighbours = refl })

  -- where there is none, the counts of the mesh, and its lists
  pub accepted-mesh : (k : ℕ) (left : MeshBuffers) (c : MeshCounts) → k ≡ 0 → c.nodes ≡ m.nodes → c.entries ≡ length m.neighbours
      → left.starts ≡ written m.starts found.starts → left.neighbours ≡ written m.neighbours found.neighbours
      → MeshFilled (hand_mesh k m) (Ok c) found left
  unfolding hand_mesh fill_mesh
  accepted-mesh k left c none nodes entries starts neighbours = rw none (record { reply = rw (nodes, entries); starts = starts; neighbours = neighbours })

  -- buffers that are not too short have room for them
  pub mesh-fits : mesh_buffers_too_short m (mesh_capacity found) ≡ false → (m.nodes < length found.starts) × (length m.neighbours ≤ length found.neighbours)
  unfolding mesh_buffers_too_short mesh_capacity
  mesh-fits h =
      let starts = ltb-false (length found.starts) (m.nodes + 1) (or_false_left (ltb (length found.starts) (m.nodes + 1)) _ h) in
      (omega (arith, starts), ltb-false (length found.neighbours) (length m.neighbours) (or_false_right (ltb (length found.starts) (m.nodes + 1)) _ h))

-- the mesh in the buffers, by the counts that were answered
pub filled-mesh : (k : ℕ) (m : Mesh) (c : MeshCounts) (found left : MeshBuffers) → length m.starts ≡ m.nodes + 1 → k ≡ 0
    → MeshFilled (hand_mesh k m) (Ok c) found left
    → lent c.nodes (take (c.nodes + 1) left.starts) (take c.entries left.neighbours) ≡ m
unfolding hand_mesh fill_mesh
filled-mesh zero m c found left long e h =
    let value : (i : ℕ) → get_or (c.nodes ∷ c.entries ∷ []) i 0 ≡ get_or (m.nodes ∷ length m.neighbours ∷ []) i 0 = λ i. ap (λ (r : Reply). get_or r.values i 0) h.reply in
    let nodes : c.nodes ≡ m.nodes = value 0 in
    let entries : c.entries ≡ length m.neighbours = value 1 in
    rw (
      nodes,
      entries,
      front-written (m.nodes + 1) m.starts found.starts left.starts h.starts long,
      front-written (length m.neighbours) m.neighbours found.neighbours left.neighbours h.neighbours refl,
    )
filled-mesh (suc k) m c found left long e h = absurd (omega (arith, e))
