-- What planning hands out: each node once, a tree of nested parts, demand 3; for a dissection by any choice, and for George and Liu's. Of the latter
-- the clique rule too.
use mathlib.Core.Path.{◌≡◌, refl, sym, ap, ◌∙◌}
use mathlib.Core.Bool.{true, false}
use mathlib.Core.List.{List, ◌++◌}
use Prim.Native.Nat.{ℕ, zero, suc, ◌≤◌, ◌<◌}
use native.Mathlib.Omega.{arith}
use lib.ListN.{length, get_or, take, drop}
use Rattle.std.specs.Prelude.{Result, Ok, Err}
use Rattle.plan.specs.declared.refusal.Refusal.{Refusal}
use Rattle.plan.specs.declared.Plan.{Plan}
use Rattle.plan.specs.RoundTrips.{handed}
use Rattle.plan.specs.Refusals.{first_fault}
use Rattle.plan.specs.Answers.{Reply}
use Rattle.plan.specs.Mesh.{Mesh, adjacent, mesh_checks}
use Rattle.plan.specs.Choice.{george_liu}
use Rattle.plan.specs.Dissection.{dissection, positions}
use Rattle.plan.specs.Demand3.{Demand3}
use Rattle.plan.specs.Cliques.{uncut_cliques}
use Rattle.plan.specs.Planning.{Contents, plan_by, plan_of, Capacity, Buffers, bad_unknowns, plan_checks, hand_out, planning, Filled, Demand3Of, CliquesOf}
use Rattle.plan.specs.Enough.{OrderWhole}
use Rattle.theory.specs.Counting.{Order}
use Rattle.theory.specs.Regions.{Takes}
use Rattle.theory.specs.Checked.{Checked}
use Rattle.theory.specs.Rows.{edge_at}
use Rattle.theory.specs.PartTree.{PartTree, Nested}
use Rattle.theory.proofs.Written.{front-written}
use Rattle.theory.proofs.Refusals.{no_fault, no_fault_first}
use Rattle.theory.proofs.Checked.{checked}
use Rattle.theory.proofs.Handed.{accepted-holds}
use Rattle.theory.proofs.Orders.{order-length, order-passes, order_of_position, position_of_order}
use Rattle.theory.proofs.Forest.{sizes-length}
use Rattle.theory.proofs.Dissection.{order-count, parts-few, dissection-tree, dissection-nested}
use Rattle.theory.proofs.Demand3.{nested-demand3}
use Rattle.theory.proofs.Choice.{george_liu_takes}
use Rattle.theory.proofs.UncutParts.{george_liu-clique, dissection-cliques}

-- the plan of a mesh by any choice of a region's part, for u unknowns for each node
abbrev pub plan_with : ℕ → Mesh → (List ℕ → List ℕ) → Contents
plan_with u m choose = plan_by u m (dissection (adjacent m) choose m.nodes)

-- as many nodes as the mesh
plan-nodes : (u : ℕ) (m : Mesh) (choose : List ℕ → List ℕ) → (plan_with u m choose).nodes ≡ m.nodes
unfolding plan_by
plan-nodes u m choose = refl

-- as many sizes as parts
pub plan-sizes : (u : ℕ) (m : Mesh) (choose : List ℕ → List ℕ) → length (plan_with u m choose).sizes ≡ (plan_with u m choose).parts
unfolding plan_by
plan-sizes u m choose = sizes-length (dissection (adjacent m) choose m.nodes)

-- ---- by any choice that takes a non-empty part from each region

module _ (u : ℕ) (m : Mesh) (choose : List ℕ → List ℕ) (takes : Takes (adjacent m) choose) where
  abbrev plan : Contents
  plan = plan_with u m choose

  -- the order holds each node once
  pub plan-once : Order m.nodes plan.order
  unfolding plan_by
  plan-once = order-count (adjacent m) choose takes m.nodes

  -- the sizes sum to n, and the parents are later parts
  pub plan-tree : PartTree m.nodes plan.sizes plan.parents
  unfolding plan_by
  plan-tree = dissection-tree (adjacent m) choose takes m.nodes

  module _ (good : Checked m) where
    -- every edge joins a position with one in its own part or an ancestor's
    pub plan-nested : Nested m.nodes (edge_at m plan.order) plan.sizes plan.parents
    unfolding plan_by edge_at
    plan-nested = dissection-nested (adjacent m) choose takes m.nodes (omega (arith, good.few))

    -- demand 3, whatever stands in the buffers behind the column starts and the rows
    pub plan-demand3 : (more rest : List ℕ) → Demand3 m plan.order plan.sizes plan.parents (plan.column_starts ++ more) (plan.rows ++ rest)
    unfolding plan_by
    plan-demand3 more rest = nested-demand3 m plan.order plan.sizes plan.parents good.symmetric plan-once plan-tree plan-nested more rest

-- ---- by George and Liu's choice

-- the order holds each node once
pub planned-once : (u : ℕ) (m : Mesh) → Order m.nodes (plan_of u m).order
unfolding plan_of
planned-once u m = plan-once u m (george_liu m) (george_liu_takes m)

-- as many sizes as parts
pub planned-sizes : (u : ℕ) (m : Mesh) → length (plan_of u m).sizes ≡ (plan_of u m).parts
unfolding plan_of
planned-sizes u m = plan-sizes u m (george_liu m)

-- no more of them than nodes
pub planned-few : (u : ℕ) (m : Mesh) → (plan_of u m).parts ≤ m.nodes
unfolding plan_of plan_by
planned-few u m = parts-few (adjacent m) (george_liu m) (george_liu_takes m) m.nodes

-- the sizes sum to n, and the parents are later parts
pub planned-tree : (u : ℕ) (m : Mesh) → PartTree m.nodes (plan_of u m).sizes (plan_of u m).parents
unfolding plan_of
planned-tree u m = plan-tree u m (george_liu m) (george_liu_takes m)

-- as many parents as parts
pub planned-parents : (u : ℕ) (m : Mesh) → length (plan_of u m).parents ≡ (plan_of u m).parts
planned-parents u m = (planned-tree u m).as_many ∙ planned-sizes u m

-- positions invert the order: the position of the node at position i is i
pub position_of_planned : (u : ℕ) (m : Mesh) (i : ℕ) → i < m.nodes → get_or (positions m.nodes (plan_of u m).order) (get_or (plan_of u m).order i 0) 0 ≡ i
position_of_planned u m i l = position_of_order m.nodes (plan_of u m).order (planned-once u m) i l

-- and the node at the position of node v is v
pub planned_of_position : (u : ℕ) (m : Mesh) (v : ℕ) → v < m.nodes → get_or (plan_of u m).order (get_or (positions m.nodes (plan_of u m).order) v 0) 0 ≡ v
planned_of_position u m v l = order_of_position m.nodes (plan_of u m).order (planned-once u m) v l

-- the parts hold each node once
pub order-whole : OrderWhole
order-whole u m passes = order-passes m.nodes (plan_of u m).order (planned-once u m)

-- demand 3 of a mesh that passes its checks, whatever stands in the buffers behind the column starts and the rows
pub planned-demand3 : (u : ℕ) (m : Mesh) → first_fault (mesh_checks m) ≡ 0 → (more rest : List ℕ)
    → Demand3 m (plan_of u m).order (plan_of u m).sizes (plan_of u m).parents ((plan_of u m).column_starts ++ more) ((plan_of u m).rows ++ rest)
unfolding plan_of
planned-demand3 u m passes more rest = plan-demand3 u m (george_liu m) (george_liu_takes m) (checked m passes) more rest

-- the clique rule of a mesh that passes its checks: its uncut parts are cliques
pub planned-cliques : (u : ℕ) (m : Mesh) → first_fault (mesh_checks m) ≡ 0 → uncut_cliques m (plan_of u m).order (plan_of u m).sizes (plan_of u m).parents ≡ true
unfolding plan_of plan_by
planned-cliques u m passes = dissection-cliques m (george_liu m) (george_liu_takes m) (george_liu-clique m (checked m passes)) m.nodes

-- ---- what is handed out

pub planned-nodes : (u : ℕ) (m : Mesh) → (plan_of u m).nodes ≡ m.nodes
unfolding plan_of
planned-nodes u m = plan-nodes u m (george_liu m)

-- the number that an outcome shows is that of the first fault
pub hand_number : (k : ℕ) (c : Contents) → (hand_out k c).reply.number ≡ k
unfolding hand_out
hand_number zero c = refl
hand_number (suc k) c = refl

-- an accepted outcome hands out the plan
pub handed-accepted : (k : ℕ) (c : Contents) → (hand_out k c).reply.number ≡ 0 → handed (hand_out k c) ≡ c
unfolding handed hand_out
handed-accepted k c h = let e : k ≡ 0 = sym (hand_number k c) ∙ h in rw e

-- where planning is accepted, the plan that it hands out is the plan of the mesh
pub handed-planned : (u : ℕ) (m : Mesh) (room : Capacity) → (planning u m room).reply.number ≡ 0 → handed (planning u m room) ≡ plan_of u m
unfolding planning
handed-planned u m room h = handed-accepted (first_fault (plan_checks u m room)) (plan_of u m) h

-- what holds of a plan by any choice, whatever stands in the buffers behind the column starts and the rows, holds of what is handed out
module _ (u : ℕ) (m : Mesh) (choose : List ℕ → List ℕ) (takes : Takes (adjacent m) choose) (P : (order sizes parents column_starts rows : List ℕ) → Type 0)
    (of-plan : let c : Contents = plan_with u m choose in
    first_fault (mesh_checks m) ≡ 0 → (more rest : List ℕ) → P c.order c.sizes c.parents (c.column_starts ++ more) (c.rows ++ rest))
    (p : Plan) (found left : Buffers) where
  -- the statement, of the used entries of what is handed out
  abbrev OfHanded : Type 0
  OfHanded = P (take p.nodes left.order) (take p.parts left.sizes) (take p.parts left.parents) left.column_starts left.rows

  -- where a plan is handed out
  accepted_of : first_fault (mesh_checks m) ≡ 0 → Filled (hand_out 0 (plan_with u m choose)) (Ok p) found left → OfHanded
  accepted_of passes h =
      let c : Contents = plan_with u m choose in
      let held = accepted-holds c p found left h in
      let nodes : length c.order ≡ p.nodes = order-length m.nodes c.order (plan-once u m choose takes) ∙ sym (held.nodes ∙ plan-nodes u m choose) in
      rw (
        front-written p.nodes c.order found.order left.order held.order nodes,
        front-written p.parts c.sizes found.sizes left.sizes held.sizes (plan-sizes u m choose ∙ sym held.parts),
        front-written p.parts c.parents found.parents left.parents held.parents ((plan-tree u m choose takes).as_many ∙ plan-sizes u m choose ∙ sym held.parts),
        held.column_starts,
        held.rows,
      )
      (of-plan passes (drop (length c.column_starts) found.column_starts) (drop (length c.rows) found.rows))

  -- by the number of the first fault, 0 being no fault in checks that include those of the mesh
  handed_of : (k : ℕ) → (k ≡ 0 → first_fault (mesh_checks m) ≡ 0) → Filled (hand_out k (plan_with u m choose)) (Ok p) found left → OfHanded
  handed_of zero passes h = accepted_of (passes refl) h
  handed_of (suc k) passes h = absurd (omega (arith, hand_number (suc k) (plan_with u m choose), ap (λ (r : Reply). r.number) h.reply))

-- where planning's checks find no fault, 28 finds none, nor do those of the mesh
pub planning-passes : (u : ℕ) (m : Mesh) (room : Capacity) → first_fault (plan_checks u m room) ≡ 0 → (bad_unknowns u ≡ false) × (first_fault (mesh_checks m) ≡ 0)
unfolding plan_checks
planning-passes u m room e =
    let c28 = no_fault 28 (bad_unknowns u) _ (omega arith) e in
    (c28.0, no_fault_first (mesh_checks m) _ c28.1)

-- Demand 3 of what is handed out: an answer and buffers that agree with planning's outcome satisfy it.
pub handed-demand3 : (u : ℕ) (m : Mesh) (room : Capacity) (answer : Result Plan Refusal) (found left : Buffers)
    → Filled (planning u m room) answer found left → Demand3Of m answer left
unfolding planning plan_of Demand3Of
handed-demand3 u m room (Err k) found left h = tt
handed-demand3 u m room (Ok p) found left h =
    handed_of u m (george_liu m) (george_liu_takes m) (Demand3 m) (planned-demand3 u m) p found left (first_fault (plan_checks u m room)) (λ e. (planning-passes u m room e).1) h

-- The clique rule of what is handed out.
pub handed-cliques : (u : ℕ) (m : Mesh) (room : Capacity) (answer : Result Plan Refusal) (found left : Buffers)
    → Filled (planning u m room) answer found left → CliquesOf m answer left
unfolding planning plan_of CliquesOf
handed-cliques u m room (Err k) found left h = tt
handed-cliques u m room (Ok p) found left h =
    handed_of u m (george_liu m) (george_liu_takes m) (λ order sizes parents column_starts rows. uncut_cliques m order sizes parents ≡ true)
    (λ passes more rest. planned-cliques u m passes) p found left (first_fault (plan_checks u m room)) (λ e. (planning-passes u m room e).1) h
