-- The listing of planning's answer: what planning leaves in buffers that are long enough is listed as the book says.
use mathlib.Core.Path.{◌≡◌, refl, sym, ap, ◌∙◌, subst}
use mathlib.Core.Logic.{inl, inr}
use mathlib.Core.Bool.{true, false}
use mathlib.Core.List.{List, [], ◌∷◌, ◌++◌, map, flatten, append-nil}
use Prim.Native.Nat.{ℕ, zero, suc, ◌+◌, ◌≤◌, ◌<◌}
use native.Mathlib.Omega.{arith}
use lib.ListN.{length, get_or, take, drop, length-append, get_or-append}
use borrow.Author.Tests.{le-ltb}
use Rattle.std.specs.Prelude.{Result, Ok, Err}
use Rattle.plan.specs.declared.refusal.Refusal.{Refusal}
use Rattle.plan.specs.declared.Plan.{Plan}
use Rattle.plan.specs.Lists.{below, list_at}
use Rattle.plan.specs.Refusals.{Checks, first_fault}
use Rattle.plan.specs.Answers.{Reply}
use Rattle.plan.specs.Mesh.{Mesh, mesh_checks}
use Rattle.plan.specs.Planning.{plan_by, plan_of, Buffers, Capacity, capacity, bad_unknowns, buffers_too_short, rows_too_short, plan_checks, hand_out, planning, Filled, Planned}
use Rattle.plan.specs.Listing.{max_listed_nodes, input_mesh, bad_input, listing_checks, head_line, position_line, refusal_line, print, listed_plan, listing}
use Rattle.theory.proofs.Bools.{tested}
use Rattle.theory.proofs.Written.{front-written}
use Rattle.theory.proofs.Refusals.{first_nil, fault_here, fault_later, none-behind, fault_below}
use Rattle.theory.proofs.Ranges.{map_ext_up_from}
use Rattle.theory.proofs.Orders.{order-length}
use Rattle.theory.proofs.Slots.{column-listed, column_at, slots-last}
use Rattle.theory.proofs.Eliminated.{columns-starts}
use Rattle.theory.proofs.Handed.{Holds, accepted-holds}
use Rattle.theory.proofs.Planned.{planned-nodes, planned-once, planned-sizes}
use Rattle.mesh.specs.Lists.{ListWithin}
use Rattle.mesh.proofs.Lists.{good-starts-within}
use Rattle.text.specs.Lines.{shown, head_of, lines_of, lent_plan, PlanWithin, answer_text, AnswerWithin, mesh_text}
use Rattle.text.specs.Room.{max_listed_slots, longest}
use Rattle.text.proofs.Lines.{head-counts, plan-parts}
use Rattle.text.proofs.Inputs.{input_passes, mesh-nodes}
use Rattle.text.proofs.Bound.{slots_at_most, plan-fits, refusal-fits}

-- ---- the first fault

-- of a mesh's checks it is below 100
mesh_fault : (m : Mesh) → first_fault (mesh_checks m) < 100
unfolding mesh_checks
mesh_fault m = fault_below 100 (mesh_checks m) (omega arith) refl

-- buffers for a mesh of at most 256 nodes
pub record Roomy (room : Capacity) : Type 0 where
  pub order : max_listed_nodes ≤ room.order
  pub positions : max_listed_nodes ≤ room.positions
  pub sizes : max_listed_nodes ≤ room.sizes
  pub parents : max_listed_nodes ≤ room.parents
  pub column_starts : max_listed_nodes + 1 ≤ room.column_starts
  pub rows : max_listed_slots ≤ room.rows

module _ (m : Mesh) (few : m.nodes ≤ max_listed_nodes) where
  -- such buffers are long enough
  long_enough : (room : Capacity) → Roomy room → buffers_too_short m.nodes room ≡ false
  unfolding buffers_too_short
  long_enough room r =
      rw (
        le-ltb room.order m.nodes (omega (arith, r.order)),
        le-ltb room.positions m.nodes (omega (arith, r.positions)),
        le-ltb room.sizes m.nodes (omega (arith, r.sizes)),
        le-ltb room.parents m.nodes (omega (arith, r.parents)),
      )
      (le-ltb room.column_starts (m.nodes + 1) (omega (arith, r.column_starts)))

  -- and so are the rows
  rows_enough : (room : Capacity) → Roomy room → rows_too_short (listed_plan m) room ≡ false
  unfolding rows_too_short
  rows_enough room r = le-ltb room.rows (listed_plan m).slots (omega (arith, r.rows, slots_at_most m few))

  -- so planning's first fault is the mesh's
  same_fault : (room : Capacity) → Roomy room → first_fault (plan_checks 1 m room) ≡ first_fault (mesh_checks m)
  unfolding plan_checks bad_unknowns
  same_fault room r =
      let nine : Checks = (9, rows_too_short (listed_plan m) room) ∷ [] in
      fault_later 28 (bad_unknowns 1) _ refl
      ∙ none-behind (mesh_checks m) ((8, buffers_too_short m.nodes room) ∷ nine)
      (fault_later 8 (buffers_too_short m.nodes room) nine (long_enough room r) ∙ fault_later 9 (rows_too_short (listed_plan m) room) [] (rows_enough room r) ∙ first_nil)

  -- the text fits
  pub mesh-fits : length (mesh_text m) ≤ longest
  unfolding mesh_text
  mesh-fits = go (first_fault (mesh_checks m)) (mesh_fault m)
    where
      go : (k : ℕ) → k < 100 → length (print k (listed_plan m)) ≤ longest
      go zero h = plan-fits m few
      go (suc k) h = unfold print in omega (arith, refusal-fits (suc k) h)

-- ---- a plan that was handed out

-- a list that lies within its entries does so where more stands behind both
within_longer : (starts entries more rest : List ℕ) (j : ℕ) → ListWithin starts entries j → ListWithin (starts ++ more) (entries ++ rest) j
within_longer starts entries more rest j w =
    let here : get_or (starts ++ more) j 0 ≡ get_or starts j 0 = get_or-append starts more 0 j (omega (arith, w.started)) in
    let next : get_or (starts ++ more) (j + 1) 0 ≡ get_or starts (j + 1) 0 = get_or-append starts more 0 (j + 1) w.started in
    record {
      started = omega (arith, w.started, length-append starts more);
      ordered = omega (arith, w.ordered, here, next);
      ended = omega (arith, w.ended, next, length-append entries rest);
    }

-- each column of a plan lies within the rows
column-within : (m : Mesh) (j : ℕ) → j < m.nodes → ListWithin (listed_plan m).column_starts (listed_plan m).rows j
unfolding plan_of plan_by
column-within m j h =
    let last : get_or (listed_plan m).column_starts m.nodes 0 ≡ length (listed_plan m).rows = simp append-nil at (slots-last m (listed_plan m).order []) in
    good-starts-within m.nodes (listed_plan m).column_starts (listed_plan m).rows (columns-starts m (listed_plan m).order) (omega (arith, last)) j h

module _ (m : Mesh) (p : Plan) (found left : Buffers) (h : Holds (listed_plan m) p found left) where
  -- the answer shows as many nodes as the mesh has
  nodes : p.nodes ≡ m.nodes
  nodes = h.nodes ∙ planned-nodes 1 m

  -- the order has a node for each position
  many : length (listed_plan m).order ≡ m.nodes
  many = order-length m.nodes (listed_plan m).order (planned-once 1 m)

  -- the order and the sizes stand at the front
  order-front : take p.nodes left.order ≡ (listed_plan m).order
  order-front = front-written p.nodes (listed_plan m).order found.order left.order h.order (many ∙ sym nodes)

  sizes-front : take p.parts left.sizes ≡ (listed_plan m).sizes
  sizes-front = front-written p.parts (listed_plan m).sizes found.sizes left.sizes h.sizes (planned-sizes 1 m ∙ sym h.parts)

  -- and so do the columns
  column-front : (j : ℕ) → j < m.nodes → list_at left.column_starts left.rows j ≡ list_at (listed_plan m).column_starts (listed_plan m).rows j
  unfolding plan_of plan_by
  column-front j l =
      rw (h.column_starts, h.rows)
      (column-listed m (listed_plan m).order (drop (length (listed_plan m).column_starts) found.column_starts) (drop (length (listed_plan m).rows) found.rows) j l
      ∙ sym (column_at m (listed_plan m).order j l))

  -- the buffers hold the plan
  plan-within : PlanWithin p.nodes p.parts left.order left.sizes left.column_starts left.rows
  plan-within =
      record {
        nodes = omega (arith, nodes, many, ap length h.order, length-append (listed_plan m).order (drop (length (listed_plan m).order) found.order));
        parts = omega (arith, h.parts, planned-sizes 1 m, ap length h.sizes, length-append (listed_plan m).sizes (drop (length (listed_plan m).sizes) found.sizes));
        columns = λ j l. rw (h.column_starts, h.rows) (within_longer (listed_plan m).column_starts (listed_plan m).rows _ _ j (column-within m j (omega (arith, nodes))));
      }

  -- its lines are those of the plan of the mesh
  lines_same : lines_of (listed_plan m).order (listed_plan m).sizes left.column_starts left.rows ≡ flatten (map (position_line (listed_plan m)) (below m.nodes))
  unfolding position_line
  lines_same =
      rw many
      (ap flatten (map_ext_up_from (position_line (shown 0 0 0 (listed_plan m).order (listed_plan m).sizes left.column_starts left.rows)) (position_line (listed_plan m)) m.nodes 0
      (λ j l u. rw (column-front j (omega arith)))))

  -- and so is its first line
  head-same : head_of p.nodes p.parts p.slots ≡ head_line (listed_plan m)
  head-same = rw (h.nodes, h.parts, h.slots) (sym (head-counts (listed_plan m)))

  -- so it is listed as that plan
  plan_text : print 0 (lent_plan p.nodes p.parts p.slots left.order left.sizes left.column_starts left.rows) ≡ print 0 (listed_plan m)
  unfolding print
  plan_text =
      plan-parts p.nodes p.parts p.slots left.order left.sizes left.column_starts left.rows plan-within.nodes
      ∙ rw (order-front, sizes-front, lines_same, head-same) (ap (λ (n : ℕ). head_line (listed_plan m) ++ flatten (map (position_line (listed_plan m)) (below n))) (sym (planned-nodes 1 m)))

-- ---- an answer

-- an answer and buffers from which `text` is listed
pub record Listed (answer : Result Plan Refusal) (left : Buffers) (text : List ℕ) : Type 0 where
  pub same : answer_text answer left.order left.sizes left.column_starts left.rows ≡ text
  pub held : AnswerWithin answer left.order left.sizes left.column_starts left.rows

-- a plan
accepted-listed : (m : Mesh) (answer : Result Plan Refusal) (found left : Buffers) → Filled (hand_out 0 (listed_plan m)) answer found left → Listed answer left (print 0 (listed_plan m))
unfolding answer_text AnswerWithin hand_out
accepted-listed m (Ok p) found left h = let held = accepted-holds (listed_plan m) p found left h in record { same = plan_text m p found left held; held = plan-within m p found left held }
accepted-listed m (Err j) found left h = absurd (omega (arith, ap (λ (r : Reply). length r.values) h.reply))

-- a refusal
refused-listed : (k : ℕ) (m : Mesh) (answer : Result Plan Refusal) (found left : Buffers) → Filled (hand_out (suc k) (listed_plan m)) answer found left → Listed answer left (print (suc k) (listed_plan m))
unfolding hand_out answer_text AnswerWithin print
refused-listed k m (Ok p) found left h = absurd (omega (arith, ap (λ (r : Reply). r.number) h.reply))
refused-listed k m (Err j) found left h = record { same = ap refusal_line (ap (λ (r : Reply). r.number) h.reply); held = tt }

-- planning's answer, where the buffers are long enough
pub planned-listed : (m : Mesh) → m.nodes ≤ max_listed_nodes → (answer : Result Plan Refusal) (found left : Buffers) → Roomy (capacity found) → Planned 1 m answer found left
    → Listed answer left (mesh_text m)
unfolding planning mesh_text
planned-listed m few answer found left room h =
    go (first_fault (mesh_checks m)) (subst (λ (k : ℕ). Filled (hand_out k (listed_plan m)) answer found left) (same_fault m few (capacity found) room) h.filled)
  where
    go : (k : ℕ) → Filled (hand_out k (listed_plan m)) answer found left → Listed answer left (print k (listed_plan m))
    go zero f = accepted-listed m answer found left f
    go (suc k) f = refused-listed k m answer found left f

-- ---- the listing

-- input that fails check 20 is refused
pub listing-refused : (bytes : List ℕ) → bad_input bytes ≡ true → listing bytes ≡ refusal_line 20
unfolding listing listing_checks print
listing-refused bytes h = ap (λ (k : ℕ). print k (listed_plan (input_mesh bytes))) (fault_here 20 (bad_input bytes) (mesh_checks (input_mesh bytes)) h)

-- other input is listed by the mesh that it holds
pub listing-mesh : (bytes : List ℕ) → bad_input bytes ≡ false → listing bytes ≡ mesh_text (input_mesh bytes)
unfolding listing listing_checks mesh_text
listing-mesh bytes h = ap (λ (k : ℕ). print k (listed_plan (input_mesh bytes))) (fault_later 20 (bad_input bytes) (mesh_checks (input_mesh bytes)) h)

-- every listing fits
pub listing-fits : (bytes : List ℕ) → length (listing bytes) ≤ longest
listing-fits bytes = elim (tested (bad_input bytes)) [
  | inl h ↦ omega (arith, ap length (listing-refused bytes h), refusal-fits 20 (omega arith))
  | inr h ↦ rw (listing-mesh bytes h) (mesh-fits (input_mesh bytes) (rw (mesh-nodes bytes) (input_passes bytes h).nodes))
]
