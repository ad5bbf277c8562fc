-- Laws of planning: the checks of the lent buffers, and the plan from the order and the columns.
use mathlib.Core.Path.{◌≡◌, refl, sym, ap, ◌∙◌}
use mathlib.Core.Bool.{false}
use mathlib.Core.List.{List, [], ◌∷◌, ◌++◌, map, flatten, map-map}
use Prim.Native.Nat.{ℕ, ◌+◌, ◌-◌, ◌≤◌, ◌<◌}
use native.Mathlib.Omega.{arith}
use lib.Dec.{ltb}
use lib.ListN.{length, get_or, take, drop, length-append, get_or-append}
use borrow.Author.Tests.{lt-ltb, le-ltb}
use Rattle.plan.specs.Lists.{below, index_of, written, running_sums, total}
use Rattle.std.specs.Prelude.{Result, Ok, Err}
use Rattle.plan.specs.declared.refusal.Refusal.{Refusal}
use Rattle.plan.specs.declared.refusal.Refusal.TheVariants.{RowsTooShort}
use Rattle.plan.specs.declared.Plan.{Plan}
use Rattle.plan.specs.Answers.{plan_reply}
use Rattle.plan.specs.Refusals.{number_of, Checks, first_fault}
use Rattle.plan.specs.Mesh.{Mesh, adjacent, mesh_checks}
use Rattle.plan.specs.Choice.{george_liu}
use Rattle.plan.specs.Dissection.{positions}
use Rattle.plan.specs.Steps.{by_number}
use Rattle.plan.specs.Elimination.{column, columns, starts_of, multiplications}
use Rattle.plan.specs.Planning.{Contents, Buffers, Capacity, Filled, Planned, row_counts, plan_by, plan_of, bad_unknowns, buffers_too_short, rows_too_short, plan_checks, planning, hand_out, capacity}
use Rattle.theory.specs.Counting.{Order}
use Rattle.theory.specs.Checked.{Checked}
use Rattle.theory.proofs.Refusals.{number-suc, no_fault, fault_here, fault_later, no_fault_first, first_some, first-none}
use Rattle.theory.proofs.Checked.{mesh-passed}
use Rattle.theory.proofs.Handed.{lengths_of, filled-refused}
use Rattle.theory.proofs.Planned.{handed-demand3, handed-cliques}
use Rattle.theory.proofs.Ranges.{map_ext_up_from, length-map-up_from, get_or-map-below}
use Rattle.theory.proofs.Written.{front-written}
use Rattle.theory.proofs.Compressed.{sums_length, total-lengths}
use Rattle.theory.proofs.Orders.{order-length}
use Rattle.theory.proofs.Slots.{column_counted, column-counts-length}
use Rattle.theory.proofs.Choice.{george_liu_takes}
use Rattle.theory.proofs.Dissection.{order-count, parts-few}
use Rattle.layout.specs.Arrays.{Ordered}
use Rattle.dissection.specs.Blocks.{Dissected, block_sizes, block_parents}
use Rattle.planner.specs.Checked.{planning_checked, early_checks, FilledChecked}
use Rattle.dissection.proofs.Heads.{dissected_parts}

-- ---- checks

-- what the mesh's checks refuse is refused
pub early-refused : (u : ℕ) (m : Mesh) (room : Capacity) (r : Refusal) → bad_unknowns u ≡ false → number_of r ≡ first_fault (mesh_checks m) → number_of r ≡ first_fault (early_checks u m room)
early-refused u m room r known e =
    let eighth : Checks = (8, buffers_too_short m.nodes room) ∷ [] in
    e ∙ sym (fault_later 28 (bad_unknowns u) (mesh_checks m ++ eighth) known ∙ first_some (mesh_checks m) eighth (λ z. omega (arith, e, z, number-suc r)))

-- what checks 28 and 8 tell where 28 and 1 to 8 find no fault
pub early-passed : (u : ℕ) (m : Mesh) (room : Capacity) → first_fault (early_checks u m room) ≡ 0
    → (buffers_too_short m.nodes room ≡ false) × (bad_unknowns u ≡ false)
early-passed u m room h =
    let c28 = no_fault 28 (bad_unknowns u) _ (omega arith) h in
    let eighth : Checks = (8, buffers_too_short m.nodes room) ∷ [] in
    let passes : first_fault (mesh_checks m) ≡ 0 = no_fault_first (mesh_checks m) eighth c28.1 in
    ((no_fault 8 (buffers_too_short m.nodes room) [] (omega arith) (sym (mesh-passed m eighth passes) ∙ c28.1)).0, c28.0)

-- ---- the order at the front of an array

-- an order holds each number below its own length once
pub order-own : (n : ℕ) (nodes : List ℕ) → Order n nodes → Order (length nodes) nodes
order-own n nodes once = rw (order-length n nodes once) once

-- the positions that an order's nodes are given are theirs
pub inverted : (m : Mesh) (nodes found left : List ℕ) → Checked m → Order m.nodes nodes → left ≡ written (positions (length nodes) nodes) found → Ordered m nodes left
unfolding positions
inverted m nodes found left good once e =
    let n : ℕ = m.nodes in
    let ps : List ℕ = map (λ v. index_of v nodes) (below n) in
    let long : length ps ≡ n = length-map-up_from (λ v. index_of v nodes) n 0 in
    let same : left ≡ ps ++ drop (length ps) found = rw (order-length n nodes once) at e in
    record {
      checked = good;
      once = once;
      placed = λ v l. rw same (get_or-append ps (drop (length ps) found) 0 v (omega arith) ∙ get_or-map-below (λ v. index_of v nodes) 0 n v l);
      long = omega (arith, ap length same, length-append ps (drop (length ps) found));
    }

-- ---- the columns of an order

-- the running sums of counted columns are their starts
pub starts-written : (m : Mesh) (nodes counts found left : List ℕ) → take m.nodes counts ≡ map length (columns m nodes)
    → left ≡ written (running_sums 0 (take m.nodes counts)) found → left ≡ written (starts_of (columns m nodes)) found
unfolding starts_of
starts-written m nodes counts found left same e = rw same at e

-- and stand at the front of their buffer
pub starts-front : (m : Mesh) (nodes found left : List ℕ) → left ≡ written (starts_of (columns m nodes)) found → take (m.nodes + 1) left ≡ starts_of (columns m nodes)
unfolding starts_of
starts-front m nodes found left e =
    front-written (m.nodes + 1) (running_sums 0 (map length (columns m nodes))) found left e (omega (arith, sums_length 0 (map length (columns m nodes)), column-counts-length m nodes))

-- ---- the dissection in its arrays

-- the order at the front of its array holds each node once
pub dissected_order : (m : Mesh) {left : ℕ} (held heads : List ℕ) (count : ℕ) → Dissected m held heads left count → Order m.nodes (take m.nodes held)
dissected_order m held heads count d = rw d.order (order-count (adjacent m) (george_liu m) (george_liu_takes m) m.nodes)

-- and there are no more parts than nodes
pub parts_within : (m : Mesh) {left : ℕ} (held heads : List ℕ) (count : ℕ) → Dissected m held heads left count → count ≤ m.nodes
parts_within m held heads count d = omega (arith, d.many, parts-few (adjacent m) (george_liu m) (george_liu_takes m) m.nodes)

-- the plan that the arrays give
unfoldable pub held_plan : ℕ → Mesh → List ℕ → List ℕ → ℕ → Contents
held_plan u m held heads count =
    let cols : List (List ℕ) = columns m (take m.nodes held) in
    record {
      unknowns = u;
      nodes = m.nodes;
      parts = count;
      slots = length (flatten cols);
      order = take m.nodes held;
      sizes = block_sizes (take m.nodes heads);
      parents = by_number count (block_parents (take m.nodes heads));
      column_starts = starts_of cols;
      rows = flatten cols;
    }

-- it is the mesh's
pub held-planned : (u : ℕ) (m : Mesh) → Checked m → {left : ℕ} (held heads : List ℕ) (count : ℕ) → Dissected m held heads left count → held_plan u m held heads count ≡ plan_of u m
unfolding held_plan plan_of plan_by
held-planned u m good held heads count d =
    let f = dissected_parts m good held heads count d in
    rw (d.order, f.1, f.2, d.many)

-- the row counts of a plan are the lengths of its columns
pub row_counts_lem : (u : ℕ) (m : Mesh) (held heads : List ℕ) (count : ℕ) → row_counts (held_plan u m held heads count) ≡ map length (columns m (take m.nodes held))
unfolding row_counts held_plan columns
row_counts_lem u m held heads count =
    let nodes : List ℕ = take m.nodes held in
    map_ext_up_from (λ j. get_or (starts_of (columns m nodes)) (j + 1) 0 - get_or (starts_of (columns m nodes)) j 0) (λ j. length (column m nodes j)) m.nodes 0
    (λ j l h. column_counted m nodes j (omega arith))
    ∙ sym (map-map length (column m nodes) (below m.nodes))

-- ---- what is handed out

-- the slots of the order's columns are the plan's
pub held-slots : (u : ℕ) (m : Mesh) → Checked m → {left : ℕ} (held heads : List ℕ) (count : ℕ) → Dissected m held heads left count → length (flatten (columns m (take m.nodes held))) ≡ (plan_of u m).slots
unfolding held_plan
held-slots u m good held heads count d = ap (λ (c : Contents). c.slots) (held-planned u m good held heads count d)

-- and so are those that are counted
pub counted_slots : (u : ℕ) (m : Mesh) → Checked m → {left : ℕ} (held heads : List ℕ) (count : ℕ) → Dissected m held heads left count → (counts : List ℕ)
    → take m.nodes counts ≡ map length (columns m (take m.nodes held)) → total (take m.nodes counts) ≡ (plan_of u m).slots
counted_slots u m good held heads count d counts same = ap total same ∙ total-lengths (columns m (take m.nodes held)) ∙ held-slots u m good held heads count d

-- the answer is the plan's
pub held-reply : (u : ℕ) (m : Mesh) (held heads : List ℕ) (count : ℕ) (counts : List ℕ) (slots products : ℕ) (p : Plan) → take m.nodes counts ≡ map length (columns m (take m.nodes held))
    → slots ≡ total (take m.nodes counts) → products ≡ multiplications (take m.nodes counts)
    → p ≡ record { nodes = m.nodes; parts = count; slots = slots; unknowns = u; multiplications = products } → plan_reply (Ok p) ≡ (hand_out 0 (held_plan u m held heads count)).reply
unfolding hand_out
held-reply u m held heads count counts slots products p same s k e =
    rw (e, s, k, same, total-lengths (columns m (take m.nodes held)), row_counts_lem u m held heads count) (unfold held_plan in refl)

-- where the slots find no room, check 9 refuses
pub checked_refused : (u : ℕ) (m : Mesh) (found : Buffers) → length found.rows < (plan_of u m).slots → FilledChecked u m (Err RowsTooShort) found found
unfolding planning_checked rows_too_short capacity
checked_refused u m found short =
    rw (fault_here 9 (ltb (length found.rows) (plan_of u m).slots) [] (lt-ltb (length found.rows) (plan_of u m).slots short)) (filled-refused RowsTooShort (plan_of u m) found)

-- and else the plan of the arrays is handed out
pub checked-accepted : (u : ℕ) (m : Mesh) → Checked m → {end : ℕ} (held heads : List ℕ) (count : ℕ) → Dissected m held heads end count
    → (answer : Result Plan Refusal) (found left : Buffers) → (plan_of u m).slots ≤ length found.rows → Filled (hand_out 0 (held_plan u m held heads count)) answer found left → FilledChecked u m answer found left
unfolding planning_checked rows_too_short capacity first_fault
checked-accepted u m good held heads count d answer found left room h =
    rw (le-ltb (length found.rows) (plan_of u m).slots room, ← held-planned u m good held heads count d) h

-- ---- planning

-- an outcome of planning fulfils its promise
promised : (u : ℕ) (m : Mesh) (answer : Result Plan Refusal) (found left : Buffers) → Filled (planning u m (capacity found)) answer found left → Planned u m answer found left
promised u m answer found left h = record {
  filled = h;
  demand3 = handed-demand3 u m (capacity found) answer found left h;
  cliques = handed-cliques u m (capacity found) answer found left h;
}

-- what checks 28 and 1 to 8 refuse is refused
pub planned-refused : (u : ℕ) (m : Mesh) (found : Buffers) (r : Refusal) → number_of r ≡ first_fault (early_checks u m (lengths_of found)) → Planned u m (Err r) found found
unfolding planning plan_checks buffers_too_short capacity
planned-refused u m found r e =
    let nine : Checks = (9, rows_too_short (plan_of u m) (capacity found)) ∷ [] in
    let first : first_fault (plan_checks u m (capacity found)) ≡ number_of r =
    unfold mesh_checks in first_some (early_checks u m (lengths_of found)) nine (λ z. omega (arith, e, z, number-suc r)) ∙ sym e in
    promised u m (Err r) found found (rw first (filled-refused r (plan_of u m) found))

-- and where they find no fault, check 9 is left
pub planned-checked : (u : ℕ) (m : Mesh) (answer : Result Plan Refusal) (found left : Buffers) → first_fault (early_checks u m (lengths_of found)) ≡ 0 → FilledChecked u m answer found left → Planned u m answer found left
unfolding planning plan_checks planning_checked buffers_too_short capacity
planned-checked u m answer found left e h =
    let nine : Checks = (9, rows_too_short (plan_of u m) (capacity found)) ∷ [] in
    let first : first_fault (plan_checks u m (capacity found)) ≡ first_fault nine = unfold mesh_checks in first-none (early_checks u m (lengths_of found)) nine refl e in
    promised u m answer found left (rw first h)
