-- `filechecks::order::bad_order` meets its contract: each entry met is marked, and one that lies outside or is met again is a fault.
use mathlib.Core.Path.{refl, sym, ap, ◌∙◌}
use mathlib.Core.Bool.{not}
use mathlib.Core.List.{List}
use Prim.Native.Nat.{ℕ, ◌<◌}
use native.Mathlib.Omega.{arith}
use lib.ListN.{length, get_or}
use Rattle.mesh.proofs.Lists.{filled_at}
use Rattle.filechecks.proofs.Once.{marked_none, marked_all, marked_more, entry_outside, entry_again}
use Rattle.filechecks.proofs.order.bad_order.Goals.{Else-v-order}
use Rattle.filechecks.proofs.order.bad_order.Goals as goal

pub loop-node-init : goal.loop-node-init
loop-node-init c = marked_none c.args.order.now c.filled-marks.result (omega arith) (λ v l. ap (λ (marks : List ℕ). get_or marks v 0) c.filled-marks.ensures.0 ∙ filled_at 0 v (omega arith))

pub returns-then-v-order : goal.returns-then-v-order
returns-then-v-order c = sym (entry_outside c.args.order.now c.loop-node.node-index (omega arith) (omega arith))

-- the node is one
inside : (c : Else-v-order) → (get_or c.args.order.now c.loop-node.node-index 0) < length c.args.order.now
inside c = omega arith

pub returns-then-marks-v-eq1 : goal.returns-then-marks-v-eq1
returns-then-marks-v-eq1 c = sym (entry_again c.args.order.now c.loop-node.marks c.loop-node.node-index (get_or c.args.order.now c.loop-node.node-index 0) (omega arith) c.loop-node.invariant refl (inside (goal.at.returns-then-marks-v-eq1 c).Else-v-order) (omega (arith, c.if-marks-v-eq1.true)))

pub loop-node-preserved : goal.loop-node-preserved
loop-node-preserved c = marked_more c.args.order.now c.loop-node.marks c.loop-node.node-index (get_or c.args.order.now c.loop-node.node-index 0) (omega arith) c.loop-node.invariant refl (inside (goal.at.loop-node-preserved c).Else-v-order) (λ again. c.if-marks-v-eq1.false (omega (arith, again)))

pub returns : goal.returns
returns c = sym (ap not (marked_all c.args.order.now c.loop-node.marks c.loop-node.node-index (omega arith) c.loop-node.invariant))
