-- `join::pairing::repeats` meets its contract: each node met is marked, and one that is met again stands twice.
use mathlib.Core.Path.{refl, sym, ap, ◌∙◌}
use mathlib.Core.List.{List}
use Prim.Native.Nat.{ℕ, ◌<◌}
use native.Mathlib.Omega.{arith}
use lib.ListN.{get_or}
use Rattle.plan.specs.Mesh.{max_nodes}
use Rattle.theory.proofs.Lists.{is_in-get_or}
use Rattle.mesh.proofs.Lists.{filled_at}
use Rattle.join.proofs.Seen.{seen_again, seen_more}
use Rattle.join.proofs.pairing.repeats.Goals.{In-loop-v}
use Rattle.join.proofs.pairing.repeats.Goals as goal

pub loop-v-init : goal.loop-v-init
loop-v-init c = record { long = c.filled-seen.ensures.1; once = refl; marked = λ v l. ap (λ (marks : List ℕ). get_or marks v 0) c.filled-seen.ensures.0 ∙ filled_at 0 v l }

-- the node is one
node : (c : In-loop-v) → get_or c.args.nodes.now c.loop-v.v-index 0 < max_nodes
node c = c.requires (get_or c.args.nodes.now c.loop-v.v-index 0) (is_in-get_or c.args.nodes.now c.loop-v.v-index 0 (omega arith))

pub returns-then-seen-v-ne0 : goal.returns-then-seen-v-ne0
returns-then-seen-v-ne0 c = sym (seen_again c.args.nodes.now c.loop-v.seen c.loop-v.v-index _ (omega arith) c.loop-v.invariant refl (node (goal.at.returns-then-seen-v-ne0 c).In-loop-v) c.if-seen-v-ne0.true)

pub loop-v-preserved : goal.loop-v-preserved
loop-v-preserved c = seen_more c.args.nodes.now c.loop-v.seen c.loop-v.v-index _ (omega arith) c.loop-v.invariant refl (node (goal.at.loop-v-preserved c).In-loop-v) (omega arith)

pub bounds-seen-v : goal.bounds-seen-v
bounds-seen-v c = node (goal.at.bounds-seen-v c).In-loop-v

pub bounds-seen-v-in-loop-v : goal.bounds-seen-v-in-loop-v
bounds-seen-v-in-loop-v c = node (goal.at.bounds-seen-v-in-loop-v c).In-loop-v
