-- `join::numbers::origins` meets its contract: each turn stores one more node at the place that it goes to.
use mathlib.Core.Path.{◌≡◌, refl, sym, ap, ◌∙◌}
use mathlib.Core.List.{List}
use Prim.Native.Nat.{ℕ, ◌<◌}
use native.Mathlib.Omega.{arith}
use lib.ListN.{length, take, get_or}
use lib.Seq.{length-take-le, get_or-take}
use Rattle.plan.specs.Mesh.{max_nodes}
use Rattle.mesh.proofs.Lists.{filled_at}
use Rattle.join.proofs.Scattered.{scattered_more, scattered_indices}
use Rattle.join.proofs.numbers.origins.Goals.{In-loop-w, After-filled-from}
use Rattle.join.proofs.numbers.origins.Goals as goal

-- where a node goes is a place of the array
inside : (c : In-loop-w) → get_or (take c.args.n2 c.args.goes.now) c.loop-w.w 0 < max_nodes
inside c =
    let low : c.loop-w.w < c.args.n2 = omega (arith, length-take-le c.args.n2 c.args.goes.now c.requires.1) in
    omega (arith, get_or-take c.args.n2 c.args.goes.now c.loop-w.w 0 low, c.requires.3 c.loop-w.w low)

-- the list of where nodes go is as long as there are nodes
many : (c : After-filled-from) → length (take c.args.n2 c.args.goes.now) ≡ c.args.n2
many c = length-take-le c.args.n2 c.args.goes.now c.requires.1

pub loop-w-preserved : goal.loop-w-preserved
loop-w-preserved c = (
  omega (arith, many (goal.at.loop-w-preserved c).After-filled-from),
  scattered_more c.loop-w.invariant.1 c.requires.2 _ _
      (omega arith) refl (omega (arith, inside (goal.at.loop-w-preserved c).In-loop-w)) refl,
)

pub returns : goal.returns
returns c = (
  c.loop-w.invariant.1.long ∙ c.filled-from.ensures.1,
  λ v lt. scattered_indices c.loop-w.invariant.1 (omega (arith, many (goal.at.returns c).After-filled-from)) v
      (ap (λ (l : List ℕ). get_or l v 0) c.filled-from.ensures.0 ∙ filled_at c.args.n2 v lt ∙ sym (many (goal.at.returns c).After-filled-from)),
)
