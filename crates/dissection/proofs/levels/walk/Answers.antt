-- `dissection::levels::walk` meets its contract: between two levels, the levels so far stand in the numbers and in the queue.
use mathlib.Core.Path.{◌≡◌, refl, sym, ◌∙◌}
use mathlib.Core.Bool.{true}
use Prim.Native.Nat.{ℕ, ◌≤◌, ◌<◌}
use native.Mathlib.Omega.{arith}
use lib.ListN.{set, length-set}
use Rattle.plan.specs.Mesh.{adjacent}
use Rattle.mesh.specs.Lent.{as_lent}
use Rattle.dissection.specs.Numbers.{fresh}
use Rattle.dissection.proofs.Walks.{Walking, walking_as, stand_few, restored, walk_start, walk_step, walk_node, walk_end}
use Rattle.dissection.proofs.levels.walk.Goals.{Start, At-loop-hi}
use Rattle.dissection.proofs.levels.walk.Goals as goal
use Rattle.dissection.proofs.levels.walk.Given as given

-- an edge leads to a node
inside : (g : given.Over) (c : Start g) (u : ℕ) (v : ℕ) → (adjacent (as_lent c.args.mesh.now)) u v ≡ true → v < c.args.mesh.now.nodes
inside g c u v h = (c.args.mesh.now.checked.inside u v h).1

-- the numbers before the walk
old : (g : given.Over) (c : Start g) → set (set c.args.numbers.now c.args.root 0) c.args.root fresh ≡ c.args.numbers.now
old g c = (restored c.args.numbers.now c.args.root c.requires.1)

-- the numbers before the walk
old_at_at_loop_hi : (g : given.Over) (c : At-loop-hi g) → set (set c.args.numbers.now c.args.root 0) c.args.root fresh ≡ c.args.numbers.now
old_at_at_loop_hi g c = (restored c.args.numbers.now c.args.root c.requires.1)

-- what holds between two levels
walking : (g : given.Over) (c : At-loop-hi g) → Walking c.args.mesh.now.nodes (adjacent (as_lent c.args.mesh.now)) c.args.root c.args.numbers.now c.loop-hi.last c.loop-hi.width c.loop-hi.lo c.loop-hi.hi c.loop-hi.numbers c.loop-hi.queue
walking g c = walking_as (adjacent (as_lent c.args.mesh.now)) c.args.root (old_at_at_loop_hi g c) c.loop-hi.invariant.2

-- there are fewer levels than nodes, and few nodes
few : (g : given.Over) (c : At-loop-hi g) → (c.loop-hi.hi ≤ c.args.mesh.now.nodes) × (c.loop-hi.last < c.loop-hi.hi) × (c.args.mesh.now.nodes ≤ 4096)
few g c =
    let f = stand_few (walking g c) in
    (f.0, f.1, c.args.mesh.now.checked.few)

pub loop-hi-init : goal.loop-hi-init
loop-hi-init g c =
    let begun = walk_start c.args.mesh.now.nodes (adjacent (as_lent c.args.mesh.now)) c.args.numbers.now c.args.root c.args.queue.now c.requires.0 c.requires.1 c.requires.2 c.requires.3 in (
      refl,
      refl,
      walking_as (adjacent (as_lent c.args.mesh.now)) c.args.root (sym (old g (goal.at.loop-hi-init g c).Start)) begun,
    )

pub advance-tail-requires : goal.advance-tail-requires
advance-tail-requires g c =
    let w = walking g (goal.at.advance-tail-requires g c).At-loop-hi in
    let f = few g (goal.at.advance-tail-requires g c).At-loop-hi in (
      omega (arith, f),
      omega (arith, w.some),
      w.left,
      walk_node c.args.mesh.now.nodes (adjacent (as_lent c.args.mesh.now)) (inside g (goal.at.advance-tail-requires g c).Start) (omega (arith, f)) c.args.numbers.now c.args.root c.requires.0 c.requires.1 c.loop-hi.last c.loop-hi.width c.loop-hi.lo c.loop-hi.hi c.loop-hi.numbers c.loop-hi.queue w,
    )

pub loop-hi-smaller : goal.loop-hi-smaller
loop-hi-smaller g c = omega (arith, few g (goal.at.loop-hi-smaller g c).At-loop-hi, (walking g (goal.at.loop-hi-smaller g c).At-loop-hi).some)

pub loop-hi-preserved : goal.loop-hi-preserved
loop-hi-preserved g c = (
  c.advance-tail.ensures.numbers_length ∙ c.loop-hi.invariant.0,
  c.advance-tail.ensures.queue_length ∙ c.loop-hi.invariant.1,
  rw c.max-width.ensures (walking_as (adjacent (as_lent c.args.mesh.now)) c.args.root (sym (old g (goal.at.loop-hi-preserved g c).Start))
      (walk_step c.args.mesh.now.nodes (adjacent (as_lent c.args.mesh.now)) (inside g (goal.at.loop-hi-preserved g c).Start) (omega (arith, few g (goal.at.loop-hi-preserved g c).At-loop-hi)) c.args.numbers.now c.args.root c.loop-hi.last c.loop-hi.width c.loop-hi.lo c.loop-hi.hi c.loop-hi.numbers c.loop-hi.queue _ _ c.advance-tail.result (walking g (goal.at.loop-hi-preserved g c).At-loop-hi) c.advance-tail.ensures c.if-tail-hi.false)),
)

pub shape_of-numbers : goal.shape_of-numbers
shape_of-numbers g c = c.advance-tail.ensures.numbers_length ∙ c.loop-hi.invariant.0 ∙ simp length-set

pub shape_of-queue : goal.shape_of-queue
shape_of-queue g c = c.advance-tail.ensures.queue_length ∙ c.loop-hi.invariant.1 ∙ simp length-set

pub returns : goal.returns
returns g c =
    walk_end c.args.mesh.now.nodes (adjacent (as_lent c.args.mesh.now)) (inside g (goal.at.returns g c).Start) (omega (arith, few g (goal.at.returns g c).At-loop-hi)) c.args.numbers.now c.args.root c.requires.0 c.requires.1 c.loop-hi.last c.loop-hi.width c.loop-hi.lo c.loop-hi.hi c.loop-hi.numbers c.loop-hi.queue _ _ c.advance-tail.result
    (walking g (goal.at.returns g c).At-loop-hi) c.advance-tail.ensures c.if-tail-hi.true

pub overflow_add-last : goal.overflow_add-last
overflow_add-last g c = omega (arith, few g (goal.at.overflow_add-last g c).At-loop-hi)

pub overflow_add-last-in-loop-hi : goal.overflow_add-last-in-loop-hi
overflow_add-last-in-loop-hi g c = omega (arith, few g (goal.at.overflow_add-last-in-loop-hi g c).At-loop-hi)
