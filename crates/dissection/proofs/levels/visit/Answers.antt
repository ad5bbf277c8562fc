-- `dissection::levels::visit` meets its contract: the entries before place k have been touched.
use mathlib.Core.Path.{refl, sym, ap, ◌∙◌}
use Prim.Native.Nat.{◌<◌}
use native.Mathlib.Omega.{arith}
use lib.Dec.{eqb}
use lib.ListN.{get_or}
use lib.Seq.{take_all}
use Rattle.plan.specs.Lists.{is_in}
use Rattle.plan.specs.Mesh.{adjacent}
use Rattle.theory.proofs.Lists.{exists_more}
use Rattle.mesh.specs.Lent.{as_lent}
use Rattle.mesh.proofs.Lists.{listed_node}
use Rattle.dissection.proofs.Spreads.{spread_start, spread_as, spread_both}
use Rattle.dissection.proofs.levels.visit.Goals.{In-loop-w}
use Rattle.dissection.proofs.levels.visit.Goals as goal
use Rattle.dissection.proofs.levels.visit.Given as given

pub loop-w-init : goal.loop-w-init
loop-w-init g c = spread_start c.requires.2 (λ v. refl)

-- an entry is a node
entry : (g : given.Over) (c : In-loop-w g) → get_or c.list-w-items.result.now c.loop-w.w-index 0 < c.args.mesh.now.nodes
entry g c = listed_node (as_lent c.args.mesh.now) c.args.mesh.now.checked c.args.u c.list-w-items.result.now c.list-w-items.ensures c.loop-w.w-index c.loop-w-test.true

pub touch-end-requires : goal.touch-end-requires
touch-end-requires g c = (omega (arith, entry g (goal.at.touch-end-requires g c).In-loop-w, c.loop-w.invariant.left.numbers_long), omega (arith, c.loop-w.invariant.left.room))

pub loop-w-preserved : goal.loop-w-preserved
loop-w-preserved g c =
    spread_as (λ v. sym (exists_more (eqb v) c.list-w-items.result.now c.loop-w.w-index c.loop-w-test.true))
    (spread_both c.requires.1 c.loop-w.invariant (c.touch-end.ensures c.args.mesh.now.nodes (entry g (goal.at.loop-w-preserved g c).In-loop-w) c.requires.1 c.loop-w.invariant.left))

pub returns : goal.returns
unfolding adjacent
returns g c = spread_as (λ v. ap (is_in v) (take_all c.loop-w.w-index c.list-w-items.result.now (omega arith) ∙ c.list-w-items.ensures)) c.loop-w.invariant

pub shape_of-numbers : goal.shape_of-numbers
shape_of-numbers g c = c.loop-w.invariant.numbers_length

pub shape_of-queue : goal.shape_of-queue
shape_of-queue g c = c.loop-w.invariant.queue_length
