-- `factor::passes::scale` meets its contract: the entries from j on are left to divide.
use native.Mathlib.Omega.{arith}
use lib.ListN.{length}
use Rattle.plan.specs.Solving.{by_pivot, scaled}
use Rattle.theory.proofs.Solving.{by_pivot_keeps}
use Rattle.factor.proofs.PassSteps.{turning_steps, turned}
use Rattle.factor.proofs.passes.scale.Goals as goal

pub loop-j-preserved : goal.loop-j-preserved
unfolding by_pivot
loop-j-preserved c =
    turning_steps (by_pivot c.args.pivots.now) 0 (length c.args.vector.now) c.args.vector.now (by_pivot_keeps c.args.pivots.now) c.loop-j.j c.loop-j.vector c.loop-j.invariant
    (omega (arith, c.loop-j-test.true, c.loop-j.invariant.long))

pub returns : goal.returns
unfolding scaled
returns c = turned (by_pivot c.args.pivots.now) (length c.args.vector.now) c.args.vector.now c.loop-j.j c.loop-j.vector c.loop-j.invariant (omega (arith, c.loop-j-test.false, c.loop-j.invariant.long))
