-- `factor::passes::scale` meets its contract: the entries from j on are left to divide.
use lib.ListN.{length}
use Rattle.plan.specs.Solving.{by_pivot}
use Rattle.factor.proofs.PassSteps.{Turning}
use Rattle.factor.proofs.passes.scale.Given as goal

abbrev pub invariant-loop-j : goal.invariant-loop-j
invariant-loop-j l = Turning (by_pivot l.pivots) 0 (length l.initial.vector) l.initial.vector l.j l.vector
