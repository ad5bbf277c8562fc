-- `dissection::numbers::fill` meets its contract: the loop renumbers one node after the other.
use mathlib.Core.Path.{refl}
use native.Mathlib.Omega.{arith}
use Rattle.dissection.proofs.Renumbering.{renumbering_none, renumbering_inside, renumbering_more, renumbering_all}
use Rattle.dissection.proofs.numbers.fill.Goals as goal

pub loop-v-init : goal.loop-v-init
loop-v-init c = renumbering_none _ _ _

pub bounds-numbers-v : goal.bounds-numbers-v
bounds-numbers-v c = renumbering_inside c.loop-v.invariant refl (omega arith) c.requires

pub loop-v-preserved : goal.loop-v-preserved
loop-v-preserved c = renumbering_more c.loop-v.invariant refl (omega arith) c.requires c.args.x refl

pub returns : goal.returns
returns c = renumbering_all c.loop-v.invariant (omega arith)
