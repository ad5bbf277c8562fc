-- `dissection::numbers::transfer` meets its contract: the loop renumbers one node after the other.
use mathlib.Core.Path.{refl}
use native.Mathlib.Omega.{arith}
use lib.ListN.{get_or}
use Rattle.theory.proofs.Lists.{is_in-get_or}
use Rattle.dissection.proofs.Renumbering.{renumbering_none, renumbering_inside, renumbering_more, renumbering_all}
use Rattle.dissection.proofs.numbers.transfer.Goals as goal

pub loop-v-init : goal.loop-v-init
loop-v-init c = renumbering_none _ _ _

pub bounds-from-v : goal.bounds-from-v
bounds-from-v c = (c.requires (get_or c.args.nodes.now c.loop-v.v-index 0) (is_in-get_or c.args.nodes.now c.loop-v.v-index 0 (omega arith))).0

pub bounds-numbers-v : goal.bounds-numbers-v
bounds-numbers-v c = renumbering_inside c.loop-v.invariant refl (omega arith) (λ w h. (c.requires w h).1)

pub loop-v-preserved : goal.loop-v-preserved
loop-v-preserved c = renumbering_more c.loop-v.invariant refl (omega arith) (λ w h. (c.requires w h).1) _ refl

pub returns : goal.returns
returns c = renumbering_all c.loop-v.invariant (omega arith)
