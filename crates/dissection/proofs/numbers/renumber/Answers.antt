-- `dissection::numbers::renumber` meets its contract: the loop renumbers one node after the other.
use mathlib.Core.Path.{refl, ◌∙◌}
use native.Mathlib.Omega.{arith}
use lib.ListN.{get_or, length-set}
use Rattle.theory.proofs.Lists.{is_in-get_or}
use Rattle.dissection.proofs.Renumbering.{renumbering_none, renumbering_each, renumbering_all}
use Rattle.dissection.proofs.numbers.renumber.Goals as goal

pub loop-v-init : goal.loop-v-init
loop-v-init g c = (refl, λ f h. renumbering_none _ _ _)

pub bounds-numbers-v : goal.bounds-numbers-v
bounds-numbers-v g c = omega (arith, c.requires.within.inside (get_or c.args.nodes.now c.loop-v.v-index 0) (is_in-get_or c.args.nodes.now c.loop-v.v-index 0 (omega arith)), c.loop-v.invariant.0)

pub loop-v-preserved : goal.loop-v-preserved
loop-v-preserved g c = (
  length-set _ _ _ ∙ c.loop-v.invariant.0,
  λ f h. renumbering_each f (c.loop-v.invariant.1 f h) refl (omega arith) c.requires.within (h _ _ c.change.ensures),
)

pub returns : goal.returns
returns g c f h = renumbering_all (c.loop-v.invariant.1 f h) (omega arith)

pub bounds-numbers-v-in-loop-v : goal.bounds-numbers-v-in-loop-v
bounds-numbers-v-in-loop-v g c = omega (arith, c.requires.within.inside (get_or c.args.nodes.now c.loop-v.v-index 0) (is_in-get_or c.args.nodes.now c.loop-v.v-index 0 (omega arith)), c.loop-v.invariant.0)
