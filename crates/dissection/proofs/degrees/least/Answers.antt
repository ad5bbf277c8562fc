-- `dissection::degrees::least` meets its contract: after i nodes each group is led by the least of its nodes among them.
use native.Mathlib.Omega.{arith}
use lib.ListN.{get_or}
use borrow.Author.Rules.{rules}
use Rattle.theory.proofs.Lists.{is_in-get_or}
use Rattle.mesh.specs.Lent.{as_lent}
use Rattle.dissection.specs.Degrees.{degree_by}
use Rattle.dissection.proofs.LeastDegrees.{degree_few, leading_more, leading-all}
use Rattle.dissection.proofs.degrees.least.Goals as goal

pub compare-requires : goal.compare-requires
compare-requires c = (c.args.region.now.within.inside (get_or c.args.region.now.nodes.now c.loop-v.v-index 0) (is_in-get_or c.args.region.now.nodes.now c.loop-v.v-index 0 (omega arith)), c.requires.0, c.requires.1, search rules, search rules)

pub loop-v-preserved : goal.loop-v-preserved
loop-v-preserved c = (
  search rules,
  search rules,
  search rules,
  leading_more (degree_by (as_lent c.args.region.now.mesh) c.args.numbers.now) c.args.region.now.nodes.now c.args.groups.now c.args.count c.loop-v.v-index c.loop-v.best c.loop-v.degrees c.compare.new.best c.compare.new.degrees
      (omega arith) (degree_few (as_lent c.args.region.now.mesh) c.args.region.now.mesh.checked c.args.numbers.now (get_or c.args.region.now.nodes.now c.loop-v.v-index 0)) c.loop-v.invariant.3 c.compare.ensures,
)

pub returns : goal.returns
returns c = leading-all (degree_by (as_lent c.args.region.now.mesh) c.args.numbers.now) c.args.region.now.nodes.now c.args.groups.now c.args.count c.loop-v.v-index c.loop-v.best c.loop-v.degrees (omega arith) c.loop-v.invariant.3

pub loop-v-init : goal.loop-v-init
loop-v-init c = (search rules, search rules, search rules, c.clear.ensures)
