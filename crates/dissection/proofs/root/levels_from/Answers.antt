-- `dissection::root::levels_from` meets its contract: the fresh nodes are the region, so the walk is over it.
use mathlib.Core.Path.{refl, ◌∙◌}
use native.Mathlib.Omega.{arith}
use lib.ListN.{get_or}
use borrow.Author.Rules.{rules}
use Rattle.plan.specs.Lists.{is_in}
use Rattle.theory.proofs.Bools.{cond_true}
use Rattle.mesh.specs.Lent.{as_lent}
use Rattle.dissection.specs.Numbers.{fresh}
use Rattle.dissection.proofs.Standing.{walk_measured, walk_standing}
use Rattle.dissection.proofs.root.levels_from.Goals as goal

pub fill-requires : goal.fill-requires
fill-requires g c v t = omega (arith, c.args.region.now.within.inside v t, c.requires.0.numbers_long)

pub walk-w-requires : goal.walk-w-requires
walk-w-requires g c = (
  c.args.region.now.within.inside c.args.r c.requires.1,
  c.fill.ensures c.args.r ∙ cond_true (is_in c.args.r c.args.region.now.nodes.now) fresh (get_or c.args.numbers.now c.args.r 0) c.requires.1,
  search rules,
  search rules,
)

pub returns : goal.returns
returns g c = (
  refl,
  walk_measured (as_lent c.args.region.now.mesh) c.args.region.now.nodes.now c.args.region.now.within c.requires.0 c.requires.1 c.walk-w.ensures c.fill.ensures,
  walk_standing (as_lent c.args.region.now.mesh) c.args.region.now.nodes.now c.args.region.now.within c.requires.0 c.requires.1 c.walk-w.ensures c.fill.ensures,
)
