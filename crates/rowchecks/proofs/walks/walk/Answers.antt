-- `rowchecks::walks::walk` meets its contract: the ranges of the parts tell 18's rule.
use native.Mathlib.Omega.{arith}
use Rattle.rowchecks.proofs.walks.walk.Goals as goal

pub ranges-requires : goal.ranges-requires
ranges-requires g c = (c.requires.0, omega (arith, c.requires.0.few, c.filled-lows.ensures.1), omega (arith, c.requires.0.few, c.filled-ends.ensures.1))

pub returns : goal.returns
returns g c = c.walk_columns.ensures c.args.sizes.now c.args.parents.now c.ranges-2.ensures
