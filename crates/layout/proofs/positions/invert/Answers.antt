-- `layout::positions::invert` meets its contract: each turn gives one more node its position.
use mathlib.Core.Path.{refl}
use Prim.Native.Nat.{◌<◌}
use native.Mathlib.Omega.{arith}
use borrow.Author.Rules.{rules}
use lib.ListN.{length, get_or}
use Rattle.theory.proofs.Orders.{order-inside}
use Rattle.layout.proofs.Inverse.{inverted_more, inverted_all}
use Rattle.layout.proofs.positions.invert.Goals.{In-loop-i}
use Rattle.layout.proofs.positions.invert.Goals as goal

-- the node that gets a position is one of the order's
inside : (c : In-loop-i) → get_or c.args.order.now c.loop-i.i 0 < length c.args.order.now
inside c =
    order-inside (length c.args.order.now) c.args.order.now c.requires.0 c.loop-i.i (omega arith)

pub bounds-positions-v : goal.bounds-positions-v
bounds-positions-v c = omega (arith, inside (goal.at.bounds-positions-v c).In-loop-i, c.loop-i.invariant.1.long)

pub loop-i-preserved : goal.loop-i-preserved
loop-i-preserved c = (
  search rules,
  inverted_more (length c.args.order.now) c.args.order.now c.requires.0 c.args.positions.now c.loop-i.positions c.requires.2 c.loop-i.i _ _ (omega arith) refl (omega arith) c.loop-i.invariant.1,
)

pub returns : goal.returns
returns c = inverted_all (length c.args.order.now) c.args.order.now c.requires.0 c.args.positions.now c.loop-i.positions c.requires.2 c.loop-i.i (omega arith) c.loop-i.invariant.1
