-- `text::listed::part_of` meets its contract: the loop passes over the parts before the position's.
use native.Mathlib.Omega.{arith}
use Rattle.text.proofs.Parts.{part_here, part-behind, part_none}
use Rattle.text.proofs.listed.part_of.Goals as goal

pub returns-then-left-size : goal.returns-then-left-size
returns-then-left-size c = omega (arith, c.loop-q.invariant, part_here c.args.sizes.now c.loop-q.q c.loop-q.left (omega arith) (omega (arith, c.if-left-size.true)))

pub loop-q-preserved : goal.loop-q-preserved
loop-q-preserved c = omega (arith, c.loop-q.invariant, part-behind c.args.sizes.now c.loop-q.q c.loop-q.left (omega arith) (omega (arith, c.if-left-size.false)))

pub returns : goal.returns
returns c = omega (arith, c.loop-q.invariant, part_none c.args.sizes.now c.loop-q.q c.loop-q.left (omega arith))
