-- `factor::column::divide` meets its contract: slot after slot, each value is kept, then divided, and what comes of it is kept too.
use Rattle.factor.proofs.ColumnSteps.{dividing_begins, dividing_ends, dividing_steps}
use Rattle.factor.proofs.column.divide.Goals as goal

pub loop-s-init : goal.loop-s-init
loop-s-init c = dividing_begins c.args.values.now c.args.kept.now c.args.lower.now c.args.from c.args.to c.args.d c.requires.0

pub loop-s-preserved : goal.loop-s-preserved
loop-s-preserved c = dividing_steps c.args.values.now c.args.kept.now c.args.lower.now c.args.from c.args.to c.args.d c.loop-s.values c.loop-s.kept c.loop-s.lower c.loop-s.s c.loop-s.invariant c.loop-s-test.true c.requires.1 c.requires.2 c.requires.3

pub returns : goal.returns
returns c = let k = dividing_ends c.args.values.now c.args.kept.now c.args.lower.now c.args.from c.args.to c.args.d c.loop-s.values c.loop-s.kept c.loop-s.lower c.loop-s.s c.loop-s.invariant c.loop-s-test.false in record { values_after = k.0; keeps = k.1 }
