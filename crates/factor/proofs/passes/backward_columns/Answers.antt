-- `factor::passes::backward_columns` meets its contract: the columns below j are left.
use lib.ListN.{length}
use Rattle.plan.specs.Solving.{backward_column, backward}
use Rattle.factor.proofs.PassSteps.{descending_ends}
use Rattle.factor.proofs.passes.backward_columns.Goals as goal

pub returns : goal.returns
unfolding backward
returns c = descending_ends (backward_column c.args.filled.now.columns.starts.now c.args.filled.now.columns.rows.now c.args.filled.now.values.now) (length c.args.vector.now) c.args.vector.now c.loop-j.j c.loop-j.vector c.loop-j.invariant c.loop-j-test.false
