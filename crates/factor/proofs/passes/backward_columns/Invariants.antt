-- `factor::passes::backward_columns` meets its contract: the columns below j are left.
use lib.ListN.{length}
use Rattle.plan.specs.Solving.{backward_column}
use Rattle.factor.proofs.PassSteps.{Descending}
use Rattle.factor.proofs.passes.backward_columns.Given as goal

abbrev pub invariant-loop-j : goal.invariant-loop-j
invariant-loop-j l = Descending (backward_column l.filled.columns.starts.now l.filled.columns.rows.now l.filled.values.now) (length l.initial.vector) l.initial.vector l.j l.vector
