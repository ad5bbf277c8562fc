-- `plan::Report::after` meets its contract.
use Rattle.plan.specs.Factoring.{after_column}
use Rattle.plan.proofs.Report.after.Goals as goal

pub returns : goal.returns
unfolding after_column
returns c = rw (c.greater.ensures, c.lesser.ensures)
