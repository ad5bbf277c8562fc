-- `factor::columns::operations` meets its contract: as many as the plan counts for the column.
use mathlib.Core.Path.{sym, ◌∙◌}
use Rattle.theory.proofs.Factoring.{column-planned}
use Rattle.factor.proofs.columns.operations.Goals as goal

pub returns : goal.returns
returns c = c.work.ensures ∙ sym (column-planned c.args.columns.now.starts.now c.args.j)
