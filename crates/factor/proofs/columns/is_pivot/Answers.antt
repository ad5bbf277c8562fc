-- `factor::columns::is_pivot` meets its contract.
use Rattle.factor.proofs.AllColumns.{positive-inside, positive-outside}
use Rattle.factor.proofs.columns.is_pivot.Goals as goal

pub returns-then-d : goal.returns-then-d
returns-then-d c = positive-inside _ c.if-d.true

pub returns-else-d : goal.returns-else-d
returns-else-d c = positive-outside _ c.if-d.false
