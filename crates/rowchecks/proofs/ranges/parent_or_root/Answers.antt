-- `rowchecks::ranges::parent_or_root` meets its contract: the test is that of `rooted`.
use borrow.Author.Tests.{eq-eqb, ne_eqb}
use Rattle.rowchecks.proofs.ranges.parent_or_root.Goals as goal

pub returns-then-r-eq-NO_PARENT : goal.returns-then-r-eq-NO_PARENT
returns-then-r-eq-NO_PARENT c = rw (eq-eqb _ _ c.if-r-eq-NO_PARENT.true)

pub returns : goal.returns
returns c = rw (ne_eqb _ _ c.if-r-eq-NO_PARENT.false)
