-- `rowchecks::ranges::PartRanges::holds` meets its contract: the two tests are those of `in_range`.
use borrow.Author.Tests.{lt-ltb, le-ltb}
use Rattle.rowchecks.proofs.ranges.PartRanges.holds.Goals as goal

pub returns-then-x-self : goal.returns-then-x-self
returns-then-x-self c = rw (lt-ltb _ _ c.if-x-self.true)

pub returns : goal.returns
returns c = rw (le-ltb _ _ c.if-x-self.false)
