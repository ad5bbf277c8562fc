-- `coding::read32` meets its contract.
use Rattle.plan.specs.File.{decode32}
use Rattle.coding.proofs.read32.Goals as goal

pub returns : goal.returns
unfolding decode32
returns c = rw (c.from-2.ensures, c.read16-2.ensures, c.from.ensures, c.read16.ensures)
