-- `coding::read16` meets its contract.
use native.Mathlib.Omega.{arith}
use Rattle.plan.specs.File.{decode16}
use Rattle.coding.proofs.read16.Goals as goal

pub returns : goal.returns
unfolding decode16
returns c = omega (arith, c.from_le_bytes.ensures)
