-- `plan::Report::open` meets its contract: 1 / 0 is the infinity.
use mathlib.Core.Path.{refl}
use lib.Ieee.{div, of_bits}
use Rattle.plan.proofs.Report.open.Goals as goal

pub returns : goal.returns
unfolding div of_bits
returns c = refl
