-- `rowchecks::ranges::filled_with_root` meets its contract: the array is one number over and over.
use mathlib.Core.Path.{refl}
use native.Mathlib.Omega.{arith}
use lib.ListN.{get_or-replicate}
use Rattle.rowchecks.proofs.ranges.filled_with_root.Goals as goal

pub returns : goal.returns
returns c = (refl, λ b h. get_or-replicate 4097 b c.args.x 0 (omega arith))
