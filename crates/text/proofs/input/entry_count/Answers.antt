-- `text::input::entry_count` meets its contract.
use native.Mathlib.Omega.{arith}
use Rattle.plan.specs.Listing.{entry_count}
use Rattle.text.proofs.Inputs.{starts-behind}
use Rattle.text.proofs.input.entry_count.Goals as goal

pub neighbours_at-requires : goal.neighbours_at-requires
neighbours_at-requires c = omega (arith, starts-behind c.args.input.now)

pub returns : goal.returns
unfolding entry_count
returns c = rw c.neighbours_at.ensures
