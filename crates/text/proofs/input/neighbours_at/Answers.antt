-- `text::input::neighbours_at` meets its contract.
use Rattle.plan.specs.Listing.{neighbours_at}
use Rattle.text.proofs.input.neighbours_at.Goals as goal

pub returns : goal.returns
unfolding neighbours_at
returns c = rw c.node_count.ensures.0
