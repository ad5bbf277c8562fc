-- `ndfactor::entries::ndf_held` meets its promise: the reply tells the answer about the pair.
use mathlib.Core.Path.{ap, ◌∙◌}
use Rattle.ndfactor.specs.Replies.{ndf_held}
use Rattle.ndfactor.proofs.entries.ndf_held.Goals as goal

pub returns : goal.returns
returns c = c.from.ensures ∙ ap ndf_held c.held_at.ensures
