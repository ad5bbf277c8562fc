-- `ndplan::entries::ndp_family` meets its contract: the number of the family that `plan::family` tells.
use mathlib.Core.Path.{ap, ◌∙◌}
use Rattle.ndplan.specs.Replies.{family_number}
use Rattle.ndplan.proofs.entries.ndp_family.Goals as goal

pub returns : goal.returns
returns c = c.family_number.ensures ∙ ap family_number c.family.ensures
