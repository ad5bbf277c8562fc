-- `mesh::falling` meets its contract: numbers that are not sorted fall.
use Rattle.std.proofs.Common.{sym}
use Rattle.std.proofs.lemmas.List.Sorted.{non_decreasing_from_is_sorted}
use Rattle.mesh.proofs.Adjacent.{falls_unsorted}
use Rattle.mesh.proofs.falling.Goals as goal

pub returns : goal.returns
returns c = sym (falls_unsorted c.args.numbers.now _ (non_decreasing_from_is_sorted c.args.numbers.now _ c.is_sorted.ensures.cases))
