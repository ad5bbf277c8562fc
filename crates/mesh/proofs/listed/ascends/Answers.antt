-- `mesh::listed::ascends` meets its contract: each entry is less than the next.
use Rattle.std.proofs.Common.{sym, ltb, rules}
use Rattle.std.proofs.lemmas.Fn.{always_returns_same}
use Rattle.mesh.proofs.Adjacent.{ascending_sorted}
use Rattle.mesh.proofs.listed.ascends.Goals as goal

pub returns : goal.returns
returns c = sym (ascending_sorted c.args.entries.now _ (c.is_sorted_by.ensures.cases ltb (always_returns_same _ _ _ (λ a r q k. search rules))))
