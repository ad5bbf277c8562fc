-- `mesh::Listed::list_too_long` meets its contract: the closure tells the rule.
use Rattle.std.proofs.Common.{ltb, length, rules}
use Rattle.plan.specs.Mesh.{max_neighbours, list_too_long}
use Rattle.mesh.proofs.listed.Listed.list_too_long.Goals as goal

pub returns : goal.returns
unfolding list_too_long
returns c = c.some_list.ensures (λ v l. ltb max_neighbours (length l)) (λ v l r told. search rules)
