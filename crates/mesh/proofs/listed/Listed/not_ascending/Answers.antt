-- `mesh::Listed::not_ascending` meets its contract: the closure tells the rule.
use Rattle.std.proofs.Common.{not, rules}
use Rattle.plan.specs.Lists.{ascending}
use Rattle.plan.specs.Mesh.{not_ascending}
use Rattle.mesh.proofs.listed.Listed.not_ascending.Goals as goal

pub returns : goal.returns
unfolding not_ascending
returns c = c.some_list.ensures (λ v l. not (ascending l)) (λ v l r told. search rules)
