-- `mesh::Listed::lists_itself` meets its contract: the closure tells the rule.
use Rattle.std.proofs.Common.{rules}
use Rattle.plan.specs.Lists.{is_in}
use Rattle.plan.specs.Mesh.{adjacent, lists_itself}
use Rattle.mesh.proofs.listed.Listed.lists_itself.Goals as goal

pub returns : goal.returns
unfolding adjacent lists_itself
returns c = c.some_list.ensures (λ v l. is_in v l) (λ v l r told. search rules)
