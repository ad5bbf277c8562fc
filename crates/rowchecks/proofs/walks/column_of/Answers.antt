-- `rowchecks::walks::column_of` meets its contract: the two starts cut the column's rows out.
use Rattle.plan.specs.Lists.{list_at}
use Rattle.rowchecks.proofs.walks.column_of.Goals as goal

pub part-requires : goal.part-requires
part-requires g c = (c.requires.ordered, c.requires.ended)

pub returns : goal.returns
unfolding list_at
returns g c = c.part.ensures
