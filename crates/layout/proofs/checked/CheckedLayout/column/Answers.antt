-- `layout::checked::CheckedLayout::column` meets its contract: a column of a layout without a fault lies within the rows.
use Rattle.layout.proofs.Answered.{known-within}
use Rattle.layout.proofs.checked.CheckedLayout.column.Goals as goal

pub list-requires : goal.list-requires
list-requires c = known-within c.args.self.now c.args.j c.requires
