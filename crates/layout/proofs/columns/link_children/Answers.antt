-- `layout::columns::link_children` meets its contract: the loop links one column more each turn.
use mathlib.Core.Path.{refl}
use native.Mathlib.Omega.{arith}
use Rattle.layout.proofs.Children.{children_start}
use Rattle.layout.proofs.columns.link_children.Goals as goal

pub loop-c-init : goal.loop-c-init
loop-c-init c = (omega arith, refl, refl, children_start c.args.n c.args.tree.now c.args.first.now c.args.next.now c.requires.by_index c.requires.n_le_max_nodes.3 c.requires.n_le_max_nodes.4)
