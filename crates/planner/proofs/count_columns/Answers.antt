-- `planner::count_columns` meets its contract: the positions are those of the order, so the counts are those of its columns.
use native.Mathlib.Omega.{arith}
use Rattle.theory.proofs.Orders.{order-length}
use Rattle.mesh.specs.Lent.{as_lent}
use Rattle.layout.proofs.Counted.{tree-written, counts-written}
use Rattle.planner.proofs.Planning.{order-own, inverted}
use Rattle.planner.proofs.count_columns.Goals as goal

pub invert-requires : goal.invert-requires
invert-requires c = (order-own c.args.mesh.now.nodes c.args.nodes.now c.requires.ordered, omega (arith, order-length c.args.mesh.now.nodes c.args.nodes.now c.requires.ordered, c.args.mesh.now.checked.few), omega (arith, order-length c.args.mesh.now.nodes c.args.nodes.now c.requires.ordered, c.args.mesh.now.checked.few, c.filled-inverse.ensures.1))

pub count_rows-requires : goal.count_rows-requires
count_rows-requires c = (inverted (as_lent c.args.mesh.now) c.args.nodes.now c.filled-inverse.result _ c.args.mesh.now.checked c.requires.ordered c.invert.ensures, c.requires.n_in_bounds.0, c.requires.n_in_bounds.1)

pub returns : goal.returns
returns c = (counts-written (as_lent c.args.mesh.now) c.args.nodes.now c.args.counts.now _ c.count_rows.ensures.counts_after, tree-written (as_lent c.args.mesh.now) c.args.nodes.now c.args.tree.now _ c.count_rows.ensures.tree_after)
