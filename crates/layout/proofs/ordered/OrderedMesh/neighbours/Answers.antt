-- `layout::ordered::OrderedMesh::neighbours` meets its contract: the order has a node at each position.
use native.Mathlib.Omega.{arith}
use Rattle.theory.proofs.Orders.{order-length, order-inside}
use Rattle.layout.proofs.ordered.OrderedMesh.neighbours.Goals as goal

pub bounds-self-i : goal.bounds-self-i
bounds-self-i c = omega (arith, order-length c.args.self.now.mesh.nodes c.args.self.now.order.now c.args.self.now.ordered.once)

pub list-requires : goal.list-requires
list-requires c = order-inside c.args.self.now.mesh.nodes c.args.self.now.order.now c.args.self.now.ordered.once c.args.i c.requires
