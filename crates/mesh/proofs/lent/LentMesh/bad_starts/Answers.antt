-- `mesh::LentMesh::bad_starts` meets its contract: starts without a fault are n + 1.
use Rattle.std.proofs.Common.{◌≡◌, ◌∙◌, sym, arith}
use Rattle.theory.proofs.Checked.{good-starts}
use Rattle.mesh.proofs.lent.LentMesh.bad_starts.Goals as goal

pub bounds-self-self : goal.bounds-self-self
bounds-self-self c = omega (arith, (good-starts c.args.self.now.nodes c.args.self.now.starts.now (sym c.bad_starts.ensures ∙ c.if-bad_starts.false)).many)

pub offset_bounds-self-self : goal.offset_bounds-self-self
offset_bounds-self-self c = omega (arith, (good-starts c.args.self.now.nodes c.args.self.now.starts.now (sym c.bad_starts.ensures ∙ c.if-bad_starts.false)).many)
