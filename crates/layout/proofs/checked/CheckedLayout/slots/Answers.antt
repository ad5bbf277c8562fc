-- `layout::checked::CheckedLayout::slots` meets its contract: a layout without a fault has n + 1 starts.
use native.Mathlib.Omega.{arith}
use Rattle.theory.proofs.Checked.{node_count, good-starts}
use Rattle.layout.proofs.Answered.{known-good}
use Rattle.layout.proofs.checked.CheckedLayout.slots.Goals as goal

pub offset_bounds-self-self : goal.offset_bounds-self-self
offset_bounds-self-self c = omega (arith, node_count c.args.self.now.n (known-good c.args.self.now).count)

pub bounds-self-self : goal.bounds-self-self
bounds-self-self c = omega (arith, (good-starts c.args.self.now.n c.args.self.now.column_starts.now (known-good c.args.self.now).starts).many)
