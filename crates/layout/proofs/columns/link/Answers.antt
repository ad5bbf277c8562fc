-- `layout::columns::link` meets its contract: a column without a parent leaves the lists as they are, and another one comes before the
-- children of its parent.
use Prim.Native.Nat.{◌≤◌, ◌<◌}
use native.Mathlib.Omega.{arith}
use lib.ListN.{length, get_or}
use Rattle.layout.proofs.Children.{children_none, children_link}
use Rattle.layout.proofs.columns.link.Goals.{Else-p}
use Rattle.layout.proofs.columns.link.Goals as goal

-- the parent is a column
inside : (c : Else-p) → (get_or c.args.tree.now c.args.c 0 < c.args.n) × (c.args.n ≤ length c.args.first.now)
inside c = (omega (arith, (c.requires.2 c.args.c c.requires.3 c.if-p.false).1), c.requires.4.first_room)

pub returns-then-p : goal.returns-then-p
returns-then-p c = children_none c.args.n c.args.tree.now c.args.first.now c.args.next.now c.args.c c.requires.4 c.if-p.true (omega arith)

pub returns : goal.returns
returns c =
    children_link c.args.n c.args.tree.now c.args.first.now c.args.next.now c.args.c c.requires.4 c.requires.3
    (omega (arith, (inside (goal.at.returns c).Else-p).0))
