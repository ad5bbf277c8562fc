-- `layout::checked::CheckedLayout::pair` meets its contract: a slot's column is one of n, and its row is lent.
use Prim.Native.Nat.{◌<◌}
use native.Mathlib.Omega.{arith}
use borrow.Author.Rules.{rules}
use lib.ListN.{length}
use Rattle.theory.proofs.Checked.{node_count, good-starts}
use Rattle.theory.proofs.Asked.{GoodLayout}
use Rattle.layout.proofs.Answered.{known-good}
use Rattle.theory.proofs.SlotsAndPairs.{column-found}
use Rattle.layout.proofs.checked.CheckedLayout.pair.Goals.{Start}
use Rattle.layout.proofs.checked.CheckedLayout.pair.Goals as goal

good : (c : Start) → GoodLayout c.args.self.now.n c.args.self.now.column_starts.now c.args.self.now.rows.now
good c = known-good c.args.self.now

pub overflow_cast-column : goal.overflow_cast-column
overflow_cast-column c =
    let g = good (goal.at.overflow_cast-column c).Start in
    omega (
      arith,
      c.column_of-column.ensures,
      (column-found c.args.self.now.n c.args.self.now.column_starts.now c.args.s (good-starts c.args.self.now.n c.args.self.now.column_starts.now g.starts) c.requires).0,
      node_count c.args.self.now.n g.count,
    )

-- its row is lent
lent : (c : Start) → c.args.s < length c.args.self.now.rows.now
lent c = omega (arith, c.requires, (good c).last)

pub offset_bounds-self-s : goal.offset_bounds-self-s
offset_bounds-self-s c = let lt = lent (goal.at.offset_bounds-self-s c).Start in search rules

pub bounds-self-s : goal.bounds-self-s
bounds-self-s c = lent (goal.at.bounds-self-s c).Start
