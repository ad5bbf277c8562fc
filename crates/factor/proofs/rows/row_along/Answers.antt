-- `factor::rows::row_along` meets its contract: the pair of the row with itself, then those with the rows behind it.
use Prim.Native.Nat.{◌+◌, ◌<◌}
use native.Mathlib.Omega.{arith}
use borrow.Author.Rules.{rules}
use lib.ListN.{length, get_or}
use Rattle.factor.specs.Down.{above32}
use Rattle.factor.proofs.ColumnSteps.{row_beside, row_inside, row_advances}
use Rattle.factor.proofs.rows.row_along.Goals.{Start}
use Rattle.factor.proofs.rows.row_along.Goals as goal

-- the row in slot s is a position
inside : (c : Start) → (c.args.s < length c.args.columns.now.rows.now) × (length c.args.columns.now.rows.now < above32) × (get_or c.args.columns.now.rows.now c.args.s 0 < length c.args.diagonal.now) × (get_or c.args.columns.now.rows.now c.args.s 0 + 1 < length c.args.columns.now.starts.now)
inside c =
    let i = row_inside c.args.columns.now.starts.now c.args.columns.now.rows.now (length c.args.diagonal.now) (length c.args.values.now) (length c.args.kept.now) (length c.args.lower.now) c.args.first c.args.s c.args.to c.requires.at_row in
    (i.0, i.1, i.2, i.3)

pub less_along-requires : goal.less_along-requires
less_along-requires c =
    record {
      beside = row_beside c.args.columns.now.starts.now c.args.columns.now.rows.now (length c.args.diagonal.now) (length c.args.values.now) (length c.args.kept.now) (length c.args.lower.now) c.args.first c.args.s c.args.to c.requires.at_row;
      to_value = c.requires.to_value;
    }

pub returns : goal.returns
returns c =
    (row_advances c.args.columns.now.starts.now c.args.columns.now.rows.now c.args.kept.now c.args.lower.now c.args.diagonal.now c.args.values.now c.less_along.new.values c.args.first c.args.s c.args.to c.requires.at_row c.less_along.auto.values
    c.less_along.ensures)

pub offset_bounds-columns-s : goal.offset_bounds-columns-s
offset_bounds-columns-s c = omega (arith, inside (goal.at.offset_bounds-columns-s c).Start)

pub bounds-columns-s : goal.bounds-columns-s
bounds-columns-s c = omega (arith, inside (goal.at.bounds-columns-s c).Start)

pub offset_bounds-diagonal-k : goal.offset_bounds-diagonal-k
offset_bounds-diagonal-k c = search (rules, (inside (goal.at.offset_bounds-diagonal-k c).Start).2)

pub bounds-diagonal-k : goal.bounds-diagonal-k
bounds-diagonal-k c = omega (arith, (inside (goal.at.bounds-diagonal-k c).Start).2)

pub offset_bounds-diagonal-k-2 : goal.offset_bounds-diagonal-k-2
offset_bounds-diagonal-k-2 c = search (rules, (inside (goal.at.offset_bounds-diagonal-k-2 c).Start).2)

pub bounds-diagonal-k-2 : goal.bounds-diagonal-k-2
bounds-diagonal-k-2 c = omega (arith, (inside (goal.at.bounds-diagonal-k-2 c).Start).2)
