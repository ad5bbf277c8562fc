-- `factor::column::factor_column` meets its contract: the divisions, then row after row.
use mathlib.Core.Path.{refl, sym, ◌∙◌}
use Prim.Native.Nat.{◌+◌, ◌-◌, ◌≤◌, ◌<◌}
use native.Mathlib.Omega.{arith}
use lib.ListN.{length, get_or}
use Rattle.theory.proofs.FactorPlaces.{slot_inside}
use Rattle.factor.specs.Working.{Ready}
use Rattle.factor.specs.Down.{above32}
use Rattle.factor.proofs.ColumnSteps.{row_inside, column_fits, column-worked, in_column-begins, in_column_on}
use Rattle.factor.proofs.column.factor_column.Goals.{In-loop-s}
use Rattle.factor.proofs.column.factor_column.Goals as goal

pub divide-requires : goal.divide-requires
divide-requires c =
    let n = length c.args.diagonal.now in
    let i = slot_inside n c.args.columns.now.starts.now c.args.columns.now.rows.now c.requires.plan c.args.j c.requires.column in
    let fits = column_fits n c.args.columns.now.starts.now c.args.columns.now.rows.now c.requires.plan c.args.j c.requires.column in
    (i.0, omega (arith, i.2, c.requires.slots), omega (arith, fits, c.requires.room_kept), omega (arith, fits, c.requires.room_lower))

pub loop-s-init : goal.loop-s-init
loop-s-init c =
    let lengths : Ready c.args.columns.now.starts.now c.args.columns.now.rows.now (length c.args.diagonal.now) (length c.args.values.now) (length c.divide.new.kept) (length c.divide.new.lower) (length c.args.places.now) c.args.j = record {
      plan = c.requires.plan;
      column = c.requires.column;
      slots = c.requires.slots;
      few = c.requires.few;
      room_kept = omega (arith, c.requires.room_kept, c.divide.auto.kept);
      room_lower = omega (arith, c.requires.room_lower, c.divide.auto.lower);
      room_places = c.requires.room_places;
    } in (
      in_column-begins c.args.columns.now.starts.now c.args.columns.now.rows.now c.divide.new.kept c.divide.new.lower c.args.diagonal.now c.divide.new.values c.args.places.now (length c.args.diagonal.now) (length c.args.values.now) c.args.j (get_or c.args.columns.now.starts.now c.args.j 0) (get_or c.args.columns.now.starts.now (c.args.j + 1) 0)
          lengths refl refl refl c.divide.auto.values,
      refl,
    )

-- the row in slot s
inside : (c : In-loop-s) → let k = get_or c.args.columns.now.rows.now c.loop-s.s 0 in
    (c.loop-s.s < length c.args.columns.now.rows.now) × (length c.args.columns.now.rows.now < above32) × (k < length c.loop-s.diagonal) × (k + 1 < length c.args.columns.now.starts.now) × (get_or c.args.columns.now.starts.now (c.args.j + 1) 0 ≤ length c.args.columns.now.rows.now) × (get_or c.args.columns.now.starts.now k 0 + (get_or c.args.columns.now.starts.now (c.args.j + 1) 0 - (c.loop-s.s + 1)) ≤ length c.args.columns.now.rows.now)
inside c = row_inside c.args.columns.now.starts.now c.args.columns.now.rows.now (length c.loop-s.diagonal) (length c.loop-s.values) _ _ _ c.loop-s.s _ (c.loop-s.invariant.0.ready c.loop-s-test.true)

pub along-requires : goal.along-requires
along-requires c =
    let i = inside (goal.at.along-requires c).In-loop-s in
    (omega (arith, i.3), omega (arith, c.loop-s-test.true), i.4, i.5)

pub row_along-requires : goal.row_along-requires
row_along-requires c =
    record {
      at_row = c.loop-s.invariant.0.ready c.loop-s-test.true;
      to_value = sym c.along.ensures ∙ c.if-along.true;
    }

pub loop-s-preserved-then-along : goal.loop-s-preserved-then-along
loop-s-preserved-then-along c = (in_column_on c.args.columns.now.starts.now c.args.columns.now.rows.now _ _ _ _ c.loop-s.diagonal c.loop-s.values c.row_along.new.diagonal c.row_along.new.values c.loop-s.places c.loop-s.places _ _ c.loop-s.s (c.loop-s.s + 1) c.loop-s.invariant.0 c.loop-s-test.true refl c.row_along.ensures, c.loop-s.invariant.1)

pub factor_rows-s-requires : goal.factor_rows-s-requires
factor_rows-s-requires c = (c.loop-s.invariant.0.ready c.loop-s-test.true, c.loop-s.invariant.0.room)

pub loop-s-preserved : goal.loop-s-preserved
loop-s-preserved c = (in_column_on c.args.columns.now.starts.now c.args.columns.now.rows.now _ _ _ _ c.loop-s.diagonal c.loop-s.values c.factor_rows-s.new.diagonal c.factor_rows-s.new.values c.loop-s.places c.factor_rows-s.new.places _ _ c.loop-s.s c.factor_rows-s.result c.loop-s.invariant.0 c.loop-s-test.true c.factor_rows-s.auto.places c.factor_rows-s.ensures.0, c.factor_rows-s.auto.places ∙ c.loop-s.invariant.1)

pub returns : goal.returns
returns c =
    column-worked c.args.columns.now.starts.now c.args.columns.now.rows.now c.divide.new.kept c.divide.new.lower c.args.diagonal.now c.args.values.now c.divide.new.values c.loop-s.diagonal c.loop-s.values c.args.j c.args.d (get_or c.args.columns.now.starts.now c.args.j 0) (get_or c.args.columns.now.starts.now (c.args.j + 1) 0) c.loop-s.s
    refl refl c.divide.ensures.values_after c.divide.ensures.keeps.0 c.divide.ensures.keeps.1 c.loop-s.invariant.0.advanced c.loop-s-test.false

pub bounds-columns-j : goal.bounds-columns-j
bounds-columns-j c = omega (arith, c.requires.plan.starts.many, c.requires.column)

pub bounds-columns-j-2 : goal.bounds-columns-j-2
bounds-columns-j-2 c = omega (arith, c.requires.plan.starts.many, c.requires.column)

pub offset_bounds-columns-s : goal.offset_bounds-columns-s
offset_bounds-columns-s c = omega (arith, inside (goal.at.offset_bounds-columns-s c).In-loop-s)

pub bounds-columns-s : goal.bounds-columns-s
bounds-columns-s c = omega (arith, inside (goal.at.bounds-columns-s c).In-loop-s)

pub overflow_add-s : goal.overflow_add-s
overflow_add-s c = omega (arith, inside (goal.at.overflow_add-s c).In-loop-s)

pub overflow_add-s-then-along : goal.overflow_add-s-then-along
overflow_add-s-then-along c = omega (arith, inside (goal.at.overflow_add-s-then-along c).In-loop-s)

pub loop-s-smaller-then-along : goal.loop-s-smaller-then-along
loop-s-smaller-then-along c = omega (arith, c.loop-s-test.true)

pub loop-s-smaller : goal.loop-s-smaller
loop-s-smaller c = omega (arith, c.loop-s-test.true, c.factor_rows-s.ensures.1, c.factor_rows-s.ensures.0.high)
