-- `factor::rows::less_known` meets its contract: each slot is where `places` tells.
use mathlib.Core.Path.{◌≡◌}
use Prim.Native.Nat.{◌+◌, ◌-◌, ◌<◌}
use native.Mathlib.Omega.{arith}
use lib.ListN.{length, get_or}
use Rattle.factor.specs.Down.{slot_in, above32}
use Rattle.factor.proofs.Running.{slot_within, lessening_begins, lessening_ends, lessening_steps}
use Rattle.factor.proofs.rows.less_known.Goals.{In-loop-t}
use Rattle.factor.proofs.rows.less_known.Goals as goal

pub loop-t-init : goal.loop-t-init
loop-t-init c = lessening_begins c.args.columns.now.starts.now c.args.columns.now.rows.now c.args.values.now c.args.lower.now c.args.k c.args.first c.args.from c.args.to c.args.v c.requires.beside.0

-- the slot of t's row
place : (c : In-loop-t) → (slot_in c.args.columns.now.starts.now c.args.columns.now.rows.now c.args.k (get_or c.args.columns.now.rows.now c.loop-t.t 0) ≡ get_or c.args.places.now (c.loop-t.t - c.args.first) 0 + c.args.shift)
    × (slot_in c.args.columns.now.starts.now c.args.columns.now.rows.now c.args.k (get_or c.args.columns.now.rows.now c.loop-t.t 0) < length c.loop-t.values)
    × (length c.loop-t.values < above32)
place c =
    let within = slot_within c.args.columns.now.starts.now c.args.columns.now.rows.now c.args.k c.args.first c.args.from c.args.to (length c.args.values.now) (length c.args.lower.now) c.requires.beside.0 c.loop-t.t c.loop-t.invariant.low c.loop-t-test.true in (
      omega (arith, c.requires.shift_bound.0, c.requires.shift_bound.1 c.loop-t.t c.loop-t.invariant.low c.loop-t-test.true, within.0),
      omega (arith, within.1, c.requires.beside.0.inside, c.requires.beside.0.filled, c.loop-t.invariant.long),
      omega (arith, c.requires.beside.0.filled, c.requires.beside.0.few, c.loop-t.invariant.long),
    )

-- l is kept, and so is the place
kept : (c : In-loop-t) → (c.loop-t.t - c.args.first < length c.args.lower.now) × (c.loop-t.t - c.args.first < length c.args.places.now)
kept c = (
  omega (arith, c.requires.beside.0.room_kept, c.requires.beside.0.begin, c.loop-t.invariant.low, c.loop-t-test.true),
  omega (arith, c.requires.beside.1, c.requires.beside.0.begin, c.loop-t.invariant.low, c.loop-t-test.true),
)

pub loop-t-preserved : goal.loop-t-preserved
loop-t-preserved c = lessening_steps c.args.columns.now.starts.now c.args.columns.now.rows.now c.args.values.now c.args.lower.now c.args.k c.args.first c.args.from c.args.to c.args.v c.requires.beside.0 c.loop-t.values c.loop-t.t c.loop-t.invariant c.loop-t-test.true (get_or c.args.places.now (c.loop-t.t - c.args.first) 0 + c.args.shift) (place (goal.at.loop-t-preserved c).In-loop-t).0

pub returns : goal.returns
returns c = lessening_ends c.args.columns.now.starts.now c.args.columns.now.rows.now c.args.values.now c.args.lower.now c.args.k c.args.first c.args.from c.args.to c.args.v c.requires.beside.0 c.loop-t.values c.loop-t.t c.loop-t.invariant c.loop-t-test.false

pub bounds-places-t : goal.bounds-places-t
bounds-places-t c = (kept (goal.at.bounds-places-t c).In-loop-t).1

pub overflow_add-u : goal.overflow_add-u
overflow_add-u c = omega (arith, place (goal.at.overflow_add-u c).In-loop-t)

pub offset_bounds-values-u : goal.offset_bounds-values-u
offset_bounds-values-u c = omega (arith, place (goal.at.offset_bounds-values-u c).In-loop-t)

pub bounds-values-u : goal.bounds-values-u
bounds-values-u c = omega (arith, place (goal.at.bounds-values-u c).In-loop-t)

pub bounds-lower-t : goal.bounds-lower-t
bounds-lower-t c = (kept (goal.at.bounds-lower-t c).In-loop-t).0

pub offset_bounds-values-u-in-loop-t : goal.offset_bounds-values-u-in-loop-t
offset_bounds-values-u-in-loop-t c = omega (arith, place (goal.at.offset_bounds-values-u-in-loop-t c).In-loop-t)

pub bounds-values-u-in-loop-t : goal.bounds-values-u-in-loop-t
bounds-values-u-in-loop-t c = omega (arith, place (goal.at.bounds-values-u-in-loop-t c).In-loop-t)
