-- `factor::rows::less_down` meets its contract: column k is run down beside the rows, which it holds.
use mathlib.Core.Path.{◌≡◌, refl, ◌∙◌}
use Prim.Native.Nat.{◌+◌, ◌-◌, ◌≤◌, ◌<◌}
use native.Mathlib.Omega.{arith}
use lib.ListN.{length, get_or, length-set}
use Rattle.factor.specs.Down.{above32}
use Rattle.factor.proofs.Running.{lessening_begins, lessening_ends, lessening_steps, running_begins, running_skips, running_steps, slot_found_lem, room-left, placed_one}
use Rattle.factor.proofs.rows.less_down.Goals.{In-loop-t}
use Rattle.factor.proofs.rows.less_down.Goals as goal

pub loop-t-init : goal.loop-t-init
loop-t-init c = (
  lessening_begins c.args.columns.now.starts.now c.args.columns.now.rows.now c.args.values.now c.args.lower.now c.args.k c.args.first c.args.from c.args.to c.args.v c.requires.0,
  running_begins c.args.columns.now.starts.now c.args.columns.now.rows.now c.args.k c.args.first c.args.from c.args.to (length c.args.values.now) (length c.args.lower.now) c.requires.0,
  λ t a b. absurd (omega arith),
  refl,
)

-- column k goes on
inside : (c : In-loop-t) → (c.loop-t.u < get_or c.args.columns.now.starts.now (c.args.k + 1) 0) × (get_or c.args.columns.now.starts.now (c.args.k + 1) 0 ≤ length c.args.columns.now.rows.now) × (length c.args.columns.now.rows.now ≡ length c.loop-t.values) × (length c.args.columns.now.rows.now < above32)
inside c = (
  room-left c.args.columns.now.starts.now c.args.columns.now.rows.now c.args.k c.args.first c.args.from c.args.to (length c.args.values.now) (length c.args.lower.now) c.requires.0 c.loop-t.t c.loop-t.u c.loop-t.invariant.1 c.loop-t-test.true,
  c.requires.0.inside,
  omega (arith, c.requires.0.filled, c.loop-t.invariant.0.long),
  c.requires.0.few,
)

-- l is kept, and there is room for the slot
kept : (c : In-loop-t) → (c.loop-t.t - c.args.first < length c.args.lower.now) × (c.loop-t.t - c.args.first < length c.loop-t.places)
kept c = (
  omega (arith, c.requires.0.room_kept, c.requires.0.begin, c.loop-t.invariant.0.low, c.loop-t-test.true),
  omega (arith, c.requires.1, c.requires.0.begin, c.loop-t.invariant.0.low, c.loop-t-test.true, c.loop-t.invariant.3),
)

pub loop-t-preserved-then-columns-u : goal.loop-t-preserved-then-columns-u
loop-t-preserved-then-columns-u c = (
  c.loop-t.invariant.0,
  running_skips c.args.columns.now.starts.now c.args.columns.now.rows.now c.args.k c.args.first c.args.from c.args.to (length c.args.values.now) (length c.args.lower.now) c.requires.0 c.loop-t.t c.loop-t.u c.loop-t.invariant.1 c.loop-t-test.true c.if-columns-u.true,
  c.loop-t.invariant.2,
  c.loop-t.invariant.3,
)

pub loop-t-preserved : goal.loop-t-preserved
loop-t-preserved c =
    let n = length c.args.values.now in
    let m = length c.args.lower.now in
    let place = slot_found_lem c.args.columns.now.starts.now c.args.columns.now.rows.now c.args.k c.args.first c.args.from c.args.to n m c.requires.0 c.loop-t.t c.loop-t.u c.loop-t.invariant.1 c.loop-t-test.true c.if-columns-u.false in (
      lessening_steps c.args.columns.now.starts.now c.args.columns.now.rows.now c.args.values.now c.args.lower.now c.args.k c.args.first c.args.from c.args.to c.args.v c.requires.0 c.loop-t.values c.loop-t.t c.loop-t.invariant.0 c.loop-t-test.true c.loop-t.u place,
      running_steps c.args.columns.now.starts.now c.args.columns.now.rows.now c.args.k c.args.first c.args.from c.args.to n m c.requires.0 c.loop-t.t c.loop-t.u c.loop-t.invariant.1 c.loop-t-test.true c.if-columns-u.false,
      placed_one c.loop-t.places c.args.columns.now.starts.now c.args.columns.now.rows.now c.args.k c.args.first c.args.from c.loop-t.t c.loop-t.u c.requires.0.begin c.loop-t.invariant.0.low (kept (goal.at.loop-t-preserved c).In-loop-t).1 place c.loop-t.invariant.2,
      length-set c.loop-t.places (c.loop-t.t - c.args.first) c.loop-t.u ∙ c.loop-t.invariant.3,
    )

pub returns : goal.returns
returns c =
    record {
      values_after = lessening_ends c.args.columns.now.starts.now c.args.columns.now.rows.now c.args.values.now c.args.lower.now c.args.k c.args.first c.args.from c.args.to c.args.v c.requires.0 c.loop-t.values c.loop-t.t c.loop-t.invariant.0 c.loop-t-test.false;
      placed = λ t a b. c.loop-t.invariant.2 t a (omega (arith, c.loop-t-test.false));
    }

pub bounds-columns-u : goal.bounds-columns-u
bounds-columns-u c = omega (arith, inside (goal.at.bounds-columns-u c).In-loop-t)

pub loop-t-smaller-then-columns-u : goal.loop-t-smaller-then-columns-u
loop-t-smaller-then-columns-u c = omega (arith, inside (goal.at.loop-t-smaller-then-columns-u c).In-loop-t)

pub bounds-values-u : goal.bounds-values-u
bounds-values-u c = omega (arith, inside (goal.at.bounds-values-u c).In-loop-t)

pub bounds-lower-t : goal.bounds-lower-t
bounds-lower-t c = (kept (goal.at.bounds-lower-t c).In-loop-t).0

pub bounds-values-u-in-loop-t : goal.bounds-values-u-in-loop-t
bounds-values-u-in-loop-t c = omega (arith, inside (goal.at.bounds-values-u-in-loop-t c).In-loop-t)

pub overflow_cast-places : goal.overflow_cast-places
overflow_cast-places c = omega (arith, inside (goal.at.overflow_cast-places c).In-loop-t)

pub bounds-places-t : goal.bounds-places-t
bounds-places-t c = (kept (goal.at.bounds-places-t c).In-loop-t).1

pub loop-t-smaller : goal.loop-t-smaller
loop-t-smaller c = omega (arith, inside (goal.at.loop-t-smaller c).In-loop-t)
