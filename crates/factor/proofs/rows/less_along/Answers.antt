-- `factor::rows::less_along` meets its contract: the rows agree all the way down.
use mathlib.Core.Path.{◌≡◌, ap, ◌∙◌}
use Prim.Native.Nat.{ℕ, ◌+◌, ◌-◌, ◌≤◌, ◌<◌}
use native.Mathlib.Omega.{arith}
use lib.ListN.{length, get_or}
use Rattle.factor.proofs.Running.{lessening_begins, lessening_ends, lessening_steps, running_begins, running_agrees, running_steps, slot_found_lem, room-left, along_last}
use Rattle.factor.proofs.rows.less_along.Goals.{In-loop-t}
use Rattle.factor.proofs.rows.less_along.Goals as goal

pub loop-t-init : goal.loop-t-init
loop-t-init c =
    let start = get_or c.args.columns.now.starts.now c.args.k 0 in
    let none : start + (c.args.from - c.args.from) ≡ start = omega arith in (
      lessening_begins c.args.columns.now.starts.now c.args.columns.now.rows.now c.args.values.now c.args.lower.now c.args.k c.args.first c.args.from c.args.to c.args.v c.requires.beside,
      rw none (running_begins c.args.columns.now.starts.now c.args.columns.now.rows.now c.args.k c.args.first c.args.from c.args.to (length c.args.values.now) (length c.args.lower.now) c.requires.beside),
    )

-- column k goes on
inside : (c : In-loop-t) → (get_or c.args.columns.now.starts.now c.args.k 0 + (c.loop-t.t - c.args.from) < get_or c.args.columns.now.starts.now (c.args.k + 1) 0) × (get_or c.args.columns.now.starts.now (c.args.k + 1) 0 ≤ length c.loop-t.values)
inside c = (
  room-left c.args.columns.now.starts.now c.args.columns.now.rows.now c.args.k c.args.first c.args.from c.args.to (length c.args.values.now) (length c.args.lower.now) c.requires.beside c.loop-t.t _ c.loop-t.invariant.1 c.loop-t-test.true,
  omega (arith, c.requires.beside.inside, c.requires.beside.filled, c.loop-t.invariant.0.long),
)

pub loop-t-preserved : goal.loop-t-preserved
loop-t-preserved c =
    let n = length c.args.values.now in
    let m = length c.args.lower.now in
    let start = get_or c.args.columns.now.starts.now c.args.k 0 in
    let u : ℕ = start + (c.loop-t.t - c.args.from) in
    let last : u + (c.args.to - c.loop-t.t) - 1 ≡ start + (c.args.to - c.args.from) - 1 = omega (arith, c.loop-t-test.true, c.loop-t.invariant.0.low) in
    let alike : get_or c.args.columns.now.rows.now (u + (c.args.to - c.loop-t.t) - 1) 0 ≡ get_or c.args.columns.now.rows.now (c.args.to - 1) 0 =
    ap (λ (y : ℕ). get_or c.args.columns.now.rows.now y 0) last ∙ along_last c.args.columns.now.starts.now c.args.columns.now.rows.now c.args.k c.args.from c.args.to c.requires.to_value (omega (arith, c.loop-t-test.true, c.loop-t.invariant.0.low)) in
    let agrees = running_agrees c.args.columns.now.starts.now c.args.columns.now.rows.now c.args.k c.args.first c.args.from c.args.to n m c.requires.beside c.loop-t.t u c.loop-t.invariant.1 c.loop-t-test.true alike in
    let place = slot_found_lem c.args.columns.now.starts.now c.args.columns.now.rows.now c.args.k c.args.first c.args.from c.args.to n m c.requires.beside c.loop-t.t u c.loop-t.invariant.1 c.loop-t-test.true agrees in
    let next : start + (c.loop-t.t + 1 - c.args.from) ≡ u + 1 = omega (arith, c.loop-t.invariant.0.low) in (
      lessening_steps c.args.columns.now.starts.now c.args.columns.now.rows.now c.args.values.now c.args.lower.now c.args.k c.args.first c.args.from c.args.to c.args.v c.requires.beside c.loop-t.values c.loop-t.t c.loop-t.invariant.0 c.loop-t-test.true u place,
      rw next (running_steps c.args.columns.now.starts.now c.args.columns.now.rows.now c.args.k c.args.first c.args.from c.args.to n m c.requires.beside c.loop-t.t u c.loop-t.invariant.1 c.loop-t-test.true agrees),
    )

pub returns : goal.returns
returns c = lessening_ends c.args.columns.now.starts.now c.args.columns.now.rows.now c.args.values.now c.args.lower.now c.args.k c.args.first c.args.from c.args.to c.args.v c.requires.beside c.loop-t.values c.loop-t.t c.loop-t.invariant.0 c.loop-t-test.false

pub bounds-values-u : goal.bounds-values-u
bounds-values-u c = omega (arith, inside (goal.at.bounds-values-u c).In-loop-t)

pub bounds-values-u-in-loop-t : goal.bounds-values-u-in-loop-t
bounds-values-u-in-loop-t c = omega (arith, inside (goal.at.bounds-values-u-in-loop-t c).In-loop-t)
