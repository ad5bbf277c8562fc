-- `factor::passes::followed` meets its contract: a column without rows is followed by none.
use mathlib.Core.Path.{◌≡◌, refl, sym}
use mathlib.Core.Bool.{Bool, true, false, ◌&&◌}
use Prim.Native.Nat.{◌+◌, ◌-◌, ◌<◌}
use native.Mathlib.Omega.{arith}
use borrow.Author.Tests.{ne_eqb}
use lib.Dec.{eqb}
use lib.ListN.{get_or}
use Rattle.theory.proofs.FactorPlaces.{slot_inside, slot_after}
use Rattle.factor.specs.Down.{continued}
use Rattle.factor.proofs.passes.followed.Goals as goal

and_false : (a b : Bool) → b ≡ false → (a && b) ≡ false
and_false true b e = e
and_false false b e = refl

pub returns-then-filled-j : goal.returns-then-filled-j
unfolding continued
returns-then-filled-j c =
    let none : get_or c.args.filled.now.columns.starts.now (c.args.j + 1) 0 - get_or c.args.filled.now.columns.starts.now c.args.j 0 ≡ 0 = omega (arith, c.if-filled-j.true) in
    rw none (sym (and_false (eqb (get_or c.args.filled.now.columns.rows.now (get_or c.args.filled.now.columns.starts.now c.args.j 0) 0) (c.args.j + 1)) _ (ne_eqb 0 (get_or c.args.filled.now.columns.starts.now (c.args.j + 1 + 1) 0 - get_or c.args.filled.now.columns.starts.now (c.args.j + 1) 0 + 1) (λ e. omega (arith, e)))))

pub continues-requires : goal.continues-requires
continues-requires c =
    let slots = slot_inside c.args.filled.now.nodes c.args.filled.now.columns.starts.now c.args.filled.now.columns.rows.now c.args.filled.now.filled.plan c.args.j c.requires in
    let some : get_or c.args.filled.now.columns.starts.now c.args.j 0 < get_or c.args.filled.now.columns.starts.now (c.args.j + 1) 0 = omega (arith, slots, c.if-filled-j.false) in
    let row = slot_after c.args.filled.now.nodes c.args.filled.now.columns.starts.now c.args.filled.now.columns.rows.now c.args.filled.now.filled.plan c.args.j c.requires (get_or c.args.filled.now.columns.starts.now c.args.j 0) (omega arith) some in
    let next : c.args.j + 1 < c.args.filled.now.nodes = omega (arith, row) in
    let slotsNext = slot_inside c.args.filled.now.nodes c.args.filled.now.columns.starts.now c.args.filled.now.columns.rows.now c.args.filled.now.filled.plan (c.args.j + 1) next in
    record {
      known = omega (arith, c.args.filled.now.filled.plan.starts.many, c.requires);
      known_next = omega (arith, c.args.filled.now.filled.plan.starts.many, next);
      rising = slots.0;
      rising_next = slotsNext.0;
      some = omega (arith, some, slots);
      inside_next = slotsNext.2;
      few = c.args.filled.now.filled.few;
    }
