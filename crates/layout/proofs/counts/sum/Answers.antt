-- `layout::counts::sum` meets its contract: each turn adds one column, and the sums stay far below 32 and 64 bits.
use mathlib.Core.Path.{refl}
use Prim.Native.Nat.{ℕ, ◌+◌, ◌*◌, ◌≤◌, ◌<◌}
use native.Mathlib.Omega.{arith}
use borrow.Author.Rules.{rules}
use lib.ListN.{length, take, get_or}
use lib.Seq.{get_or-take, length-take-le}
use Rattle.plan.specs.Elimination.{multiplications}
use Rattle.theory.proofs.Sums.{total_more}
use Rattle.layout.proofs.TotalSlots.{work, product_few, multiplications_more}
use Rattle.layout.proofs.counts.sum.Goals.{In-loop-count}
use Rattle.layout.proofs.counts.sum.Goals as goal

pub loop-count-init : goal.loop-count-init
unfolding multiplications
loop-count-init c = record { low = search rules; slots = refl; products = refl; slots_few = search rules; products_few = search rules }

-- it is of 16 bits, so its products are small
few : (c : In-loop-count) → let x : ℕ = get_or (take c.args.n c.args.counts.now) c.loop-count.count-index 0 in
    (x < 65536) × (x * (x + 3) ≤ 65535 * 65538) × (work x ≤ 2147516415) × (c.loop-count.count-index < c.args.n)
few c =
    let low : c.loop-count.count-index < c.args.n = omega (arith, length-take-le c.args.n c.args.counts.now (omega arith)) in
    let e = get_or-take c.args.n c.args.counts.now c.loop-count.count-index 0 low in
    let h = c.type_inv.counts c.loop-count.count-index in
    let t = product_few (get_or (take c.args.n c.args.counts.now) c.loop-count.count-index 0) (omega arith) in
    (omega arith, t, omega arith, low)

pub loop-count-preserved : goal.loop-count-preserved
loop-count-preserved c =
    let h : c.loop-count.count-index < length (take c.args.n c.args.counts.now) = omega arith in
    record {
      low = omega (arith, few (goal.at.loop-count-preserved c).In-loop-count);
      slots = omega (arith, total_more (take c.args.n c.args.counts.now) c.loop-count.count-index h);
      products = omega (arith, multiplications_more (take c.args.n c.args.counts.now) c.loop-count.count-index h);
      slots_few = omega (arith, few (goal.at.loop-count-preserved c).In-loop-count);
      products_few = omega (arith, few (goal.at.loop-count-preserved c).In-loop-count);
    }
