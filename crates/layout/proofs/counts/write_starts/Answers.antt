-- `layout::counts::write_starts` meets its contract: each turn writes one more running sum.
use mathlib.Core.Path.{◌≡◌, ◌∙◌}
use mathlib.Core.List.{List}
use Prim.Native.Nat.{ℕ, ◌+◌, ◌<◌}
use native.Mathlib.Omega.{arith}
use lib.ListN.{length, take, get_or, set, length-set}
use lib.Seq.{length-take-le, get_or-take}
use Rattle.plan.specs.Lists.{total, running_sums}
use Rattle.theory.proofs.Compressed.{sums_length}
use Rattle.theory.proofs.Written.{written_push}
use Rattle.theory.proofs.Sums.{total_more}
use Rattle.layout.proofs.TotalSlots.{sums_more}
use Rattle.layout.proofs.counts.write_starts.Goals.{At-loop-j, In-loop-j}
use Rattle.layout.proofs.counts.write_starts.Goals as goal

-- a count has 16 bits
few : (c : In-loop-j) → (get_or (take c.args.n c.args.counts.now) c.loop-j.j 0 < 65536) × (c.loop-j.j < c.args.n) × (length (take c.args.n c.args.counts.now) ≡ c.args.n)
few c =
    let many = length-take-le c.args.n c.args.counts.now (omega arith) in
    let low : c.loop-j.j < c.args.n = omega arith in
    let e = get_or-take c.args.n c.args.counts.now c.loop-j.j 0 low in
    let h = c.type_inv.counts c.loop-j.j in
    (omega arith, low, many)

pub loop-j-preserved : goal.loop-j-preserved
loop-j-preserved c =
    let counts : List ℕ = take c.args.n c.args.counts.now in
    let f = few (goal.at.loop-j-preserved c).In-loop-j in
    let found : List ℕ = set c.args.column_starts.now 0 0 in
    let h : c.loop-j.j < length counts = omega arith in
    let next : c.loop-j.start + get_or counts c.loop-j.j 0 ≡ total (take (c.loop-j.j + 1) counts) = omega (arith, total_more counts c.loop-j.j h) in
    let many : length (running_sums 0 (take c.loop-j.j counts)) ≡ c.loop-j.j + 1 = sums_length 0 (take c.loop-j.j counts) ∙ omega (arith, length-take-le c.loop-j.j counts (omega arith)) in
    record {
      low = omega arith;
      next = next;
      few = omega arith;
      sums = rw (next, sums_more counts c.loop-j.j h, c.loop-j.invariant.sums)
          (written_push (running_sums 0 (take c.loop-j.j counts)) found (c.loop-j.j + 1) (total (take (c.loop-j.j + 1) counts)) many (omega (arith, length-set c.args.column_starts.now 0 0)));
      long = length-set c.loop-j.column_starts (c.loop-j.j + 1) (c.loop-j.start + get_or counts c.loop-j.j 0) ∙ c.loop-j.invariant.long;
    }
