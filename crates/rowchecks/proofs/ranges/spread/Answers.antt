-- `rowchecks::ranges::spread` meets its contract: part after part its range is written at its positions.
use mathlib.Core.Path.{◌≡◌, refl, sym, ap, ◌∙◌}
use mathlib.Core.Logic.{inl, inr}
use Prim.Native.Nat.{ℕ, ◌+◌, ◌≤◌, ◌<◌}
use native.Mathlib.Omega.{arith}
use borrow.Author.Rules.{rules}
use lib.ListN.{length, get_or}
use lib.Seq.{take_all}
use Rattle.plan.specs.Lists.{total}
use Rattle.plan.specs.Parts.{part_of}
use Rattle.theory.proofs.Bools.{lt_or_le}
use Rattle.theory.proofs.Sums.{total_more, total-within}
use Rattle.theory.proofs.PartOf.{part_here}
use Rattle.rowchecks.proofs.ranges.spread.Goals.{In-loop-q}
use Rattle.rowchecks.proofs.ranges.spread.Goals as goal

-- part q ends within the positions
ends : (c : In-loop-q) → (c.loop-q.at + (get_or c.args.sizes.now c.loop-q.q 0) ≤ length c.loop-q.lows) × (c.loop-q.at + (get_or c.args.sizes.now c.loop-q.q 0) ≤ length c.loop-q.ends)
ends c =
    let all = total-within c.args.sizes.now c.loop-q.q (omega arith) in
    (omega (arith, c.loop-q.invariant.reached, c.loop-q.invariant.lows-long, c.requires, all), omega (arith, c.loop-q.invariant.reached, c.loop-q.invariant.ends-long, c.requires, all))

pub loop-q-init : goal.loop-q-init
loop-q-init c = record { few = search rules; reached = refl; lows-long = refl; ends-long = refl; low = λ i h. absurd (omega arith); end = λ i h. absurd (omega arith) }

pub loop-q-preserved : goal.loop-q-preserved
loop-q-preserved c =
    let h : c.loop-q.q < length c.args.sizes.now = omega arith in
    let here : (i : ℕ) → c.loop-q.at ≤ i → i < c.loop-q.at + (get_or c.args.sizes.now c.loop-q.q 0) → c.loop-q.q ≡ part_of c.args.sizes.now i =
    λ i b lt. sym (part_here c.args.sizes.now c.loop-q.q i h (omega (arith, c.loop-q.invariant.reached)) (omega (arith, c.loop-q.invariant.reached))) in
    record {
      few = search rules;
      reached = omega (arith, total_more c.args.sizes.now c.loop-q.q h, c.loop-q.invariant.reached);
      lows-long = c.fill.auto.lows ∙ c.loop-q.invariant.lows-long;
      ends-long = c.fill.auto.ends ∙ c.loop-q.invariant.ends-long;
      low = λ i lt. elim (lt_or_le i c.loop-q.at) [
        | inl b ↦ (c.fill.ensures.1 i b).0 ∙ c.loop-q.invariant.low i b
        | inr b ↦ (c.fill.ensures.0 i b lt).0 ∙ ap (λ (x : ℕ). get_or c.args.firsts.now x 0) (here i b lt)
      ];
      end = λ i lt. elim (lt_or_le i c.loop-q.at) [
        | inl b ↦ (c.fill.ensures.1 i b).1 ∙ c.loop-q.invariant.end i b
        | inr b ↦ (c.fill.ensures.0 i b lt).1 ∙ ap (λ (x : ℕ). get_or c.args.lasts.now x 0) (here i b lt)
      ];
    }

pub returns : goal.returns
returns c =
    let all : c.loop-q.at ≡ total c.args.sizes.now = rw (take_all c.loop-q.q c.args.sizes.now (omega arith)) at c.loop-q.invariant.reached in
    λ i lt. (c.loop-q.invariant.low i (omega arith), c.loop-q.invariant.end i (omega arith))

pub fill-requires : goal.fill-requires
fill-requires c = ends (goal.at.fill-requires c).In-loop-q

pub overflow_add-at : goal.overflow_add-at
overflow_add-at c = omega (arith, ends (goal.at.overflow_add-at c).In-loop-q)

pub shape_of-lows : goal.shape_of-lows
shape_of-lows c = c.loop-q.invariant.lows-long

pub shape_of-ends : goal.shape_of-ends
shape_of-ends c = c.loop-q.invariant.ends-long
