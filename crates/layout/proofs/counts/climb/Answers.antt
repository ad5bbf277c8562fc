-- `layout::counts::climb` meets its contract: each turn counts and marks one column on the way up, and the parent is later than the column.
use mathlib.Core.Path.{◌≡◌, refl, ◌∙◌}
use mathlib.Core.List.{List}
use Prim.Native.Nat.{ℕ, ◌+◌, ◌<◌}
use native.Mathlib.Omega.{arith}
use lib.ListN.{length, get_or, set, length-set}
use Rattle.layout.specs.Climbing.{Climbable}
use Rattle.layout.proofs.Climbing.{Way, climbing-few, way_start, way_step, way_end}
use Rattle.layout.proofs.counts.climb.Invariants.{Inv}
use Rattle.layout.proofs.counts.climb.Goals.{After-parent_of-p}
use Rattle.layout.proofs.counts.climb.Goals as goal

-- the invariant from its first parts
invariant : {i start : ℕ} {tree₀ marks₀ counts₀ tree marks counts : List ℕ} {k : ℕ} → Climbable i start tree₀ marks₀ counts₀
    → length tree ≡ length tree₀ → length marks ≡ length marks₀ → length counts ≡ length counts₀
    → ((w : Climbable i start tree₀ marks₀ counts₀) → Way w.mesh w.order i start tree₀ marks₀ counts₀ tree marks counts k)
    → Inv i start tree₀ marks₀ counts₀ tree marks counts k
invariant {i} {start} {tree₀} {marks₀} {counts₀} {tree} {marks} {counts} {k} w t m n way =
    let y = way w in
    record {
      way = way;
      long_tree = t;
      long_marks = m;
      long_counts = n;
      in_tree = omega arith;
      in_marks = omega arith;
      in_counts = omega arith;
      few = omega (arith, climbing-few w.mesh w.order i w.inside k k tree marks counts y.climbing (omega arith));
    }

pub loop-marks-init : goal.loop-marks-init
loop-marks-init c =
    invariant c.requires refl refl refl
    (λ w. way_start w.mesh w.order c.args.i w.inside c.args.start c.args.tree.now c.args.marks.now c.args.counts.now (omega arith) w.row w.climbing)

-- a turn's step up the way
step : (c : After-parent_of-p) → (w : Climbable c.args.i c.args.start c.args.tree.now c.args.marks.now c.args.counts.now) → (c.loop-marks.k < c.parent_of-p.result)
    × Way w.mesh w.order c.args.i c.args.start c.args.tree.now c.args.marks.now c.args.counts.now (set c.loop-marks.tree c.loop-marks.k c.parent_of-p.result) (set c.loop-marks.marks c.loop-marks.k c.args.i) (set c.loop-marks.counts c.loop-marks.k (get_or c.loop-marks.counts c.loop-marks.k 0 + 1)) c.parent_of-p.result
step c w =
    way_step w.mesh w.order c.args.i w.inside c.args.start c.args.tree.now c.args.marks.now c.args.counts.now c.loop-marks.tree c.loop-marks.marks c.loop-marks.counts c.loop-marks.k (c.loop-marks.invariant.way w) c.parent_of-p.result
    c.loop-marks.invariant.in_tree c.loop-marks.invariant.in_marks c.loop-marks.invariant.in_counts (omega (arith, w.few, w.inside)) c.loop-marks-test.true c.parent_of-p.ensures

pub loop-marks-smaller : goal.loop-marks-smaller
loop-marks-smaller c =
    let t = step (goal.at.loop-marks-smaller c).After-parent_of-p c.requires in
    omega (arith, t.0, t.1.low)

pub loop-marks-preserved : goal.loop-marks-preserved
loop-marks-preserved c =
    invariant c.requires
    (length-set c.loop-marks.tree c.loop-marks.k c.parent_of-p.result ∙ c.loop-marks.invariant.long_tree)
    (length-set c.loop-marks.marks c.loop-marks.k c.args.i ∙ c.loop-marks.invariant.long_marks)
    (length-set c.loop-marks.counts c.loop-marks.k (get_or c.loop-marks.counts c.loop-marks.k 0 + 1) ∙ c.loop-marks.invariant.long_counts)
    (λ w. (step (goal.at.loop-marks-preserved c).After-parent_of-p w).1)

pub returns : goal.returns
returns c =
    λ w.
    way_end w.mesh w.order c.args.i w.inside c.args.start c.args.tree.now c.args.marks.now c.args.counts.now c.loop-marks.tree c.loop-marks.marks c.loop-marks.counts c.loop-marks.k (c.loop-marks.invariant.way w) c.loop-marks-test.false
