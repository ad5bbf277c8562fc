-- `layout::counts::count_rows` meets its contract: row after row is counted.
use mathlib.Core.Path.{◌≡◌, refl, ap, ◌∙◌}
use mathlib.Core.List.{List, ◌++◌}
use Prim.Native.Nat.{ℕ, ◌<◌}
use native.Mathlib.Omega.{arith}
use borrow.Author.Rules.{rules}
use lib.ListN.{length, drop, replicate, get_or}
use Rattle.plan.specs.Lists.{written}
use Rattle.mesh.specs.Lent.{as_lent}
use Rattle.mesh.specs.Lists.{none}
use Rattle.mesh.proofs.Lists.{filled_at}
use Rattle.layout.proofs.Counted.{reset_part, reset_long, reset_rest, counted_none, counted_tree, counted_rows}
use Rattle.layout.proofs.counts.count_rows.Goals.{At-loop-i, After-fill-2}
use Rattle.layout.proofs.counts.count_rows.Goals as goal

-- the tree and the counts before the first row
tree_reset : (c : After-fill-2) → c.fill.new.self ++ drop c.args.mesh.now.nodes c.args.tree.now ≡ written (replicate c.args.mesh.now.nodes none) c.args.tree.now
tree_reset c = reset_part c.args.mesh.now.nodes none c.args.tree.now c.fill.new.self (omega arith) (c.fill.ensures.after (λ y e. e))

counts_reset : (c : After-fill-2) → c.fill-2.new.self ++ drop c.args.mesh.now.nodes c.args.counts.now ≡ written (replicate c.args.mesh.now.nodes 0) c.args.counts.now
counts_reset c = reset_part c.args.mesh.now.nodes 0 c.args.counts.now c.fill-2.new.self (omega arith) (c.fill-2.ensures.after (λ y e. e))

pub loop-i-init : goal.loop-i-init
loop-i-init c =
    let clear : (k : ℕ) → k < c.args.mesh.now.nodes → get_or c.filled-marks.result k 0 ≡ none = λ k l. ap (λ (m : List ℕ). get_or m k 0) c.filled-marks.ensures.0 ∙ filled_at none k (omega (arith, c.requires.0.checked.few)) in
    record {
      counted = counted_none (as_lent c.args.mesh.now) c.args.order.now c.args.tree.now c.args.counts.now _ _ (tree_reset (goal.at.loop-i-init c).After-fill-2) (counts_reset (goal.at.loop-i-init c).After-fill-2);
      unmarked = λ k r l h lr e. omega (arith, c.requires.0.checked.few, clear k l);
      low = search rules;
      long_tree = refl;
      long_counts = refl;
      long_marks = c.filled-marks.ensures.1;
      rest_tree = refl;
      rest_counts = refl;
    }

-- the lists stay as long as they were
kept : (c : At-loop-i) → (length c.loop-i.tree ≡ length c.args.tree.now) × (length c.loop-i.counts ≡ length c.args.counts.now)
kept c = (c.loop-i.invariant.long_tree ∙ reset_long c.args.mesh.now.nodes none c.args.tree.now c.fill.new.self (omega arith) c.fill.ensures.len, c.loop-i.invariant.long_counts ∙ reset_long c.args.mesh.now.nodes 0 c.args.counts.now c.fill-2.new.self (omega arith) c.fill-2.ensures.len)

pub returns : goal.returns
returns c =
    let t = kept (goal.at.returns c).At-loop-i in
    let e : c.loop-i.i ≡ c.args.mesh.now.nodes = omega arith in
    let all = rw e at c.loop-i.invariant.counted in record {
      tree_after = counted_tree (as_lent c.args.mesh.now) c.args.order.now c.loop-i.tree c.loop-i.counts all c.args.tree.now (omega arith) (c.loop-i.invariant.rest_tree ∙ reset_rest c.args.mesh.now.nodes none c.args.tree.now _ (tree_reset (goal.at.returns c).After-fill-2));
      counts_after = counted_rows (as_lent c.args.mesh.now) c.args.order.now c.loop-i.tree c.loop-i.counts all c.args.counts.now (omega arith) (c.loop-i.invariant.rest_counts ∙ reset_rest c.args.mesh.now.nodes 0 c.args.counts.now _ (counts_reset (goal.at.returns c).After-fill-2));
    }
