-- `layout::columns::write_column` meets its contract: the loop climbs from parent to parent and writes those that have the mark.
use mathlib.Core.Path.{refl, ◌∙◌}
use Prim.Native.Nat.{ℕ, ◌<◌}
use native.Mathlib.Omega.{arith}
use lib.ListN.{get_or}
use Rattle.layout.proofs.Climbs.{ascent_start, ascent_parent, ascent_more, ascent_end}
use Rattle.layout.proofs.columns.write_column.Goals.{In-loop-at}
use Rattle.layout.proofs.columns.write_column.Goals as goal

-- column k has a parent
up : (c : In-loop-at) → let p : ℕ = get_or c.args.tree.now c.loop-at.k 0 in
    (c.loop-at.k < p) × (p < c.args.n)
up c =
    ascent_parent c.args.n c.args.j c.args.tree.now c.args.marks.now c.args.rows.now (omega arith) c.requires.n_le_max_nodes.4 c.loop-at.rows c.loop-at.k c.loop-at.at c.loop-at.invariant.1
    (omega (arith, c.loop-at-test.true, c.requires.count_value.0))

pub loop-at-init : goal.loop-at-init
loop-at-init c = (refl, ascent_start c.args.n c.args.j c.args.tree.now c.args.marks.now c.args.rows.now (omega arith) c.requires.n_le_max_nodes.4 (omega arith))

pub put-at-requires : goal.put-at-requires
put-at-requires c = (omega (arith, (up (goal.at.put-at-requires c).In-loop-at).1, c.requires.n_le_max_nodes.3), omega (arith, c.loop-at-test.true, c.requires.count_value.1, c.loop-at.invariant.0))

pub loop-at-preserved : goal.loop-at-preserved
loop-at-preserved c = (
  c.put-at.auto.rows ∙ c.loop-at.invariant.0,
  ascent_more c.args.n c.args.j c.args.tree.now c.args.marks.now c.args.rows.now (omega arith) c.requires.n_le_max_nodes.4 c.loop-at.rows c.loop-at.k c.loop-at.at c.loop-at.invariant.1
      c.put-at.new.rows c.put-at.result (omega (arith, c.loop-at-test.true, c.requires.count_value.0)) (omega (arith, c.loop-at-test.true, c.requires.count_value.1, c.loop-at.invariant.0))
      c.put-at.ensures.0 c.put-at.ensures.1,
)

pub returns : goal.returns
returns c =
    ascent_end c.args.n c.args.j c.args.tree.now c.args.marks.now c.args.rows.now (omega arith) c.requires.n_le_max_nodes.4 c.loop-at.rows c.loop-at.k c.loop-at.at c.loop-at.invariant.1
    (omega (arith, c.loop-at-test.false, c.requires.count_value.0))
