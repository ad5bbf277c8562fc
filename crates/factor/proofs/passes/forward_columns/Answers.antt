-- `factor::passes::forward_columns` meets its contract: the columns from j on are left.
use mathlib.Core.Path.{◌≡◌, sym, ◌∙◌}
use mathlib.Core.Bool.{true}
use Prim.Native.Nat.{◌+◌, ◌<◌}
use native.Mathlib.Omega.{arith}
use lib.ListN.{length}
use Rattle.plan.specs.Solving.{forward_column, forward}
use Rattle.theory.proofs.Solving.{forward_column_keeps}
use Rattle.factor.specs.Down.{continued}
use Rattle.factor.proofs.PassSteps.{turning_begins, turning_steps, turning_steps_two, turned}
use Rattle.factor.proofs.TwoColumns.{next-inside}
use Rattle.factor.proofs.passes.forward_columns.Goals.{Then-followed}
use Rattle.factor.proofs.passes.forward_columns.Goals as goal

pub loop-j-init : goal.loop-j-init
loop-j-init c = turning_begins (forward_column c.args.filled.now.columns.starts.now c.args.filled.now.columns.rows.now c.args.filled.now.values.now) 0 (length c.args.vector.now) c.args.vector.now (omega arith)

pub followed-requires : goal.followed-requires
followed-requires c = omega (arith, c.loop-j-test.true, c.loop-j.invariant.long, c.requires)

-- column j is followed by the next, which is a column too
two : (c : Then-followed) → (continued c.args.filled.now.columns.starts.now c.args.filled.now.columns.rows.now c.loop-j.j (c.loop-j.j + 1) ≡ true) × (c.loop-j.j + 1 < c.args.filled.now.nodes)
two c =
    let follows = sym c.followed.ensures ∙ c.if-followed.true in
    (follows, next-inside c.args.filled.now.nodes c.args.filled.now.columns.starts.now c.args.filled.now.columns.rows.now c.args.filled.now.filled.plan c.loop-j.j (omega (arith, c.loop-j-test.true, c.loop-j.invariant.long, c.requires)) follows)

pub forward_two-requires : goal.forward_two-requires
forward_two-requires c =
    record {
      vector_length = (c.loop-j.invariant.long ∙ c.requires, (two (goal.at.forward_two-requires c).Then-followed).1);
      j_value = (two (goal.at.forward_two-requires c).Then-followed).0;
    }

pub loop-j-preserved-then-followed : goal.loop-j-preserved-then-followed
loop-j-preserved-then-followed c =
    rw c.forward_two.ensures
    (turning_steps_two (forward_column c.args.filled.now.columns.starts.now c.args.filled.now.columns.rows.now c.args.filled.now.values.now) 0 (length c.args.vector.now) c.args.vector.now (forward_column_keeps c.args.filled.now.columns.starts.now c.args.filled.now.columns.rows.now c.args.filled.now.values.now) c.loop-j.j c.loop-j.vector c.loop-j.invariant (omega (arith, (two (goal.at.loop-j-preserved-then-followed c).Then-followed).1, c.requires)))

pub forward_column-requires : goal.forward_column-requires
forward_column-requires c = (c.loop-j.invariant.long ∙ c.requires, omega (arith, c.loop-j-test.true, c.loop-j.invariant.long, c.requires))

pub loop-j-preserved : goal.loop-j-preserved
loop-j-preserved c =
    rw c.forward_column.ensures
    (turning_steps (forward_column c.args.filled.now.columns.starts.now c.args.filled.now.columns.rows.now c.args.filled.now.values.now) 0 (length c.args.vector.now) c.args.vector.now (forward_column_keeps c.args.filled.now.columns.starts.now c.args.filled.now.columns.rows.now c.args.filled.now.values.now) c.loop-j.j c.loop-j.vector c.loop-j.invariant
    (omega (arith, c.loop-j-test.true, c.loop-j.invariant.long)))

pub returns : goal.returns
unfolding forward
returns c = turned (forward_column c.args.filled.now.columns.starts.now c.args.filled.now.columns.rows.now c.args.filled.now.values.now) (length c.args.vector.now) c.args.vector.now c.loop-j.j c.loop-j.vector c.loop-j.invariant (omega (arith, c.loop-j-test.false, c.loop-j.invariant.long))
