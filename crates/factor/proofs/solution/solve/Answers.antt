-- `factor::solution::solve` meets its promise: the checks, then the three passes over the plan's used entries.
use mathlib.Core.Path.{◌≡◌, sym, ap, ◌∙◌}
use native.Mathlib.Omega.{arith}
use lib.ListN.{length}
use Rattle.std.proofs.lemmas.Result.{err_from_is_err_and}
use Rattle.plan.specs.Writing.{used}
use Rattle.planfile.specs.LentPlans.{contents_of}
use Rattle.theory.proofs.Solving.{forward-length, scaled-length}
use Rattle.factor.proofs.Checks.{nodes-few, starts-long, rows_long}
use Rattle.factor.proofs.SolveChecks.{solve_refused, factor_none, filled, vector_long, pivots-long, solve_reached}
use Rattle.factor.proofs.solution.solve.Goals.{After-forward_columns}
use Rattle.factor.proofs.solution.solve.Goals as goal

pub returns-in_err-check_all : goal.returns-in_err-check_all
returns-in_err-check_all c =
    let p = err_from_is_err_and c.from_residual.result c.from_residual.ensures.1 in
    rw (p.1, p.2) (solve_refused (contents_of c.args.plan.now) (record { diagonal = c.args.diagonal.now; values = c.args.values.now }) c.args.vector.now c.in_err-check_all.field-0.0 c.in_err-check_all.ensures)

-- the forward pass keeps the length, and so does the division
forward_long : (c : After-forward_columns) → length c.forward_columns.new.vector ≡ length c.args.vector.now
unfolding used
forward_long c = ap length c.forward_columns.ensures ∙ forward-length (length c.args.vector.now) (used (contents_of c.args.plan.now)).column_starts (used (contents_of c.args.plan.now)).rows c.args.values.now c.args.vector.now

pub invariant_of-filled : goal.invariant_of-filled
unfolding used
invariant_of-filled c = record { filled = filled (contents_of c.args.plan.now) (record { diagonal = c.args.diagonal.now; values = c.args.values.now }) c.args.vector.now c.in_ok-check_all.ensures }

pub forward_columns-requires : goal.forward_columns-requires
forward_columns-requires c = vector_long (contents_of c.args.plan.now) (record { diagonal = c.args.diagonal.now; values = c.args.values.now }) c.args.vector.now c.in_ok-check_all.ensures

pub scale-requires : goal.scale-requires
scale-requires c = omega (arith, pivots-long (contents_of c.args.plan.now) (record { diagonal = c.args.diagonal.now; values = c.args.values.now }) c.args.vector.now c.in_ok-check_all.ensures, forward_long (goal.at.scale-requires c).After-forward_columns)

pub backward_columns-requires : goal.backward_columns-requires
backward_columns-requires c =
    ap length c.scale.ensures ∙ scaled-length _ c.args.diagonal.now _ ∙ forward_long (goal.at.backward_columns-requires c).After-forward_columns ∙ vector_long (contents_of c.args.plan.now) (record { diagonal = c.args.diagonal.now; values = c.args.values.now }) c.args.vector.now c.in_ok-check_all.ensures

pub returns : goal.returns
unfolding used
returns c =
    solve_reached (contents_of c.args.plan.now) (record { diagonal = c.args.diagonal.now; values = c.args.values.now }) c.args.vector.now c.in_ok-check_all.ensures c.forward_columns.new.vector c.scale.new.vector c.backward_columns.new.vector
    c.forward_columns.ensures c.scale.ensures c.backward_columns.ensures

pub overflow_add-end : goal.overflow_add-end
overflow_add-end c = omega (arith, nodes-few (contents_of c.args.plan.now) (record { diagonal = c.args.diagonal.now; values = c.args.values.now }) (factor_none (contents_of c.args.plan.now) (record { diagonal = c.args.diagonal.now; values = c.args.values.now }) c.args.vector.now c.in_ok-check_all.ensures))

pub slice_bounds-filled-end : goal.slice_bounds-filled-end
unfolding used
slice_bounds-filled-end c = sym (starts-long (contents_of c.args.plan.now) (record { diagonal = c.args.diagonal.now; values = c.args.values.now }) (factor_none (contents_of c.args.plan.now) (record { diagonal = c.args.diagonal.now; values = c.args.values.now }) c.args.vector.now c.in_ok-check_all.ensures))

pub slice_bounds-filled-end-2 : goal.slice_bounds-filled-end-2
unfolding used
slice_bounds-filled-end-2 c = sym (rows_long (contents_of c.args.plan.now) (record { diagonal = c.args.diagonal.now; values = c.args.values.now }) (factor_none (contents_of c.args.plan.now) (record { diagonal = c.args.diagonal.now; values = c.args.values.now }) c.args.vector.now c.in_ok-check_all.ensures))
