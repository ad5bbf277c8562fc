-- `factor::entry::factor` meets its promise: the checks, then the columns of the plan's used entries.
use mathlib.Core.Path.{sym}
use native.Mathlib.Omega.{arith}
use Rattle.plan.specs.Writing.{used}
use Rattle.planfile.specs.LentPlans.{contents_of}
use Rattle.factor.proofs.Checks.{nodes-few, starts-long, rows_long, factor_lent, factor_reached}
use Rattle.factor.proofs.entry.factor.Goals as goal

pub returns : goal.returns
unfolding used
returns c = factor_reached (contents_of c.args.plan.now) (record { diagonal = c.args.diagonal.now; values = c.args.values.now }) c.in_ok-check.ensures c.factor_columns.result (record { diagonal = c.factor_columns.new.diagonal; values = c.factor_columns.new.values }) c.factor_columns.ensures

pub slice_bounds-columns-end : goal.slice_bounds-columns-end
unfolding used
slice_bounds-columns-end c = sym (starts-long (contents_of c.args.plan.now) (record { diagonal = c.args.diagonal.now; values = c.args.values.now }) c.in_ok-check.ensures)

pub slice_bounds-columns-end-2 : goal.slice_bounds-columns-end-2
unfolding used
slice_bounds-columns-end-2 c = sym (rows_long (contents_of c.args.plan.now) (record { diagonal = c.args.diagonal.now; values = c.args.values.now }) c.in_ok-check.ensures)

pub factor_columns-requires : goal.factor_columns-requires
unfolding used
factor_columns-requires c = factor_lent (contents_of c.args.plan.now) (record { diagonal = c.args.diagonal.now; values = c.args.values.now }) c.in_ok-check.ensures

pub overflow_add-end : goal.overflow_add-end
overflow_add-end c = omega (arith, nodes-few (contents_of c.args.plan.now) (record { diagonal = c.args.diagonal.now; values = c.args.values.now }) c.in_ok-check.ensures)
