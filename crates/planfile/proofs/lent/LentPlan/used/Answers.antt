-- `planfile::lent::LentPlan::used` meets its contract: behind check 13 no list is shorter than its count says.
use mathlib.Core.Path.{sym}
use native.Mathlib.Omega.{arith}
use Rattle.plan.specs.Writing.{used}
use Rattle.theory.proofs.Fitting.{counts-few}
use Rattle.planfile.specs.Supplied.{Exact}
use Rattle.planfile.specs.LentPlans.{contents_of}
use Rattle.planfile.proofs.SuppliedChecks.{fronts_used, exact-used, exact_fronts}
use Rattle.planfile.proofs.lent.LentPlan.used.Goals.{Start}
use Rattle.planfile.proofs.lent.LentPlan.used.Goals as goal

exact : (c : Start) → Exact (used (contents_of c.args.self.now))
exact c = exact-used (contents_of c.args.self.now) c.requires

pub overflow_add-starts : goal.overflow_add-starts
unfolding used
overflow_add-starts c = omega (arith, (counts-few (used (contents_of c.args.self.now)) (exact (goal.at.overflow_add-starts c).Start).header).0)

pub slice_bounds-result-end : goal.slice_bounds-result-end
unfolding used
slice_bounds-result-end c = sym (exact (goal.at.slice_bounds-result-end c).Start).whole.order

pub slice_bounds-result-end-2 : goal.slice_bounds-result-end-2
unfolding used
slice_bounds-result-end-2 c = sym (exact (goal.at.slice_bounds-result-end-2 c).Start).whole.sizes

pub slice_bounds-result-end-3 : goal.slice_bounds-result-end-3
unfolding used
slice_bounds-result-end-3 c = sym (exact (goal.at.slice_bounds-result-end-3 c).Start).whole.parents

pub slice_bounds-result-end-4 : goal.slice_bounds-result-end-4
unfolding used
slice_bounds-result-end-4 c = sym (exact (goal.at.slice_bounds-result-end-4 c).Start).whole.column_starts

pub slice_bounds-result-end-5 : goal.slice_bounds-result-end-5
unfolding used
slice_bounds-result-end-5 c = sym (exact (goal.at.slice_bounds-result-end-5 c).Start).whole.rows

pub invariant_of-result : goal.invariant_of-result
invariant_of-result c = record { exact = exact_fronts (contents_of c.args.self.now) c.requires }

pub returns : goal.returns
returns c = fronts_used (contents_of c.args.self.now) (exact (goal.at.returns c).Start).whole
