-- `planfile::lent::UsedPlan::check` meets its contract: its tests are checks 15 to 19, in their order, and those passed tell what the next one
-- requires.
use mathlib.Core.Path.{◌≡◌, sym, ap, ◌∙◌}
use Prim.Native.Nat.{ℕ}
use native.Mathlib.Omega.{arith}
use Rattle.std.proofs.lemmas.Result.{err_from_is_err_and}
use Rattle.plan.specs.Refusals.{fault_of, first_fault}
use Rattle.plan.specs.Planning.{Contents}
use Rattle.plan.specs.File.{contents_checks}
use Rattle.theory.proofs.Refusals.{number-suc}
use Rattle.filechecks.proofs.Fields.{order_checks}
use Rattle.planfile.specs.LentPlans.{used_by}
use Rattle.planfile.proofs.SuppliedChecks.{unnumbered, checks_listed}
use Rattle.planfile.proofs.Passing.{order_refused, order_passed, rows_refused, starts_bad, last_bad, looked, exact-few, passed-parts, passed-starts}
use Rattle.planfile.proofs.lent.UsedPlan.check.Goals as goal

-- the first fault of a plan is that of its counts and lists alone
alone : (p : Contents) (k : ℕ) → k ≡ first_fault (contents_checks p) → k ≡ first_fault (contents_checks (unnumbered p))
alone p k e = e ∙ sym (ap first_fault (checks_listed p))

pub check_order_and_parts-requires : goal.check_order_and_parts-requires
check_order_and_parts-requires c = exact-few (used_by c.args.self.now) c.args.self.now.exact

pub returns-in_err-check_order_and_parts : goal.returns-in_err-check_order_and_parts
returns-in_err-check_order_and_parts c =
    let p = err_from_is_err_and c.from_residual.result c.from_residual.ensures.1 in
    let fault : fault_of c.from_residual.result ≡ first_fault (contents_checks (used_by c.args.self.now)) = rw (p.1, p.2) (order_refused (used_by c.args.self.now) _ (λ z. omega (arith, z, (number-suc c.in_err-check_order_and_parts.field-0.0).1))
    (c.in_err-check_order_and_parts.ensures ∙ order_checks (used_by c.args.self.now) c.args.self.now.exact.whole)) in
    record { fault = fault; unnumbered = alone (used_by c.args.self.now) _ fault }

pub returns-then-bad_starts : goal.returns-then-bad_starts
returns-then-bad_starts c =
    let fault : 17 ≡ first_fault (contents_checks (used_by c.args.self.now)) = rows_refused (used_by c.args.self.now) (c.in_ok-check_order_and_parts.ensures ∙ order_checks (used_by c.args.self.now) c.args.self.now.exact.whole) (starts_bad (used_by c.args.self.now) (sym c.bad_starts.ensures ∙ c.if-bad_starts.true)) in
    record { fault = fault; unnumbered = alone (used_by c.args.self.now) _ fault }

pub returns-then-self : goal.returns-then-self
returns-then-self c =
    let fault : 17 ≡ first_fault (contents_checks (used_by c.args.self.now)) = rows_refused (used_by c.args.self.now) (c.in_ok-check_order_and_parts.ensures ∙ order_checks (used_by c.args.self.now) c.args.self.now.exact.whole) (last_bad (used_by c.args.self.now) (sym c.bad_starts.ensures ∙ c.if-bad_starts.false) (λ z. c.if-self.true z)) in
    record { fault = fault; unnumbered = alone (used_by c.args.self.now) _ fault }

pub check_rows-requires : goal.check_rows-requires
check_rows-requires c = (passed-parts (used_by c.args.self.now) c.args.self.now.exact (c.in_ok-check_order_and_parts.ensures ∙ order_checks (used_by c.args.self.now) c.args.self.now.exact.whole), passed-starts (used_by c.args.self.now) c.args.self.now.exact (sym c.bad_starts.ensures ∙ c.if-bad_starts.false) c.if-self.false)

pub returns : goal.returns
returns c =
    let fault : fault_of c.check_rows.result ≡ first_fault (contents_checks (used_by c.args.self.now)) = c.check_rows.ensures ∙ looked (used_by c.args.self.now) c.args.self.now.exact.whole ∙ sym (order_passed (used_by c.args.self.now) (c.in_ok-check_order_and_parts.ensures ∙ order_checks (used_by c.args.self.now) c.args.self.now.exact.whole)) in
    record { fault = fault; unnumbered = alone (used_by c.args.self.now) _ fault }
