-- What C is told of factoring stands for the answer of factoring.
use mathlib.Core.Path.{◌≡◌, refl, ap, ◌∙◌}
use native.Mathlib.Omega.{arith}
use borrow.Author.Tests.{ne_eqb}
use Rattle.std.specs.Prelude.{Result, Ok, Err}
use Rattle.plan.specs.declared.Report.{Report}
use Rattle.plan.specs.declared.refusal.Refusal.{Refusal}
use Rattle.plan.specs.Refusals.{number_of}
use Rattle.theory.proofs.Bools.{cond_false}
use Rattle.theory.proofs.Refusals.{number-suc, refusal-of_number}
use Rattle.ndfactor.specs.Replies.{ndf_report, factor_answer_of}

pub answer_told : (a : Result Report Refusal) → factor_answer_of (ndf_report a) ≡ a
answer_told (Ok report) = refl
answer_told (Err r) = cond_false _ _ _ (ne_eqb (number_of r) 0 (λ e. omega (arith, e, (number-suc r).1))) ∙ ap Err (refusal-of_number r)
