-- `layout::questions::column_span` meets its contract: where the question is not refused, the layout tells the span.
use mathlib.Core.Path.{sym, ◌∙◌}
use native.Mathlib.Omega.{arith}
use Rattle.plan.specs.Questions.{column_span}
use Rattle.theory.proofs.Refusals.{number-suc}
use Rattle.layout.proofs.Answered.{span_refused}
use Rattle.layout.proofs.questions.column_span.Goals as goal

pub returns-in-Ok : goal.returns-in-Ok
unfolding column_span
returns-in-Ok c = c.span.ensures ∙ rw (c.in-Ok.ensures.passed.0.1, c.in-Ok.ensures.fault)

pub returns-in-Err : goal.returns-in-Err
returns-in-Err c =
    let s = number-suc c.in-Err.field-0 in
    sym (span_refused c.args.n c.args.column_starts.now c.args.rows.now c.args.j (λ e. absurd (omega (arith, s.1, e, c.in-Err.ensures.fault))))
