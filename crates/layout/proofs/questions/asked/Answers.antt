-- `layout::questions::asked` meets its contract: behind a layout without a fault the position tells.
use mathlib.Core.Path.{sym}
use mathlib.Core.List.{[], ◌∷◌}
use borrow.Author.Tests.{le-leb, lt-leb}
use Rattle.plan.specs.Questions.{position_outside, column_refusal}
use Rattle.theory.proofs.Asked.{position_fault, no_question_fault}
use Rattle.layout.proofs.questions.asked.Goals as goal

pub returns-then-j-n-clause-fault : goal.returns-then-j-n-clause-fault
unfolding column_refusal position_outside
returns-then-j-n-clause-fault c = sym (position_fault c.args.n c.args.column_starts.now c.args.rows.now (c.args.j ∷ []) (sym c.in_ok-layout.ensures.fault) (rw (le-leb c.args.n c.args.j c.if-j-n.true)))

pub returns-clause-fault : goal.returns-clause-fault
unfolding column_refusal position_outside
returns-clause-fault c = sym (no_question_fault c.args.n c.args.column_starts.now c.args.rows.now (c.args.j ∷ []) (sym c.in_ok-layout.ensures.fault) (rw (lt-leb c.args.n c.args.j c.if-j-n.false)))
