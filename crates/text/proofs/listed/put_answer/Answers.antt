-- `text::listed::put_answer` meets its contract.
use mathlib.Core.Path.{ap, subst}
use mathlib.Core.List.{List}
use Prim.Native.Nat.{ℕ}
use native.Mathlib.Omega.{arith}
use lib.ListN.{length}
use Rattle.std.specs.Prelude.{Result, Ok, Err}
use Rattle.plan.specs.declared.Plan.{Plan}
use Rattle.plan.specs.declared.refusal.Refusal.{Refusal}
use Rattle.text.specs.Lines.{answer_text, AnswerWithin}
use Rattle.text.proofs.listed.put_answer.Goals.{Start}
use Rattle.text.proofs.listed.put_answer.Goals as goal

-- what is listed for an answer
abbrev listed : (c : Start) → Result Plan Refusal → List ℕ
listed c answer = answer_text answer c.args.order.now c.args.sizes.now c.args.column_starts.now c.args.rows.now

pub put_plan-requires : goal.put_plan-requires
unfolding answer_text AnswerWithin
put_plan-requires c =
    record {
      plan_within = subst (λ a. AnswerWithin a c.args.order.now c.args.sizes.now c.args.column_starts.now c.args.rows.now) c.in-Ok.is c.requires.answer_within;
      room = omega (arith, c.requires.room, ap (λ a. length (listed (goal.at.put_plan-requires c).Start a)) c.in-Ok.is);
    }

pub refusal-requires : goal.refusal-requires
unfolding answer_text
refusal-requires c = omega (arith, c.requires.room, ap (λ a. length (listed (goal.at.refusal-requires c).Start a)) c.in-Err.is)

pub returns-in-Ok : goal.returns-in-Ok
unfolding answer_text
returns-in-Ok c = rw c.in-Ok.is c.put_plan.ensures

pub returns-in-Err : goal.returns-in-Err
unfolding answer_text
returns-in-Err c = rw c.in-Err.is c.refusal.ensures
