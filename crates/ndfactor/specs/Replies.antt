-- What C is told of factoring, and the answer that it stands for. And what it is told of the factor at a pair.
use Rattle.std.specs.Prelude.{cond, eqb, get_or, Result, Ok, Err}
use Rattle.std.specs.Float.Ieee.{of_bits}
use Rattle.std.specs.Float.{binary64}
use Rattle.plan.specs.declared.Report.{Report}
use Rattle.plan.specs.declared.refusal.Refusal.{Refusal}
use Rattle.plan.specs.Refusals.{refusal_of}
use Rattle.plan.specs.Factoring.{factor_reply}
use Rattle.plan.specs.Answers.{HeldReply}
use Rattle.ndfactor.specs.declared.replies.NdfReport.{NdfReport}
use Rattle.ndfactor.specs.declared.replies.NdfHeld.{NdfHeld}

abbrev pub ndf_report : Result Report Refusal → NdfReport
ndf_report a = record {
  refusal = (factor_reply a).refusal;
  smallest = (factor_reply a).report.smallest;
  largest = (factor_reply a).report.largest;
  operations = (factor_reply a).report.operations;
}

-- a refusal unless its number is 0
abbrev pub factor_answer_of : NdfReport → Result Report Refusal
factor_answer_of r =
    cond (eqb r.refusal 0)
    (Ok (record { smallest = r.smallest; largest = r.largest; operations = r.operations }))
    (Err (refusal_of r.refusal))

-- the number of the refusal, the kind, and the number held, 0 where there is none
abbrev pub ndf_held : HeldReply → NdfHeld
ndf_held r = record { refusal = r.number; kind = r.kind; value = get_or r.held 0 (of_bits binary64 0) }
