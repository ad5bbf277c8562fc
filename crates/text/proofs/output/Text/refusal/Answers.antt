-- `text::output::Text::refusal` meets its contract.
use mathlib.Core.Path.{ap}
use mathlib.Core.List.{append_assoc}
use native.Mathlib.Omega.{arith}
use lib.ListN.{length, length-append}
use Rattle.plan.specs.Listing.{refusal_line}
use Rattle.text.proofs.Lines.{refusal-parts, refusal-length}
use Rattle.text.proofs.output.Text.refusal.Goals as goal

pub labelled-requires : goal.labelled-requires
labelled-requires c = omega (arith, refusal-length c.number.result, ap (λ k. length (refusal_line k)) c.number.ensures)

pub word-requires : goal.word-requires
word-requires c = omega (arith, simp length-append at (ap length c.labelled.ensures), refusal-length c.number.result, ap (λ k. length (refusal_line k)) c.number.ensures)

pub returns : goal.returns
returns c = rw (c.word.ensures, c.labelled.ensures, ← c.number.ensures, refusal-parts c.number.result) (simp append_assoc)
