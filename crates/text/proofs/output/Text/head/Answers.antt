-- `text::output::Text::head` meets its contract.
use mathlib.Core.Path.{ap}
use mathlib.Core.List.{append_assoc}
use native.Mathlib.Omega.{arith}
use lib.ListN.{length, length-append}
use Rattle.text.proofs.Lines.{head-parts, head-length}
use Rattle.text.proofs.output.Text.head.Goals as goal

pub labelled-requires : goal.labelled-requires
labelled-requires c = omega (arith, head-length c.args.counts.nodes c.args.counts.parts c.args.counts.slots)

pub labelled-requires-2 : goal.labelled-requires-2
labelled-requires-2 c = omega (arith, simp length-append at (ap length c.labelled.ensures), head-length c.args.counts.nodes c.args.counts.parts c.args.counts.slots)

pub labelled-requires-3 : goal.labelled-requires-3
labelled-requires-3 c = omega (arith, simp length-append at (ap length c.labelled.ensures), simp length-append at (ap length c.labelled-2.ensures), head-length c.args.counts.nodes c.args.counts.parts c.args.counts.slots)

pub word-requires : goal.word-requires
word-requires c = omega (arith, simp length-append at (ap length c.labelled.ensures), simp length-append at (ap length c.labelled-2.ensures), simp length-append at (ap length c.labelled-3.ensures), head-length c.args.counts.nodes c.args.counts.parts c.args.counts.slots)

pub returns : goal.returns
returns c = rw (c.word.ensures, c.labelled-3.ensures, c.labelled-2.ensures, c.labelled.ensures, head-parts c.args.counts.nodes c.args.counts.parts c.args.counts.slots) (simp append_assoc)
