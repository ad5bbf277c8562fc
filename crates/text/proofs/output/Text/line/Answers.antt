-- `text::output::Text::line` meets its contract.
use mathlib.Core.Path.{ap}
use mathlib.Core.List.{append_assoc}
use native.Mathlib.Omega.{arith}
use lib.ListN.{length, length-append}
use Rattle.text.proofs.Lines.{line_parts, line_length}
use Rattle.text.proofs.output.Text.line.Goals as goal

pub decimal-requires : goal.decimal-requires
decimal-requires c = omega (arith, line_length c.args.position c.args.node c.args.part c.args.rows.now)

pub spaced-requires : goal.spaced-requires
spaced-requires c = omega (arith, simp length-append at (ap length c.decimal.ensures), line_length c.args.position c.args.node c.args.part c.args.rows.now)

pub spaced-requires-2 : goal.spaced-requires-2
spaced-requires-2 c = omega (arith, simp length-append at (ap length c.decimal.ensures), simp length-append at (ap length c.spaced.ensures), line_length c.args.position c.args.node c.args.part c.args.rows.now)

pub all-requires : goal.all-requires
all-requires c = omega (arith, simp length-append at (ap length c.decimal.ensures), simp length-append at (ap length c.spaced.ensures), simp length-append at (ap length c.spaced-2.ensures), line_length c.args.position c.args.node c.args.part c.args.rows.now)

pub word-requires : goal.word-requires
word-requires c = omega (arith, simp length-append at (ap length c.decimal.ensures), simp length-append at (ap length c.spaced.ensures), simp length-append at (ap length c.spaced-2.ensures), simp length-append at (ap length c.all.ensures), line_length c.args.position c.args.node c.args.part c.args.rows.now)

pub returns : goal.returns
returns c = rw (c.word.ensures, c.all.ensures, c.spaced-2.ensures, c.spaced.ensures, c.decimal.ensures, line_parts c.args.position c.args.node c.args.part c.args.rows.now) (simp append_assoc)
