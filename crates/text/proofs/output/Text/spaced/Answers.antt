-- `text::output::Text::spaced` meets its contract.
use mathlib.Core.Path.{ap}
use mathlib.Core.List.{append_assoc}
use native.Mathlib.Omega.{arith}
use lib.ListN.{length, length-append}
use Rattle.text.proofs.Decimals.{spaced_one_lem}
use Rattle.text.proofs.output.Text.spaced.Goals as goal

pub word-requires : goal.word-requires
word-requires c = omega (arith, c.requires, ap length (spaced_one_lem c.args.x))

pub decimal-requires : goal.decimal-requires
decimal-requires c = omega (arith, c.requires, simp length-append at (ap length c.word.ensures), ap length (spaced_one_lem c.args.x))

pub returns : goal.returns
returns c = rw (c.decimal.ensures, c.word.ensures, spaced_one_lem c.args.x) (simp append_assoc)
