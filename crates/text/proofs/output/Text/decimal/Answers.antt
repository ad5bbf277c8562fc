-- `text::output::Text::decimal` meets its contract: what a number prints is its decimal digits.
use mathlib.Core.Path.{◌≡◌, ap, ◌∙◌}
use native.Mathlib.Omega.{arith}
use lib.ListN.{length}
use Rattle.plan.specs.Listing.{decimal}
use Rattle.text.proofs.Decimals.{decimal_printed}
use Rattle.text.proofs.output.Text.decimal.Goals.{After-format}
use Rattle.text.proofs.output.Text.decimal.Goals as goal

-- the digits
digits : (c : After-format) → c.format.result.now ≡ decimal c.args.x
digits c = c.format.ensures.text ∙ decimal_printed c.args.x (omega (arith, c.ranges.x.fits))

pub word-requires : goal.word-requires
word-requires c = omega (arith, c.requires, ap length (digits (goal.at.word-requires c).After-format))

pub returns : goal.returns
returns c = rw (c.word.ensures, digits (goal.at.returns c).After-format)
