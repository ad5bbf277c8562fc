-- `text::output::Text::all` meets its contract: the loop puts each number.
use mathlib.Core.Path.{◌≡◌}
use mathlib.Core.List.{◌++◌}
use lib.ListN.{take}
use Rattle.text.proofs.Sequences.{texts}
use Rattle.text.proofs.Decimals.{spaced_one}
use Rattle.text.proofs.output.Text.all.Given as goal

abbrev pub invariant-loop-x : goal.invariant-loop-x
invariant-loop-x l = l.self ≡ l.initial.self ++ texts spaced_one (take l.x-index l.numbers)
