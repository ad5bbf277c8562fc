-- `text::listed::put_lines` meets its contract: the loop puts each position's line.
use mathlib.Core.Path.{◌≡◌}
use mathlib.Core.List.{◌++◌}
use lib.ListN.{length, take}
use Rattle.plan.specs.Lists.{below}
use Rattle.plan.specs.Listing.{position_line}
use Rattle.text.specs.Lines.{shown}
use Rattle.text.proofs.Sequences.{texts}
use Rattle.text.proofs.listed.put_lines.Given as goal

abbrev pub invariant-loop-j : goal.invariant-loop-j
invariant-loop-j l = l.text ≡ l.initial.text ++ texts (position_line (shown 0 0 0 l.order l.sizes l.column_starts l.rows)) (take l.j (below (length l.order)))
