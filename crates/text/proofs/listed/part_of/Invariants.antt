-- `text::listed::part_of` meets its contract: the loop passes over the parts before the position's.
use mathlib.Core.Path.{◌≡◌}
use Prim.Native.Nat.{◌+◌}
use lib.ListN.{drop}
use Rattle.plan.specs.Parts.{part_of}
use Rattle.text.proofs.listed.part_of.Given as goal

abbrev pub invariant-loop-q : goal.invariant-loop-q
invariant-loop-q l = part_of l.sizes l.i ≡ l.q + part_of (drop l.q l.sizes) l.left
