-- `rowchecks::ranges::add_widths` meets its contract: turn after turn a part's width is added to its parent's.
use mathlib.Core.Path.{◌≡◌}
use mathlib.Core.List.{List}
use Prim.Native.Nat.{ℕ, ◌≤◌}
use lib.ListN.{length, get_or}
use Rattle.rowchecks.specs.Numbering.{width_after}
use Rattle.rowchecks.proofs.ranges.add_widths.Given as goal

-- the first q parts' widths have been added
pub record Added (parents widths₀ widths : List ℕ) (q : ℕ) : Type 0 where
  pub few : q ≤ length parents
  pub long : length widths ≡ length widths₀
  pub so : (b : ℕ) → b ≤ length parents → get_or widths b 0 ≡ width_after parents q b

abbrev pub invariant-loop-q : goal.invariant-loop-q
invariant-loop-q l = Added l.parents l.initial.widths l.widths l.q
