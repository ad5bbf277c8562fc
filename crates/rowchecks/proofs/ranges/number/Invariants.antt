-- `rowchecks::ranges::number` meets its contract: from the last part to the first, each one's width is taken back from its parent's, and its range
-- begins behind what is left.
use mathlib.Core.Path.{◌≡◌}
use mathlib.Core.List.{List}
use Prim.Native.Nat.{ℕ, ◌+◌, ◌≤◌, ◌<◌}
use lib.ListN.{length, get_or}
use Rattle.rowchecks.specs.Numbering.{rooted_parent, width_after, width}
use Rattle.rowchecks.proofs.ranges.number.Given as goal

-- the parts from q on have their ranges, within one more than there are parts; the widths are those after the first q parts
pub record Ranged (parents widths₀ firsts₀ lasts₀ widths firsts lasts : List ℕ) (q : ℕ) : Type 0 where
  pub few : q ≤ length parents
  pub widths-long : length widths ≡ length widths₀
  pub firsts-long : length firsts ≡ length firsts₀
  pub lasts-long : length lasts ≡ length lasts₀
  pub so : (b : ℕ) → b ≤ length parents → get_or widths b 0 ≡ width_after parents q b
  pub root : get_or firsts (length parents) 0 ≡ 0
  pub begun : (c : ℕ) → q ≤ c → c < length parents → get_or firsts c 0 ≡ get_or firsts (rooted_parent parents c) 0 + width_after parents c (rooted_parent parents c)
  pub ended : (c : ℕ) → q ≤ c → c < length parents → get_or lasts c 0 ≡ get_or firsts c 0 + width parents c
  pub within : (b : ℕ) → q ≤ b → b ≤ length parents → get_or firsts b 0 + width parents b ≤ length parents + 1

abbrev pub invariant-loop-q : goal.invariant-loop-q
invariant-loop-q l = Ranged l.parents l.initial.widths l.initial.firsts l.initial.lasts l.widths l.firsts l.lasts l.q
