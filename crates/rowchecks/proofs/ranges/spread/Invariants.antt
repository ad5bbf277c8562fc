-- `rowchecks::ranges::spread` meets its contract: part after part its range is written at its positions.
use mathlib.Core.Path.{◌≡◌}
use mathlib.Core.List.{List}
use Prim.Native.Nat.{ℕ, ◌≤◌, ◌<◌}
use lib.ListN.{length, take, get_or}
use Rattle.plan.specs.Lists.{total}
use Rattle.plan.specs.Parts.{part_of}
use Rattle.rowchecks.proofs.ranges.spread.Given as goal

-- the first q parts take the positions before `at`, and each of these has its part's range
pub record Spread (sizes firsts lasts lows₀ ends₀ lows ends : List ℕ) (at q : ℕ) : Type 0 where
  pub few : q ≤ length sizes
  pub reached : at ≡ total (take q sizes)
  pub lows-long : length lows ≡ length lows₀
  pub ends-long : length ends ≡ length ends₀
  pub low : (i : ℕ) → i < at → get_or lows i 0 ≡ get_or firsts (part_of sizes i) 0
  pub end : (i : ℕ) → i < at → get_or ends i 0 ≡ get_or lasts (part_of sizes i) 0

abbrev pub invariant-loop-q : goal.invariant-loop-q
invariant-loop-q l = Spread l.sizes l.firsts l.lasts l.initial.lows l.initial.ends l.lows l.ends l.at l.q
