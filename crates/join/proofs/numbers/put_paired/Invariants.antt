-- `join::numbers::put_paired` meets its contract: each turn stores where one more paired node goes.
use mathlib.Core.Path.{◌≡◌}
use mathlib.Core.List.{List}
use Prim.Native.Nat.{ℕ, ◌≤◌}
use lib.ListN.{length, drop, get_or}
use Rattle.join.proofs.Scattered.{Scattered}
use Rattle.join.proofs.numbers.put_paired.Given as goal

-- the first k pairs have been stored, and the two lists go on behind them
pub record Stored (first second ahead behind found left : List ℕ) : Type 0 where
  pub k : ℕ
  pub firsts : ahead ≡ drop k first
  pub seconds : behind ≡ drop k second
  pub few : k ≤ length second
  pub stored : Scattered second (λ i. get_or first i 0) found k left

abbrev pub invariant-loop-v : goal.invariant-loop-v
invariant-loop-v l = Stored l.pairs.first.now l.pairs.second.now l.v-iterator.a.rest.now l.v-iterator.b.rest.now l.initial.goes l.goes
