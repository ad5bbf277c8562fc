-- `layout::counts::sum` meets its contract: each turn adds one column, and the sums stay far below 32 and 64 bits.
use mathlib.Core.Path.{◌≡◌}
use mathlib.Core.List.{List}
use Prim.Native.Nat.{ℕ, ◌*◌, ◌≤◌}
use lib.ListN.{take}
use Rattle.plan.specs.Lists.{total}
use Rattle.plan.specs.Elimination.{multiplications}
use Rattle.layout.proofs.counts.sum.Given as goal

-- the sums over the first j columns
pub record Summed (n : ℕ) (counts : List ℕ) (sumSlots sumProducts j : ℕ) : Type 0 where
  pub low : j ≤ n
  pub slots : sumSlots ≡ total (take j counts)
  pub products : sumProducts ≡ multiplications (take j counts)
  pub slots_few : sumSlots ≤ 65535 * j
  pub products_few : sumProducts ≤ 2147516415 * j

abbrev pub invariant-loop-count : goal.invariant-loop-count
invariant-loop-count l = Summed l.n (take l.n l.counts) l.slots l.multiplications l.count-index
