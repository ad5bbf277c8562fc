-- `layout::counts::write_starts` meets its contract: each turn writes one more running sum.
use mathlib.Core.Path.{◌≡◌}
use mathlib.Core.List.{List}
use Prim.Native.Nat.{ℕ, ◌*◌, ◌≤◌}
use lib.ListN.{length, take}
use Rattle.plan.specs.Lists.{total, running_sums, written}
use Rattle.layout.proofs.counts.write_starts.Given as goal

-- the starts of the first j columns, and where the next one starts
pub record Started (n : ℕ) (counts found starts : List ℕ) (start j : ℕ) : Type 0 where
  pub low : j ≤ n
  pub next : start ≡ total (take j counts)
  pub few : start ≤ 65535 * j
  pub sums : starts ≡ written (running_sums 0 (take j counts)) found
  pub long : length starts ≡ length found

abbrev pub invariant-loop-j : goal.invariant-loop-j
invariant-loop-j l = Started l.n (take l.n l.counts) l.initial.column_starts l.column_starts l.start l.j
