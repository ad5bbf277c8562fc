-- `dissection::parts::write_parts` meets its contract: the loop passes one block in each turn, and writes its size and its parent.
use mathlib.Core.Path.{◌≡◌}
use mathlib.Core.List.{List}
use Prim.Native.Nat.{ℕ, ◌≤◌}
use lib.ListN.{length, take}
use Rattle.plan.specs.Lists.{written}
use Rattle.plan.specs.Steps.{by_number}
use Rattle.dissection.specs.Blocks.{block_sizes, block_parents}
use Rattle.dissection.proofs.Heads.{Passed}
use Rattle.dissection.proofs.parts.write_parts.Given as goal

-- q blocks are passed, and what is read of them is written
pub record Turn (hs : List ℕ) (count : ℕ) (sizes₀ parents₀ sizes parents : List ℕ) (at q : ℕ) : Type 0 where
  pub passed : Passed hs at q
  pub low : q ≤ count
  pub sizes_long : length sizes ≡ length sizes₀
  pub parents_long : length parents ≡ length parents₀
  pub sizes_so : sizes ≡ written (take q (block_sizes hs)) sizes₀
  pub parents_so : parents ≡ written (take q (by_number count (block_parents hs))) parents₀

abbrev pub invariant-loop-q : goal.invariant-loop-q
invariant-loop-q l = Turn (take l.n l.heads) l.count l.initial.sizes l.initial.parents l.sizes l.parents l.at l.q
