-- A block of pairs: their keys stand at the front of a buffer, and the lines behind it are left.
use Rattle.std.specs.Prelude.{◌≡◌, List, ◌++◌, ℕ, ◌≤◌, ◌<◌, length}
use Rattle.plan.specs.Lists.{written}
use Rattle.plan.specs.MatrixMarket.{Line}
use Rattle.matrix_market.specs.declared.repeats.Block.{Block}
use Rattle.lexer.specs.Suffixes.{lines_at}
use Rattle.matrix_market.specs.Lines.{keys_in}

pub record Blocked (text : List ℕ) (at : ℕ) (r : Block) (found left : List ℕ) : Type 0 where
  pub front : List Line
  pub lines : lines_at text at ≡ front ++ lines_at text r.next
  pub many : r.count ≡ length front
  pub keys : left ≡ written (keys_in front) found
  pub fits : r.count ≤ length found
  pub within : r.next ≤ length text
  pub moved : at < length text → 0 < length found → at < r.next
