-- What the theorems of E8 and E9 ask of a layout: what checks 17 and 19 say of a plan's column starts and rows.
use Rattle.std.specs.Prelude.{◌≡◌, true, false, List, ℕ, ◌≤◌, ◌<◌, length, get_or}
use Rattle.plan.specs.Lists.{list_at}
use Rattle.plan.specs.File.{bad_column, covered}
use Rattle.theory.specs.Checked.{Starts}

pub record Covering (n : ℕ) (column_starts rows : List ℕ) : Type 0 where
  -- 17
  pub starts : Starts n column_starts
  pub fits : get_or column_starts n 0 ≤ length rows
  pub rule : (j : ℕ) → j < n → bad_column n j (list_at column_starts rows j) ≡ false
  -- 19
  pub covers : (j : ℕ) → j < n → covered column_starts rows (list_at column_starts rows j) ≡ true
