-- A column at work and all columns: what is asked of the plan and of both buffers, and what the buffers hold on the way and afterwards.
use Rattle.std.specs.Prelude.{◌≡◌, List, ℕ, ◌+◌, ◌-◌, ◌≤◌, ◌<◌, length, get_or, Float, Result}
use Rattle.plan.specs.declared.Report.{Report}
use Rattle.plan.specs.declared.refusal.Refusal.{Refusal}
use Rattle.plan.specs.Lists.{up_from}
use Rattle.plan.specs.Mesh.{max_nodes}
use Rattle.plan.specs.Factoring.{pairs, subtracted, factor_column, factor_reply, FactorOutcome}
use Rattle.theory.specs.Covering.{Covering}
use Rattle.factor.specs.Down.{Keeps, above32}

-- ---- a row, and rows one after the other

-- slot s of some column, whose slots are first .. to: the plan passes checks 17 and 19, and everything that is lent is long enough
pub record AtRow (starts rows : List ℕ) (n room kept lower first s to : ℕ) : Type 0 where
  pub plan : Covering n starts rows
  pub j : ℕ
  pub column : j < n
  pub start : first ≡ get_or starts j 0
  pub end : to ≡ get_or starts (j + 1) 0
  pub low : first ≤ s
  pub high : s < to
  pub slots : length rows ≡ room
  pub few : length rows < above32
  pub room_kept : to - first ≤ kept
  pub room_lower : to - first ≤ lower

-- The rows in slots s .. r are worked: what is left to subtract from slot r on gives what was to be found from slot s on, whatever v and l are kept.
pub record Advanced (starts rows : List ℕ) (kept lower : List Float) (first to s r : ℕ) (diagonal values diagonal' values' : List Float) : Type 0 where
  pub low : s ≤ r
  pub high : r ≤ to
  pub long_diagonal : length diagonal' ≡ length diagonal
  pub long_values : length values' ≡ length values
  pub same : (v l : List Float) → Keeps kept v first to → Keeps lower l first to
      → subtracted starts rows v l (pairs (up_from s (to - s))) (record { diagonal = diagonal; values = values })
      ≡ subtracted starts rows v l (pairs (up_from r (to - r))) (record { diagonal = diagonal'; values = values' })

-- two columns, the first of which has a row
pub record Twins (starts rows : List ℕ) (k next : ℕ) : Type 0 where
  pub known : k + 1 < length starts
  pub known_next : next + 1 < length starts
  pub rising : get_or starts k 0 ≤ get_or starts (k + 1) 0
  pub rising_next : get_or starts next 0 ≤ get_or starts (next + 1) 0
  pub some : get_or starts k 0 < length rows
  pub inside_next : get_or starts (next + 1) 0 ≤ length rows
  pub few : length rows < above32

-- ---- a column

-- column j can be worked
pub record Ready (starts rows : List ℕ) (n room kept lower places j : ℕ) : Type 0 where
  pub plan : Covering n starts rows
  pub column : j < n
  pub slots : length rows ≡ room
  pub few : length rows < above32
  pub room_kept : n ≤ kept
  pub room_lower : n ≤ lower
  pub room_places : n ≤ places

-- both buffers after a column's work
pub record Worked (starts rows : List ℕ) (j : ℕ) (d : Float) (diagonal values diagonal' values' : List Float) : Type 0 where
  pub diagonal_left : diagonal' ≡ (factor_column starts rows j d (record { diagonal = diagonal; values = values })).diagonal
  pub values_left : values' ≡ (factor_column starts rows j d (record { diagonal = diagonal; values = values })).values

-- ---- all columns

-- a plan that passes the checks, and buffers of the lengths needed
pub record Lent (starts rows : List ℕ) (diagonal values : List Float) : Type 0 where
  pub plan : Covering (length diagonal) starts rows
  pub few : length diagonal ≤ max_nodes
  pub few_slots : length rows < above32
  pub slots : length rows ≡ length values

-- the answer and both buffers of an outcome
pub record Reached (o : FactorOutcome) (answer : Result Report Refusal) (diagonal values : List Float) : Type 0 where
  pub reply : factor_reply answer ≡ o.answer
  pub diagonal_left : diagonal ≡ o.filling.diagonal
  pub values_left : values ≡ o.filling.values
