-- What touching nodes does to the numbers and the queue.
use Rattle.std.specs.Prelude.{◌≡◌, Bool, cond, ◌&&◌, List, ℕ, ◌+◌, ◌≤◌, ◌<◌, eqb, length, take, get_or}
use Rattle.plan.specs.Lists.{is_in, segment}
use Rattle.dissection.specs.Numbers.{fresh, fresh_of}

-- The numbers are long enough for n nodes, and the queue has room for every fresh node behind place `tail`, and for one more.
pub record Room (n : ℕ) (numbers queue : List ℕ) (tail : ℕ) : Type 0 where
  pub numbers_long : n ≤ length numbers
  pub room : tail + length (fresh_of n numbers) < length queue

-- whether v is fresh and touched
abbrev pub newly : List ℕ → (ℕ → Bool) → ℕ → Bool
newly numbers touched v = eqb (get_or numbers v 0) fresh && touched v

-- From numbers n₀ and a queue q₀ that is hi long, the fresh nodes among those touched have been given number x and put into the queue, which is now
-- tail long.
pub record Spread (n x hi : ℕ) (n₀ q₀ : List ℕ) (touched : ℕ → Bool) (n₁ q₁ : List ℕ) (tail : ℕ) : Type 0 where
  pub numbers : (v : ℕ) → get_or n₁ v 0 ≡ cond (newly n₀ touched v) x (get_or n₀ v 0)
  pub queued : (v : ℕ) → is_in v (segment q₁ hi tail) ≡ newly n₀ touched v
  pub kept : take hi q₁ ≡ take hi q₀
  pub numbers_length : length n₁ ≡ length n₀
  pub queue_length : length q₁ ≡ length q₀
  pub left : Room n n₁ q₁ tail
  pub low : hi ≤ tail
  -- each once
  pub many : tail + length (fresh_of n n₁) ≡ hi + length (fresh_of n n₀)
