-- What the theorems of E10 ask of pairs: what checks 32 and 33 say of them.
use Rattle.std.specs.Prelude.{◌≡◌, true, false, ℕ, ◌<◌, length}
use Rattle.plan.specs.Lists.{is_in, twice}
use Rattle.plan.specs.Joining.{Pairing}

pub record Paired (n₁ n₂ : ℕ) (p : Pairing) : Type 0 where
  -- 32
  pub as_many : length p.first ≡ length p.second
  pub in_first : (v : ℕ) → is_in v p.first ≡ true → v < n₁
  pub in_second : (w : ℕ) → is_in w p.second ≡ true → w < n₂
  -- 33
  pub once_first : twice p.first ≡ false
  pub once_second : twice p.second ≡ false
