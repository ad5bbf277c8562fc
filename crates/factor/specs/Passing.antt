-- What the passes of the solution ask of a plan and its filling.
use Rattle.std.specs.Prelude.{◌≡◌, List, ℕ, ◌<◌, length}
use Rattle.theory.specs.Covering.{Covering}
use Rattle.factor.specs.Down.{above32}

-- a plan that passes the checks, for a vector n long, and a value for each of its slots
pub record Filled (starts rows : List ℕ) (values n : ℕ) : Type 0 where
  pub plan : Covering n starts rows
  pub slots : length rows ≡ values
  pub few : length rows < above32
