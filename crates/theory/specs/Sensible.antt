-- What the theorems ask of a rule of cutting.
use Rattle.std.specs.Prelude.{◌≡◌, false, List, ℕ, ◌<◌}
use Rattle.plan.specs.Choice.{Settings}
use Rattle.theory.specs.Counting.{Alike}

-- A region that is cut is cut at a level strictly between its first and its last, and the numbering of a separator only changes its order.
pub record Sensible (settings : Settings) : Type 0 where
  pub between : (region : List ℕ) (l : ℕ) → settings.whole region l ≡ false → (0 < settings.level l) × (settings.level l < l)
  pub reorders : (nodes : List ℕ) → Alike (settings.numbered nodes) nodes
