-- Roots with their last and their widest levels.
use Rattle.std.specs.Prelude.{◌≡◌, ◌≢◌, true, List, ℕ}
use Rattle.plan.specs.Lists.{is_in}
use Rattle.plan.specs.Mesh.{Mesh, adjacent}
use Rattle.plan.specs.Levels.{eccentricity, width}
use Rattle.dissection.specs.Numbers.{Only}
use Rattle.dissection.specs.Standing.{Standing}

-- a root of the region, and the number of its last level
pub record Rooted (m : Mesh) (nodes : List ℕ) (root last : ℕ) : Type 0 where
  pub inside : is_in root nodes ≡ true
  pub far : last ≡ eccentricity (adjacent m) nodes root

-- and the node count of its widest level
pub record Measured (m : Mesh) (nodes : List ℕ) (root last widest : ℕ) : Type 0 where
  pub rooted : Rooted m nodes root last
  pub wide : widest ≡ width (adjacent m) nodes root

-- the root after one turn of the search from the root `before`: where it is another one, its levels stand in the numbers
pub record Better (m : Mesh) (nodes : List ℕ) (before root last widest : ℕ) (numbers : List ℕ) : Type 0 where
  pub measured : Measured m nodes root last widest
  pub only : Only m.nodes nodes numbers
  pub standing : root ≢ before → Standing m nodes root numbers
