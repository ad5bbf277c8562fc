-- An array that tells where the nodes of the second mesh go: the paired ones first, then the others.
use Rattle.std.specs.Prelude.{◌≡◌, cond, List, ℕ, ◌+◌, ◌<◌, eqb, length, get_or}
use Rattle.plan.specs.Lists.{below}
use Rattle.plan.specs.Mesh.{max_nodes}
use Rattle.plan.specs.Joining.{Pairing, goes_to}
use Rattle.mesh.specs.Lists.{none}
use Rattle.theory.specs.Counting.{count}

-- whether a node has gone nowhere yet, and how many before node w have not
abbrev pub waiting : List ℕ → ℕ → ℕ
waiting goes w = count (λ x. eqb (get_or goes x 0) none) (below w)

-- where node w goes, if the waiting ones follow from n₁ on in their order
abbrev pub following : ℕ → List ℕ → ℕ → ℕ
following n₁ goes w = cond (eqb (get_or goes w 0) none) (n₁ + waiting goes w) (get_or goes w 0)

-- an array that tells where each node of the second mesh goes
pub record Destinations (n₁ n₂ : ℕ) (p : Pairing) (goes : List ℕ) : Type 0 where
  pub long : length goes ≡ max_nodes
  pub each : (w : ℕ) → w < n₂ → get_or goes w 0 ≡ goes_to n₁ p w
