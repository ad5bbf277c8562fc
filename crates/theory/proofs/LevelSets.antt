-- Levels as sets: no two of them share a node, and from a root in the region they hold together just the root's component.
use mathlib.Core.Path.{◌≡◌, sym, ◌∙◌}
use mathlib.Core.Logic.{inl, inr}
use mathlib.Core.Bool.{true}
use mathlib.Core.List.{List, [], flatten}
use Prim.Native.Nat.{ℕ, zero, suc, ◌<◌}
use native.Mathlib.Omega.{arith}
use lib.ListN.{length, get_or, take}
use Rattle.plan.specs.Lists.{is_in}
use Rattle.plan.specs.Levels.{Graph, levels_back, levels, component}
use Rattle.theory.proofs.Bools.{clash, iff_eq, lt_or_le}
use Rattle.theory.proofs.Lists.{in_keep, of_keep}
use Rattle.theory.proofs.Flatten.{is_in-flatten-take, is_in-flatten-reverse}
use Rattle.theory.proofs.Levels.{levelled, reached-inside}
use Rattle.theory.proofs.LevelNumbers.{level-fresh}

module _ (edge : Graph) (region : List ℕ) (root : ℕ) where
  -- a node of a level is in no later one
  level-once : (i j v : ℕ) → i < j → j < length (levels edge region root)
      → is_in v (get_or (levels edge region root) i []) ≡ true → is_in v (get_or (levels edge region root) j []) ≡ true → ⊥
  level-once i zero v lt h a b = absurd (omega arith)
  level-once i (suc j) v lt h a b =
      clash (is_in v (flatten (take (suc j) (levels edge region root)))) (is_in-flatten-take (levels edge region root) (suc j) i v lt a) (level-fresh edge region root j h v b)

  -- two levels that share a node are one
  pub levels_disjoint : (i j v : ℕ) → i < length (levels edge region root) → j < length (levels edge region root)
      → is_in v (get_or (levels edge region root) i []) ≡ true → is_in v (get_or (levels edge region root) j []) ≡ true → i ≡ j
  levels_disjoint i j v hi hj a b = elim (lt_or_le i j) [
    | inl l ↦ absurd (level-once i j v l hj a b)
    | inr l ↦ elim (lt_or_le j i) [ inl m ↦ absurd (level-once j i v m hi b a) | inr m ↦ omega arith ]
  ]

  -- where the root is in the region, a node is in some level exactly where it is in the root's component in the region
  pub levels_cover : is_in root region ≡ true → (v : ℕ) → is_in v (flatten (levels edge region root)) ≡ is_in v (component edge region root)
  unfolding component levels
  levels_cover r v = iff_eq _ _
      (λ h. in_keep (λ w. is_in w (flatten (levels edge region root))) region v
      (reached-inside edge region root (levelled edge region root (length region)) r v (sym (is_in-flatten-reverse v (levels_back (length region) edge region root)) ∙ h)) h)
      (λ h. (of_keep (λ w. is_in w (flatten (levels edge region root))) region v h).1)
