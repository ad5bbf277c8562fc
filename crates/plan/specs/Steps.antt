-- Document 01, "One stretch of the dissection takes the state and gives back the next": the dissection one part at a time. A step is document 01's
-- stretch. The last region is cut first, so the parts chosen so far are always the last ones of the order. Nothing that is handed out depends on this
-- file; `Enough.StepsEnough` ties it to the dissection.
use Rattle.std.specs.Prelude.{cond, List, [], ◌∷◌, ◌++◌, map, reverse, ℕ, zero, suc, ◌-◌, eqb, length}
use Rattle.plan.specs.Lists.{below, without}
use Rattle.plan.specs.Mesh.{no_parent}
use Rattle.plan.specs.Levels.{Graph, components}

-- a region not yet dissected, and the parent that its part will have, counted in the order of choosing
pub record Pending : Type 0 where
  pub region : List ℕ
  pub parent : ℕ

-- the regions not yet dissected, the last one first; the parts chosen so far in the order of their numbers; to each its parent, counted in the order
-- of choosing
pub record State : Type 0 where
  pub pending : List Pending
  pub chosen : List (List ℕ)
  pub parents : List ℕ

-- regions below the same parent, the last one first
unfoldable pub pending_below : ℕ → List (List ℕ) → List Pending
pending_below parent regions = reverse (map (λ region. record { region = region; parent = parent }) regions)

unfoldable pub begin : Graph → ℕ → State
begin edge n = record { pending = pending_below no_parent (components edge (below n)); chosen = []; parents = [] }

-- one step, by the regions still pending
unfoldable pub step_with : Graph → (List ℕ → List ℕ) → List Pending → List (List ℕ) → List ℕ → State
step_with edge choose [] chosen parents = record { pending = []; chosen = chosen; parents = parents }
step_with edge choose (next ∷ others) chosen parents =
    let part : List ℕ = choose next.region in
    record {
      pending = pending_below (length chosen) (components edge (without part next.region)) ++ others;
      chosen = part ∷ chosen;
      parents = next.parent ∷ parents;
    }

-- the state with one more part chosen
unfoldable pub step : Graph → (List ℕ → List ℕ) → State → State
step edge choose s = step_with edge choose s.pending s.chosen s.parents

unfoldable pub steps : ℕ → Graph → (List ℕ → List ℕ) → State → State
steps zero edge choose s = s
steps (suc k) edge choose s = steps k edge choose (step edge choose s)

-- the parents by part number, once p parts are chosen: the one chosen as number k (from 0) is part p − 1 − k
unfoldable pub by_number : ℕ → List ℕ → List ℕ
by_number p parents = map (λ k. cond (eqb k no_parent) no_parent (p - 1 - k)) parents
