-- What the theorems say of the state of the steps.
use Rattle.std.specs.Prelude.{◌≡◌, ◌⊎◌, Bool, true, ℕ, ◌+◌, ◌<◌, ◌-◌, length, get_or}
use mathlib.Core.List.{List, flatten, map}
use Rattle.plan.specs.Lists.{is_in, below}
use Rattle.plan.specs.Mesh.{no_parent}
use Rattle.plan.specs.Steps.{State, Pending}
use Rattle.plan.specs.Levels.{Graph}
use Rattle.theory.specs.Counting.{count}
use Rattle.theory.specs.Regions.{All, Region}

-- the pending regions
abbrev pub regions_of : List Pending → List (List ℕ)
regions_of pending = map (λ q. q.region) pending

-- the parents that the pending regions' parts will have
abbrev pub parents_of : List Pending → List ℕ
parents_of pending = map (λ q. q.parent) pending

-- no parent, or one of the first k parts chosen
abbrev pub ParentBefore : ℕ → ℕ → Type 0
ParentBefore k parent = (parent ≡ no_parent) ⊎ (parent < k)

-- What holds of every state that the steps from the first regions of n nodes reach. Parents are counted in the order of choosing, as by the steps.
pub record Balanced (edge : Graph) (n : ℕ) (s : State) : Type 0 where
  -- every pending region is a region: it has a node, it stands ascending, and it is connected
  pub regions : All (Region edge) (regions_of s.pending)
  -- every test counts alike in the nodes of the pending regions with those of the chosen parts, and in 0 .. n − 1: they are these, each once
  pub counts : (p : ℕ → Bool) → count p (flatten (regions_of s.pending)) + count p (flatten s.chosen) ≡ count p (below n)
  -- every chosen part has a node
  pub filled : All (λ part. 0 < length part) s.chosen
  -- each chosen part has its parent
  pub as_many : length s.parents ≡ length s.chosen
  -- the part of a pending region will have no parent, or one that is chosen already
  pub pending_parents : (parent : ℕ) → is_in parent (parents_of s.pending) ≡ true → ParentBefore (length s.chosen) parent
  -- A chosen part has no parent, or one chosen before it. At place i stands the part chosen as number (chosen parts) − 1 − i, the last one at 0.
  pub parents : (i : ℕ) → i < length s.parents → ParentBefore (length s.chosen - 1 - i) (get_or s.parents i 0)
