-- The state of the dissection as it stands in its arrays, and what is read from it when it is done.
use Rattle.std.specs.Prelude.{◌≡◌, ◌≢◌, ◌⊎◌, true, not, cond, ℕ, suc, ◌-◌, ◌≤◌, ◌<◌, eqb, length, take, drop, replicate, get_or}
use mathlib.Core.List.{List, [], ◌∷◌, ◌++◌, flatten, reverse}
use Rattle.plan.specs.Lists.{keep, is_in}
use Rattle.plan.specs.Mesh.{max_nodes, no_parent, Mesh, adjacent}
use Rattle.plan.specs.Choice.{george_liu}
use Rattle.plan.specs.Dissection.{parts, parents, order}
use Rattle.plan.specs.Steps.{State, begin, steps, by_number}
use Rattle.plan.specs.Planning.{dissection_of}
use Rattle.theory.specs.Balanced.{regions_of, parents_of}
use Rattle.mesh.specs.Lists.{filled_with}
use Rattle.dissection.specs.Numbers.{Only}

-- what stands at the places of a block that are not its first
abbrev pub inner : ℕ
inner = 65534

-- The heads of blocks that stand one after the other: at a block's first place its parent, `inner` at the others.
abbrev pub heads_of : List (List ℕ) → List ℕ → List ℕ
heads_of [] parents = []
heads_of (block ∷ blocks) [] = []
heads_of (block ∷ blocks) (parent ∷ parents) = (parent ∷ replicate (length block - 1) inner) ++ heads_of blocks parents

-- the state of the book after `parts` steps
unfoldable pub state_after : Mesh → ℕ → State
state_after m parts = steps parts (adjacent m) (george_liu m) (begin (adjacent m) m.nodes)

-- The arrays hold a state of the book: the pending regions one after the other up to place `left`, the one to be cut next last, and then the chosen
-- parts by number. Behind the nodes the order has 0, and no block begins.
pub record Holds (m : Mesh) (s : State) (orderHeld heads : List ℕ) (left : ℕ) : Type 0 where
  pub order : take m.nodes orderHeld ≡ flatten (reverse (regions_of s.pending)) ++ flatten s.chosen
  pub marks : take m.nodes heads ≡ heads_of (reverse (regions_of s.pending)) (reverse (parents_of s.pending)) ++ heads_of s.chosen s.parents
  pub pending : left ≡ length (flatten (reverse (regions_of s.pending)))
  pub order_rest : drop m.nodes orderHeld ≡ drop m.nodes (filled_with 0)
  pub heads_rest : drop m.nodes heads ≡ drop m.nodes (filled_with inner)
  pub order_long : length orderHeld ≡ max_nodes
  pub heads_long : length heads ≡ max_nodes

-- what is asked of the lent arrays before each step: no node is in a set, and there is a place for each node, and one more in the queue and for the
-- places where blocks begin
pub record Lent (n : ℕ) (numbers queue begins : List ℕ) : Type 0 where
  pub only : Only n [] numbers
  pub numbers_long : n ≤ length numbers
  pub queue_long : n < length queue
  pub begins_long : n < length begins

-- The state when nothing is pending, whole: the order of the book and 0 behind it, the heads of its parts with the parents counted in the order of
-- choosing and no block behind them, no place left, and as many parts as the book has. By number, the parents are those of the book.
pub record Dissected (m : Mesh) (orderHeld heads : List ℕ) (left count : ℕ) : Type 0 where
  pub order : take m.nodes orderHeld ≡ order (dissection_of m)
  pub order_rest : drop m.nodes orderHeld ≡ drop m.nodes (filled_with 0)
  pub marks : take m.nodes heads ≡ heads_of (parts (dissection_of m)) (state_after m count).parents
  pub heads_rest : drop m.nodes heads ≡ drop m.nodes (filled_with inner)
  pub finished : left ≡ 0
  pub many : count ≡ length (parts (dissection_of m))
  pub parents : by_number count (state_after m count).parents ≡ parents (dissection_of m)
  pub order_long : length orderHeld ≡ max_nodes
  pub heads_long : length heads ≡ max_nodes

-- how many places at the front are inner ones
abbrev pub leading : List ℕ → ℕ
leading [] = 0
leading (h ∷ hs) = cond (eqb h inner) (suc (leading hs)) 0

-- the sizes of the blocks that begin in a list of heads
abbrev pub block_sizes : List ℕ → List ℕ
block_sizes [] = []
block_sizes (h ∷ hs) = cond (eqb h inner) (block_sizes hs) (suc (leading hs) ∷ block_sizes hs)

-- their parents
abbrev pub block_parents : List ℕ → List ℕ
block_parents hs = keep (λ h. not (eqb h inner)) hs

-- heads of `count` blocks: the first place is a block's, and a parent is none or one of them
pub record Heads (hs : List ℕ) (count : ℕ) : Type 0 where
  pub begins : get_or hs 0 inner ≢ inner
  pub many : length (block_parents hs) ≡ count
  pub known : (h : ℕ) → is_in h (block_parents hs) ≡ true → (h ≡ no_parent) ⊎ (h < count)
