-- What the working arrays of the dissection hold: a number for each node, and the places where lists begin.
use Rattle.std.specs.Prelude.{◌≡◌, true, false, cond, ℕ, ◌+◌, ◌≤◌, ◌<◌, eqb, length, take, get_or, set}
use mathlib.Core.List.{List, [], map, flatten}
use Rattle.plan.specs.Lists.{keep, below, is_in, ascending}
use Rattle.plan.specs.Levels.{Graph, levels, width, component, components}
use Rattle.theory.specs.Places.{begin_of}

-- the number of a node that is in the set at hand and was not reached yet
abbrev pub fresh : ℕ
fresh = 65535

-- the number of a node that is not in it
abbrev pub outside : ℕ
outside = 65534

-- nodes that stand ascending, all below n
pub record Within (n : ℕ) (nodes : List ℕ) : Type 0 where
  pub ascends : ascending nodes ≡ true
  pub inside : (v : ℕ) → is_in v nodes ≡ true → v < n

-- the set at hand: the fresh nodes, ascending
abbrev pub fresh_of : ℕ → List ℕ → List ℕ
fresh_of n numbers = keep (λ v. eqb (get_or numbers v 0) fresh) (below n)

-- every node that is not in a list has the number `outside`
abbrev pub Only : ℕ → List ℕ → List ℕ → Type 0
Only n nodes numbers = (v : ℕ) → v < n → is_in v nodes ≡ false → get_or numbers v 0 ≡ outside

-- each node of list j has number j, every other node the number that it had
pub record Numbered (lists : List (List ℕ)) (old new : List ℕ) : Type 0 where
  pub own : (j v : ℕ) → is_in v (get_or lists j []) ≡ true → get_or new v 0 ≡ j
  pub others : (v : ℕ) → is_in v (flatten lists) ≡ false → get_or new v 0 ≡ get_or old v 0

-- each node v of a list has the number `number v`, every other node the number that it had
abbrev pub NumberedBy : (ℕ → ℕ) → List ℕ → List ℕ → List ℕ → Type 0
NumberedBy number nodes old new = (v : ℕ) → get_or new v 0 ≡ cond (is_in v nodes) (number v) (get_or old v 0)

-- each node of a list has the number that f makes of its old one, every other node the number that it had
abbrev pub Renumbered : (ℕ → ℕ) → List ℕ → List ℕ → List ℕ → Type 0
Renumbered f nodes old new = NumberedBy (λ v. f (get_or old v 0)) nodes old new

-- nodes by their numbers: those with number 0, those with number 1, .., `count` lists in all, each in the order of the nodes
abbrev pub grouped : ℕ → List ℕ → List ℕ → List (List ℕ)
grouped count numbers nodes = map (λ c. keep (λ v. eqb (get_or numbers v 0) c) nodes) (below count)

-- the places where lists begin, and the place where the last one ends
abbrev pub Begins : ℕ → List (List ℕ) → List ℕ → Type 0
Begins at lists begins = (c : ℕ) → c ≤ length lists → get_or begins c 0 ≡ begin_of at lists c

-- What a walk from a root in a set leaves: the numbers of the levels, and in the queue the nodes reached.
pub record Walked (n : ℕ) (edge : Graph) (set : List ℕ) (root : ℕ) (old new queue : List ℕ) (last widest reached : ℕ) : Type 0 where
  pub numbered : Numbered (levels edge set root) old new
  -- the number of the last level
  pub count : length (levels edge set root) ≡ last + 1
  pub deep : last < n
  -- the node count of the widest one
  pub wide : widest ≡ width edge set root
  -- the nodes reached are the root's component, and they stand in the queue, each once
  pub members : (v : ℕ) → is_in v (take reached queue) ≡ is_in v (component edge set root)
  pub many : reached ≡ length (component edge set root)
  pub few : reached ≤ n

-- What the component of node v leaves where v is not fresh: everything as it was.
pub record Skipped (v : ℕ) (old new begins₀ begins₁ : List ℕ) (count after : ℕ) : Type 0 where
  pub reached : eqb (get_or old v 0) fresh ≡ false
  pub numbers : new ≡ old
  pub begins : begins₁ ≡ begins₀
  pub total : after ≡ count

-- What it leaves where v is fresh: each node of v's component in the fresh nodes has the number `count`, every other node the number that it had,
-- and the place behind the component is noted.
pub record Taken (n : ℕ) (edge : Graph) (v : ℕ) (old new begins₀ begins₁ : List ℕ) (count after : ℕ) : Type 0 where
  pub unreached : get_or old v 0 ≡ fresh
  pub numbers : Renumbered (λ _. count) (component edge (fresh_of n old) v) old new
  pub begins : begins₁ ≡ set begins₀ (count + 1) (get_or begins₀ count 0 + length (component edge (fresh_of n old) v))
  pub total : after ≡ count + 1

-- What labelling leaves: each node of component c of the fresh nodes has number c, and the components begin where they are to stand. The nodes that
-- were not fresh have the numbers that they had.
pub record Labelled (n : ℕ) (edge : Graph) (nodes : List ℕ) (at : ℕ) (old new begins : List ℕ) (count : ℕ) : Type 0 where
  pub groups : grouped count new nodes ≡ components edge (fresh_of n old)
  pub begin : Begins at (components edge (fresh_of n old)) begins
  pub others : (v : ℕ) → is_in v (fresh_of n old) ≡ false → get_or new v 0 ≡ get_or old v 0
  -- no node is left fresh
  pub done : (v : ℕ) → is_in v (fresh_of n old) ≡ true → get_or new v 0 < count
  pub many : count ≡ length (components edge (fresh_of n old))
  pub few : count ≤ n
