-- What the theorems say of the regions that a set falls into.
use Rattle.std.specs.Prelude.{◌≡◌, true, Bool, ℕ, ◌+◌, ◌<◌, length}
use mathlib.Core.List.{List, [], ◌∷◌, head_d, flatten}
use Rattle.plan.specs.Lists.{is_in, without, ascending}
use Rattle.plan.specs.Levels.{Graph}
use Rattle.theory.specs.Counting.{count}

-- P holds of each list
abbrev pub All : (List ℕ → Type 0) → List (List ℕ) → Type 0
All P [] = Unit {0}
All P (l ∷ ls) = P l × All P ls

-- no edge leads from one of them to a later one
abbrev pub Apart : Graph → List (List ℕ) → Type 0
Apart edge [] = Unit {0}
Apart edge (l ∷ ls) =
    ((a b : ℕ) → is_in a l ≡ true → is_in b (flatten ls) ≡ true → edge a b ≡ true → ⊥) × Apart edge ls

-- a path from one node to another, each node after the first in the set
pub data Walk (edge : Graph) (nodes : List ℕ) : ℕ → ℕ → Type 0 where
  stay : {a : ℕ} → Walk edge nodes a a
  go : {a b c : ℕ} → Walk edge nodes a b → edge b c ≡ true → is_in c nodes ≡ true → Walk edge nodes a c

-- a path from the first node of a list to each of its nodes, inside it
abbrev pub Connected : Graph → List ℕ → Type 0
Connected edge c = (w : ℕ) → is_in w c ≡ true → Walk edge c (head_d c 0) w

-- "A region is a connected component of the nodes not yet chosen": it has a node, it stands ascending, and it is connected.
pub record Region (edge : Graph) (r : List ℕ) : Type 0 where
  pub some : 0 < length r
  pub ascends : ascending r ≡ true
  pub connected : Connected edge r

-- A choice that takes a non-empty part from each region: the part has a node, and with what is left it makes up the region.
pub record Takes (edge : Graph) (choose : List ℕ → List ℕ) : Type 0 where
  pub some : (r : List ℕ) → Region edge r → 0 < length (choose r)
  pub rest : (r : List ℕ) → Region edge r → (p : ℕ → Bool) → count p (choose r) + count p (without (choose r) r) ≡ count p r
