-- How many elements of a list pass a test, and lists in which every test counts alike.
use Rattle.std.specs.Prelude.{◌≡◌, Bool, List, ℕ, length}
use Rattle.plan.specs.Lists.{keep, below}

-- how many elements pass
abbrev pub count : (ℕ → Bool) → List ℕ → ℕ
count p l = length (keep p l)

-- two lists hold the same numbers, equally often
abbrev pub Alike : List ℕ → List ℕ → Type 0
Alike xs ys = (p : ℕ → Bool) → count p xs ≡ count p ys

-- an order holds each of n nodes once
abbrev pub Order : ℕ → List ℕ → Type 0
Order n order = Alike order (below n)
