-- What the functions' contracts cite of a plan, besides the book: plans of some of their lists, and checks 15 and 16 by themselves.
use Rattle.std.specs.Prelude.{List, [], ◌∷◌, ℕ, length}
use Rattle.plan.specs.Refusals.{Checks}
use Rattle.plan.specs.Planning.{Contents, contents}
use Rattle.plan.specs.File.{bad_order, bad_parts}

-- a plan of its three counts alone: what check 13 looks at
abbrev pub counts_only : ℕ → ℕ → ℕ → Contents
counts_only n p s = contents 1 n p s [] [] [] [] []

-- a plan of its order and its tree of parts: what checks 15 and 16 look at
abbrev pub order_and_parts : ℕ → List ℕ → List ℕ → List ℕ → Contents
order_and_parts n order sizes parents = contents 1 n (length sizes) 0 order sizes parents [] []

abbrev pub order_and_parts_checks : Contents → Checks
order_and_parts_checks c = (15, bad_order c) ∷ (16, bad_parts c) ∷ []
