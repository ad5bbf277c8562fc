-- `filechecks::order::bad_parents` meets its contract: the loop tries each parent.
use mathlib.Core.Bool.{Bool, not}
use mathlib.Core.List.{List}
use Prim.Native.Nat.{ℕ}
use lib.ListN.{length, get_or}
use Rattle.plan.specs.File.{may_be_parent}
use Rattle.theory.proofs.Scans.{Clear}
use Rattle.filechecks.proofs.order.bad_parents.Given as goal

-- whether part q's parent may not be
abbrev pub bad : List ℕ → ℕ → Bool
bad parents q = not (may_be_parent (length parents) q (get_or parents q 0))

abbrev pub invariant-loop-q : goal.invariant-loop-q
invariant-loop-q l = Clear (bad l.parents) l.q
