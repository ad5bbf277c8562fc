-- The part of a position, by passing over the parts before it one after the other.
use mathlib.Core.Path.{◌≡◌}
use mathlib.Core.List.{List}
use Prim.Native.Nat.{ℕ, suc, ◌+◌, ◌-◌, ◌≤◌, ◌<◌}
use native.Mathlib.Numerals.{add-one}
use lib.ListN.{length, get_or, drop, drop_of_length-le}
use lib.Seq.{drop-cons}
use Rattle.plan.specs.Parts.{part_of}
use Rattle.theory.proofs.PartOf.{part-first, part-next}

module _ (sizes : List ℕ) (q left : ℕ) where
  -- what is left lies in part q
  pub part_here : q < length sizes → left < get_or sizes q 0 → part_of (drop q sizes) left ≡ 0
  part_here h lt = rw (drop-cons sizes q 0 h) (part-first (get_or sizes q 0) (drop (suc q) sizes) left lt)

  -- or behind it
  pub part-behind : q < length sizes → get_or sizes q 0 ≤ left → part_of (drop q sizes) left ≡ suc (part_of (drop (q + 1) sizes) (left - get_or sizes q 0))
  part-behind h le = rw (drop-cons sizes q 0 h, add-one) (part-next (get_or sizes q 0) (drop (suc q) sizes) left le)

  -- there is no part any more
  pub part_none : length sizes ≤ q → part_of (drop q sizes) left ≡ 0
  unfolding part_of
  part_none h = rw (drop_of_length-le sizes h)
