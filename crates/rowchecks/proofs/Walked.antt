-- What the walk carries behind one more column, by the ranges of the positions: as before where the column is sound, else with its faults added.
use mathlib.Core.Path.{◌≡◌, refl, sym, ap, subst, ◌∙◌}
use mathlib.Core.Bool.{Bool, true, false, not, ◌||◌}
use mathlib.Core.List.{List}
use Prim.Native.Nat.{ℕ, ◌+◌, ◌<◌}
use borrow.Author.Tests.{not-true}
use Rattle.plan.specs.Lists.{list_at}
use Rattle.plan.specs.Parts.{part_of, at_or_above}
use Rattle.plan.specs.Planning.{Contents}
use Rattle.plan.specs.File.{bad_column, outside_ancestors}
use Rattle.plan.specs.RowFaults.{Carried}
use Rattle.theory.proofs.Bools.{or_false_left, or_false_right}
use Rattle.theory.proofs.Lists.{exists_ext}
use Rattle.theory.proofs.RowFaults.{carried_more}
use Rattle.rowchecks.specs.Rows.{parts_and_rows, reaches, outside_ranges, Ranges}

-- nothing added is no change
or_nothing : (a b : Bool) → b ≡ false → (a || b) ≡ a
or_nothing true b e = refl
or_nothing false b e = e

module _ (n : ℕ) (sizes parents lows ends column_starts rows : List ℕ) (h : Ranges n sizes parents lows ends) (j : ℕ) (lt : j < n) where
  -- the plan, and column j's rows
  abbrev plan : Contents
  plan = parts_and_rows n sizes parents column_starts rows

  abbrev column : List ℕ
  column = list_at column_starts rows j

  -- 18's rule is told by the ranges
  outside_is : outside_ranges n lows ends j column ≡ outside_ancestors sizes parents j column
  unfolding outside_ancestors
  outside_is =
      exists_ext (λ i. not (reaches n lows ends j i)) (λ i. not (at_or_above parents (part_of sizes j) (part_of sizes i))) column
      (λ i m. ap not (h.exact j i lt))

  -- a list that is these rows, and what is carried before the column
  module _ (l : List ℕ) (same : l ≡ column) (unordered outside : Bool) (before : Carried j plan unordered outside) where
    -- the faults of the rows are added
    pub column_added : (bad out : Bool) → bad ≡ bad_column n j l → out ≡ outside_ranges n lows ends j l → Carried (j + 1) plan (unordered || bad) (outside || out)
    column_added bad out b o = rw (b, o, same, outside_is) (carried_more plan j unordered outside before)

    -- sound ones have none
    pub column-sound : (sound : Bool) → sound ≡ not (bad_column n j l || outside_ranges n lows ends j l) → sound ≡ true → Carried (j + 1) plan unordered outside
    column-sound sound e t =
        let bad : Bool = bad_column n j l in
        let out : Bool = outside_ranges n lows ends j l in
        let none : (bad || out) ≡ false = not-true (bad || out) (sym e ∙ t) in
        subst (λ (u : Bool). Carried (j + 1) plan u outside) (or_nothing unordered bad (or_false_left bad out none))
        (subst (λ (o : Bool). Carried (j + 1) plan (unordered || bad) o) (or_nothing outside out (or_false_right bad out none))
        (column_added bad out refl refl))
