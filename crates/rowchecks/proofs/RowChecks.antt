-- Checks 17 to 19 told from what the walk carries: its answer is that of 17 and 18, and where it is none 19 is left.
use mathlib.Core.Path.{◌≡◌, refl, sym, ◌∙◌}
use mathlib.Core.Logic.{◌≢◌}
use mathlib.Core.Bool.{Bool, false, cond}
use mathlib.Core.List.{List, [], ◌∷◌}
use Prim.Native.Nat.{ℕ}
use lib.ListN.{get_or}
use Rattle.plan.specs.Refusals.{first_fault}
use Rattle.plan.specs.Mesh.{bad_starts}
use Rattle.plan.specs.Planning.{Contents}
use Rattle.plan.specs.File.{not_covered}
use Rattle.plan.specs.RowFaults.{Carried, walk_answer, walk_checks}
use Rattle.theory.proofs.Refusals.{first_some, first-none}
use Rattle.theory.proofs.RowFaults.{answers_stay}
use Rattle.rowchecks.specs.Rows.{parts_and_rows, row_checks}

module _ (c : Contents) (unordered outside : Bool) (starts : bad_starts c.nodes c.column_starts ≡ false) (last : get_or c.column_starts c.nodes 0 ≡ c.slots)
    (carried : Carried c.nodes c unordered outside) where
  -- an answer of 17 or 18
  pub walk_refused : (k : ℕ) → k ≢ 0 → k ≡ walk_answer unordered outside → k ≡ first_fault (row_checks c)
  walk_refused k some e =
      let told : k ≡ first_fault (walk_checks c) = e ∙ answers_stay c unordered outside starts last carried in
      told ∙ sym (first_some (walk_checks c) _ (λ z. some (told ∙ z)))

  -- none: 19 is left
  pub walk_passed : 0 ≡ walk_answer unordered outside → first_fault (row_checks c) ≡ cond (not_covered c) 19 0
  unfolding first_fault
  walk_passed e = first-none (walk_checks c) ((19, not_covered c) ∷ []) refl (sym (e ∙ answers_stay c unordered outside starts last carried))

-- 19 does not look at the parts
pub covered_rows : (n : ℕ) (sizes parents column_starts rows : List ℕ)
    → not_covered (parts_and_rows n [] [] column_starts rows) ≡ not_covered (parts_and_rows n sizes parents column_starts rows)
unfolding not_covered
covered_rows n sizes parents column_starts rows = refl
