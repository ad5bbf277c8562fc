-- The walk of checks 17 and 18 (document 02, E6): what it carries before the first column and behind one more, and that the answers stay.
use mathlib.Core.Path.{◌≡◌, refl}
use mathlib.Core.Bool.{Bool, true, false, ◌||◌}
use Prim.Native.Nat.{ℕ, ◌+◌}
use native.Mathlib.Omega.{arith}
use lib.ListN.{get_or}
use borrow.Author.Tests.{eq-eqb}
use Rattle.plan.specs.Lists.{list_at}
use Rattle.plan.specs.Refusals.{first_fault}
use Rattle.plan.specs.Planning.{Contents}
use Rattle.plan.specs.File.{bad_column, bad_columns, bad_rows, outside_ancestors, not_nested}
use Rattle.plan.specs.RowFaults.{bad_columns_below, outside_below, Carried, walk_answer, AnswersStay}
use Rattle.theory.proofs.Scans.{exists-next}

module _ (c : Contents) where
  -- before the first column there is no fault
  pub carried_none : Carried 0 c false false
  unfolding bad_columns_below outside_below
  carried_none = record { seventeen = refl; eighteen = refl }

  -- behind column k those of its rows are added
  pub carried_more : (k : ℕ) (unordered outside : Bool) → Carried k c unordered outside
      → Carried (k + 1) c (unordered || bad_column c.nodes k (list_at c.column_starts c.rows k))
      (outside || outside_ancestors c.sizes c.parents k (list_at c.column_starts c.rows k))
  unfolding bad_columns_below outside_below
  carried_more k unordered outside h = record {
    seventeen = rw (h.seventeen, exists-next (λ j. bad_column c.nodes j (list_at c.column_starts c.rows j)) k);
    eighteen = rw (h.eighteen, exists-next (λ j. outside_ancestors c.sizes c.parents j (list_at c.column_starts c.rows j)) k);
  }

  -- behind the last, they are those of the whole plan
  pub carried_columns : (unordered outside : Bool) → Carried c.nodes c unordered outside → unordered ≡ bad_columns c.nodes c.column_starts c.rows
  unfolding bad_columns_below bad_columns
  carried_columns unordered outside h = h.seventeen

  carried_nested : (unordered outside : Bool) → Carried c.nodes c unordered outside → outside ≡ not_nested c
  unfolding outside_below not_nested
  carried_nested unordered outside h = h.eighteen

-- "every file gets the answer it got before"
pub answers_stay : AnswersStay
unfolding walk_answer first_fault bad_rows
answers_stay c unordered outside starts last h =
    rw (carried_columns c unordered outside h, carried_nested c unordered outside h, starts, eq-eqb (get_or c.column_starts c.nodes 0) c.slots last)

-- no answer: no fault of 17
pub answer-ordered : (unordered outside : Bool) → walk_answer unordered outside ≡ 0 → unordered ≡ false
unfolding walk_answer
answer-ordered true outside e = absurd (omega arith)
answer-ordered false outside e = refl
