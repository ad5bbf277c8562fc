-- Document 02, E6: "checks 17 and 18 shall share one walk over the rows". What the walk carries, column after column, and that the answers stay.
use Rattle.std.specs.Prelude.{◌≡◌, Bool, false, cond, [], ◌∷◌, ℕ, get_or}
use Rattle.plan.specs.Lists.{exists, below, list_at}
use Rattle.plan.specs.Refusals.{Checks, first_fault}
use Rattle.plan.specs.Mesh.{bad_starts}
use Rattle.plan.specs.Planning.{Contents}
use Rattle.plan.specs.File.{bad_column, bad_rows, outside_ancestors, not_nested}

-- "whether a fault of 17 .. stands in the rows walked so far": some column below k breaks 17's rule of the rows
unfoldable pub bad_columns_below : ℕ → Contents → Bool
bad_columns_below k c = exists (λ j. bad_column c.nodes j (list_at c.column_starts c.rows j)) (below k)

-- "and whether one of 18": some column below k has a row outside the column's part and that part's ancestors. Behind 16 a row of n or more lies in no
-- part, so it is outside.
unfoldable pub outside_below : ℕ → Contents → Bool
outside_below k c = exists (λ j. outside_ancestors c.sizes c.parents j (list_at c.column_starts c.rows j)) (below k)

-- "after each column, what the walk carries tells exactly" both: the two facts that it carries after the columns below k
pub record Carried (k : ℕ) (c : Contents) (unordered outside : Bool) : Type 0 where
  pub seventeen : unordered ≡ bad_columns_below k c
  pub eighteen : outside ≡ outside_below k c

-- the answer at the walk's end, 0 for none: "17 still wins wherever it stands"
unfoldable pub walk_answer : Bool → Bool → ℕ
walk_answer unordered outside = cond unordered 17 (cond outside 18 0)

-- checks 17 and 18 as document 01 has them, each over the whole plan
abbrev pub walk_checks : Contents → Checks
walk_checks c = (17, bad_rows c) ∷ (18, not_nested c) ∷ []

-- "every file gets the answer it got before": where the column starts, which are checked without a look at the rows, have no fault of 17, what is carried
-- over all columns gives the first fault of the two checks. Where they have one, the answer is 17 before the walk.
abbrev pub AnswersStay : Type 0
AnswersStay =
    (c : Contents) (unordered outside : Bool) → bad_starts c.nodes c.column_starts ≡ false → get_or c.column_starts c.nodes 0 ≡ c.slots
    → Carried c.nodes c unordered outside
    → walk_answer unordered outside ≡ first_fault (walk_checks c)
