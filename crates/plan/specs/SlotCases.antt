-- Document 02, E4: slots of worked layouts, and the reply to the question about each, in one table, with the one statement that every row holds.
use Rattle.std.specs.Prelude.{Bool, true, ◌≡◌, refl, List, [], ◌∷◌, ℕ}
use Rattle.plan.specs.Lists.{every}
use Rattle.plan.specs.Answers.{Reply, accepted, refused}
use Rattle.plan.specs.Questions.{slot_question}
use Rattle.plan.specs.Everything.{everything}
use Rattle.plan.specs.Starred.{same_reply}

pub data SlotRow : Type 0 where
  -- n, column starts, rows and a slot's number, and the reply to the question about it
  asked : (n : ℕ) → (column_starts rows : List ℕ) → (slot : ℕ) → (expected : Reply) → SlotRow

unfoldable pub slot_holds : SlotRow → Bool
slot_holds (asked n column_starts rows s expected) = same_reply (slot_question n column_starts rows s) expected

-- the pair that is found: row, then column
abbrev pub pair : ℕ → ℕ → Reply
pair row column = accepted (row ∷ column ∷ [])

-- the layout of mesh 4, the path 0-1-2-3-4
abbrev pub path_starts : List ℕ
path_starts = 0 ∷ 1 ∷ 2 ∷ 4 ∷ 5 ∷ 5 ∷ []

abbrev pub path_rows : List ℕ
path_rows = 1 ∷ 4 ∷ 3 ∷ 4 ∷ 4 ∷ []

-- the same rows, with more behind them than there are slots
abbrev pub long_rows : List ℕ
long_rows = 1 ∷ 4 ∷ 3 ∷ 4 ∷ 4 ∷ 4 ∷ 0 ∷ 9 ∷ []

-- the layout of five nodes that are all next to one another
abbrev pub full_starts : List ℕ
full_starts = 0 ∷ 4 ∷ 7 ∷ 9 ∷ 10 ∷ 10 ∷ []

abbrev pub full_rows : List ℕ
full_rows = 1 ∷ 2 ∷ 3 ∷ 4 ∷ 2 ∷ 3 ∷ 4 ∷ 3 ∷ 4 ∷ 4 ∷ []

unfoldable pub slots : List SlotRow
slots =
    -- each slot of mesh 4, and the first number that is none
    asked 5 path_starts path_rows 0 (pair 1 0)
    ∷ asked 5 path_starts path_rows 1 (pair 4 1)
    ∷ asked 5 path_starts path_rows 2 (pair 3 2)
    ∷ asked 5 path_starts path_rows 3 (pair 4 2)
    ∷ asked 5 path_starts path_rows 4 (pair 4 3)
    ∷ asked 5 path_starts path_rows 5 (refused 27)
    -- rows behind the last start are no slots: 27 at the number of slots, between it and the rows' length, at this length and above it
    ∷ asked 5 path_starts long_rows 4 (pair 4 3)
    ∷ asked 5 path_starts long_rows 5 (refused 27)
    ∷ asked 5 path_starts long_rows 7 (refused 27)
    ∷ asked 5 path_starts long_rows 8 (refused 27)
    ∷ asked 5 path_starts long_rows 9 (refused 27)
    -- more slots than positions: every pair has one
    ∷ asked 5 full_starts full_rows 3 (pair 4 0)
    ∷ asked 5 full_starts full_rows 6 (pair 4 1)
    ∷ asked 5 full_starts full_rows 9 (pair 4 3)
    ∷ asked 5 full_starts full_rows 10 (refused 27)
    -- columns without rows before the column that holds the slot, whose start is theirs, and behind it
    ∷ asked 4 (0 ∷ 0 ∷ 0 ∷ 1 ∷ 1 ∷ []) (3 ∷ []) 0 (pair 3 2)
    ∷ asked 5 (0 ∷ 1 ∷ 1 ∷ 1 ∷ 2 ∷ 2 ∷ []) (2 ∷ 4 ∷ []) 0 (pair 2 0)
    ∷ asked 5 (0 ∷ 1 ∷ 1 ∷ 1 ∷ 2 ∷ 2 ∷ []) (2 ∷ 4 ∷ []) 1 (pair 4 3)
    ∷ asked 5 (0 ∷ 1 ∷ 1 ∷ 1 ∷ 2 ∷ 2 ∷ []) (2 ∷ 4 ∷ []) 2 (refused 27)
    -- no slot at all
    ∷ asked 1 (0 ∷ 0 ∷ []) [] 0 (refused 27)
    -- 1 before 22 and 27; 4,096 nodes are not too many
    ∷ asked 0 [] [] 0 (refused 1)
    ∷ asked 4097 [] [] 0 (refused 1)
    ∷ asked 4096 [] [] 0 (refused 22)
    -- 22 before 27: starts too few, too many, falling, not from 0; rows too few; a column that breaks 17's rule, behind the slot asked about too
    ∷ asked 5 (0 ∷ 1 ∷ 2 ∷ 4 ∷ 5 ∷ []) path_rows 9 (refused 22)
    ∷ asked 5 (0 ∷ 1 ∷ 2 ∷ 4 ∷ 5 ∷ 5 ∷ 5 ∷ []) path_rows 9 (refused 22)
    ∷ asked 5 (0 ∷ 1 ∷ 2 ∷ 4 ∷ 5 ∷ 4 ∷ []) path_rows 4 (refused 22)
    ∷ asked 3 (1 ∷ 2 ∷ 2 ∷ 2 ∷ []) (1 ∷ 2 ∷ []) 0 (refused 22)
    ∷ asked 5 path_starts (1 ∷ 4 ∷ 3 ∷ 4 ∷ []) 0 (refused 22)
    ∷ asked 5 path_starts (1 ∷ 4 ∷ 3 ∷ 4 ∷ []) 5 (refused 22)
    ∷ asked 5 path_starts (1 ∷ 4 ∷ 4 ∷ 3 ∷ 4 ∷ []) 0 (refused 22)
    ∷ asked 5 path_starts (1 ∷ 4 ∷ 4 ∷ 3 ∷ 4 ∷ []) 5 (refused 22)
    ∷ asked 3 (0 ∷ 0 ∷ 1 ∷ 1 ∷ []) (1 ∷ []) 0 (refused 22)
    ∷ asked 3 (0 ∷ 0 ∷ 1 ∷ 1 ∷ []) (3 ∷ []) 0 (refused 22)
    ∷ []

-- every row of the table holds
pub answered : every slot_holds slots ≡ true
unfolding everything slot_holds slots same_reply
answered = refl
