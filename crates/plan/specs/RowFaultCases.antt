-- Document 02, E6: parts and rows of small plans, what the walk carries after each column, and the answer, in one table, with the one statement that
-- every row holds.
use Rattle.std.specs.Prelude.{Bool, true, cond, ◌&&◌, ◌≡◌, refl, List, [], ◌∷◌, ◌++◌, ℕ, ◌+◌, eqb, length, get_or}
use Rattle.plan.specs.Lists.{every, below, running_sums, same}
use Rattle.plan.specs.Refusals.{first_fault}
use Rattle.plan.specs.Mesh.{no_parent}
use Rattle.plan.specs.Planning.{Contents, contents}
use Rattle.plan.specs.File.{contents_checks}
use Rattle.plan.specs.RowFaults.{bad_columns_below, outside_below, walk_answer}
use Rattle.plan.specs.Everything.{everything}

pub data WalkRow : Type 0 where
  -- part sizes and parents, each column's row count, and the rows, none of them a fault of 19; the faults carried before the first column and after
  -- each; the answer
  walked : (sizes parents counts rows : List ℕ) → (carried : List (List ℕ)) → (answer : ℕ) → WalkRow

-- the plan whose order is 0, 1, .., with one unknown for each node
abbrev pub plan_in : List ℕ → List ℕ → List ℕ → List ℕ → Contents
plan_in sizes parents counts rows =
    contents 1 (length counts) (length sizes) (length rows) (below (length counts)) sizes parents (running_sums 0 counts) rows

-- the faults carried after the columns below k, as numbers
abbrev pub faults_after : Contents → ℕ → List ℕ
faults_after c k = cond (bad_columns_below k c) (17 ∷ []) [] ++ cond (outside_below k c) (18 ∷ []) []

unfoldable pub walk_holds : WalkRow → Bool
walk_holds (walked sizes parents counts rows carried answer) =
    let c : Contents = plan_in sizes parents counts rows in
    let n : ℕ = c.nodes in
    eqb (length carried) (n + 1) && every (λ k. same (faults_after c k) (get_or carried k [])) (below (n + 1))
    && eqb (walk_answer (bad_columns_below n c) (outside_below n c)) answer && eqb (first_fault (contents_checks c)) answer

-- no fault, one of either, and both
abbrev pub none : List ℕ
none = []

abbrev pub only17 : List ℕ
only17 = 17 ∷ []

abbrev pub only18 : List ℕ
only18 = 18 ∷ []

abbrev pub both : List ℕ
both = 17 ∷ 18 ∷ []

-- parts of two trees by turns: 0 below 2, 1 below 3
abbrev pub crossed : List ℕ
crossed = 2 ∷ 3 ∷ no_parent ∷ no_parent ∷ []

abbrev pub ones : List ℕ
ones = 1 ∷ 1 ∷ 1 ∷ 1 ∷ []

abbrev pub apart : List ℕ
apart = no_parent ∷ no_parent ∷ no_parent ∷ []

-- five parts of one position, and five parts without parent
abbrev pub five : List ℕ
five = 1 ∷ 1 ∷ 1 ∷ 1 ∷ 1 ∷ []

abbrev pub five_apart : List ℕ
five_apart = no_parent ∷ no_parent ∷ no_parent ∷ no_parent ∷ no_parent ∷ []

unfoldable pub walks : List WalkRow
walks =
    -- the plan of mesh 4: no fault
    walked (2 ∷ 2 ∷ 1 ∷ []) (2 ∷ 2 ∷ no_parent ∷ []) (1 ∷ 1 ∷ 2 ∷ 1 ∷ 0 ∷ []) (1 ∷ 4 ∷ 3 ∷ 4 ∷ 4 ∷ []) (none ∷ none ∷ none ∷ none ∷ none ∷ none ∷ []) 0
    -- a row of n or more breaks both rules: it lies in no part
    ∷ walked (2 ∷ []) (no_parent ∷ []) (1 ∷ 0 ∷ []) (7 ∷ []) (none ∷ both ∷ both ∷ []) 17
    ∷ walked (2 ∷ []) (no_parent ∷ []) (1 ∷ 0 ∷ []) (2 ∷ []) (none ∷ both ∷ both ∷ []) 17
    -- a row in another part: mesh 12
    ∷ walked (1 ∷ 1 ∷ []) (no_parent ∷ no_parent ∷ []) (1 ∷ 0 ∷ []) (1 ∷ []) (none ∷ only18 ∷ only18 ∷ []) 18
    -- 18 in column 0, then 17 in column 1 or 2: 17 wins
    ∷ walked (1 ∷ 1 ∷ 1 ∷ []) apart (1 ∷ 1 ∷ 0 ∷ []) (1 ∷ 1 ∷ []) (none ∷ only18 ∷ both ∷ both ∷ []) 17
    ∷ walked (1 ∷ 1 ∷ 1 ∷ []) apart (1 ∷ 0 ∷ 1 ∷ []) (1 ∷ 2 ∷ []) (none ∷ only18 ∷ only18 ∷ both ∷ []) 17
    -- 17 in column 0, then 18 in column 1, which is still told
    ∷ walked (1 ∷ 1 ∷ 1 ∷ []) apart (1 ∷ 1 ∷ 0 ∷ []) (0 ∷ 2 ∷ []) (none ∷ only17 ∷ both ∷ both ∷ []) 17
    -- 18 alone, in column 1, and in both columns
    ∷ walked (1 ∷ 1 ∷ 1 ∷ []) apart (0 ∷ 1 ∷ 0 ∷ []) (2 ∷ []) (none ∷ none ∷ only18 ∷ only18 ∷ []) 18
    ∷ walked (1 ∷ 1 ∷ 1 ∷ []) apart (1 ∷ 1 ∷ 0 ∷ []) (2 ∷ 2 ∷ []) (none ∷ only18 ∷ only18 ∷ only18 ∷ []) 18
    -- rows that do not ascend, in the part and outside it; a row given twice
    ∷ walked (3 ∷ []) (no_parent ∷ []) (2 ∷ 0 ∷ 0 ∷ []) (2 ∷ 1 ∷ []) (none ∷ only17 ∷ only17 ∷ only17 ∷ []) 17
    ∷ walked (2 ∷ 1 ∷ []) (no_parent ∷ no_parent ∷ []) (2 ∷ 0 ∷ 0 ∷ []) (2 ∷ 1 ∷ []) (none ∷ both ∷ both ∷ both ∷ []) 17
    ∷ walked (2 ∷ 1 ∷ []) (no_parent ∷ no_parent ∷ []) (2 ∷ 0 ∷ 0 ∷ []) (1 ∷ 1 ∷ []) (none ∷ only17 ∷ only17 ∷ only17 ∷ []) 17
    -- a row that is the column itself, in its own part; one before it, in a part below
    ∷ walked (2 ∷ []) (no_parent ∷ []) (0 ∷ 1 ∷ []) (1 ∷ []) (none ∷ none ∷ only17 ∷ []) 17
    ∷ walked (1 ∷ 1 ∷ []) (1 ∷ no_parent ∷ []) (0 ∷ 1 ∷ []) (0 ∷ []) (none ∷ none ∷ both ∷ []) 17
    -- of two rows the second is outside, and the first
    ∷ walked (1 ∷ 1 ∷ 1 ∷ []) (1 ∷ no_parent ∷ no_parent ∷ []) (2 ∷ 0 ∷ 0 ∷ []) (1 ∷ 2 ∷ []) (none ∷ only18 ∷ only18 ∷ only18 ∷ []) 18
    ∷ walked (1 ∷ 1 ∷ 1 ∷ []) (2 ∷ no_parent ∷ no_parent ∷ []) (2 ∷ 0 ∷ 0 ∷ []) (1 ∷ 2 ∷ []) (none ∷ only18 ∷ only18 ∷ only18 ∷ []) 18
    -- a row in the grandparent, and one in a part beside the parent
    ∷ walked ones (1 ∷ 3 ∷ 3 ∷ no_parent ∷ []) (1 ∷ 0 ∷ 0 ∷ 0 ∷ []) (3 ∷ []) (none ∷ none ∷ none ∷ none ∷ none ∷ []) 0
    ∷ walked ones (1 ∷ 3 ∷ 3 ∷ no_parent ∷ []) (1 ∷ 0 ∷ 0 ∷ 0 ∷ []) (2 ∷ []) (none ∷ only18 ∷ only18 ∷ only18 ∷ only18 ∷ []) 18
    -- parts of two trees by turns: rows in the parent, in a part of the other tree, and a row before its column
    ∷ walked ones crossed (1 ∷ 1 ∷ 0 ∷ 0 ∷ []) (2 ∷ 3 ∷ []) (none ∷ none ∷ none ∷ none ∷ none ∷ []) 0
    ∷ walked ones crossed (1 ∷ 1 ∷ 0 ∷ 0 ∷ []) (2 ∷ 2 ∷ []) (none ∷ none ∷ only18 ∷ only18 ∷ only18 ∷ []) 18
    ∷ walked ones crossed (1 ∷ 1 ∷ 1 ∷ 0 ∷ []) (3 ∷ 3 ∷ 1 ∷ []) (none ∷ only18 ∷ only18 ∷ both ∷ both ∷ []) 17
    -- the fault of 17 in the last column
    ∷ walked ones crossed (1 ∷ 0 ∷ 0 ∷ 1 ∷ []) (1 ∷ 3 ∷ []) (none ∷ only18 ∷ only18 ∷ only18 ∷ both ∷ []) 17
    -- rows of which only the last two do not ascend, and only the first two
    ∷ walked (4 ∷ []) (no_parent ∷ []) (3 ∷ 0 ∷ 0 ∷ 0 ∷ []) (1 ∷ 3 ∷ 2 ∷ []) (none ∷ only17 ∷ only17 ∷ only17 ∷ only17 ∷ []) 17
    ∷ walked (4 ∷ []) (no_parent ∷ []) (3 ∷ 0 ∷ 0 ∷ 0 ∷ []) (2 ∷ 1 ∷ 3 ∷ []) (none ∷ only17 ∷ only17 ∷ only17 ∷ only17 ∷ []) 17
    -- a row of n or more behind a good one; before a good one a row before the column, in its own part
    ∷ walked (2 ∷ []) (no_parent ∷ []) (2 ∷ 0 ∷ []) (1 ∷ 7 ∷ []) (none ∷ both ∷ both ∷ []) 17
    ∷ walked (3 ∷ []) (no_parent ∷ []) (0 ∷ 2 ∷ 0 ∷ []) (0 ∷ 2 ∷ []) (none ∷ none ∷ only17 ∷ only17 ∷ []) 17
    -- 18 is still told behind a row that breaks 17's rule: where the rows stop ascending, and behind the column itself
    ∷ walked (1 ∷ 1 ∷ 1 ∷ []) (2 ∷ no_parent ∷ no_parent ∷ []) (2 ∷ 0 ∷ 0 ∷ []) (2 ∷ 1 ∷ []) (none ∷ both ∷ both ∷ both ∷ []) 17
    ∷ walked (1 ∷ 1 ∷ 1 ∷ []) apart (0 ∷ 2 ∷ 0 ∷ []) (1 ∷ 2 ∷ []) (none ∷ none ∷ both ∷ both ∷ []) 17
    -- of three rows only the third is outside, and only the second
    ∷ walked (3 ∷ 1 ∷ []) (no_parent ∷ no_parent ∷ []) (3 ∷ 0 ∷ 0 ∷ 0 ∷ []) (1 ∷ 2 ∷ 3 ∷ []) (none ∷ only18 ∷ only18 ∷ only18 ∷ only18 ∷ []) 18
    ∷ walked ones (1 ∷ 3 ∷ no_parent ∷ no_parent ∷ []) (3 ∷ 0 ∷ 0 ∷ 0 ∷ []) (1 ∷ 2 ∷ 3 ∷ []) (none ∷ only18 ∷ only18 ∷ only18 ∷ only18 ∷ []) 18
    -- five parts, each below the next: rows in the second ancestor and in the last
    ∷ walked five (1 ∷ 2 ∷ 3 ∷ 4 ∷ no_parent ∷ []) (2 ∷ 0 ∷ 1 ∷ 0 ∷ 0 ∷ []) (2 ∷ 4 ∷ 4 ∷ []) (none ∷ none ∷ none ∷ none ∷ none ∷ none ∷ []) 0
    -- the plan of mesh 5: rows at both positions of the parent
    ∷ walked (1 ∷ 1 ∷ 2 ∷ []) (2 ∷ 2 ∷ no_parent ∷ []) (2 ∷ 2 ∷ 1 ∷ 0 ∷ []) (2 ∷ 3 ∷ 2 ∷ 3 ∷ 3 ∷ []) (none ∷ none ∷ none ∷ none ∷ none ∷ []) 0
    -- position 1 lies in part 0, which has no parent; part 1 has one
    ∷ walked (2 ∷ 1 ∷ 1 ∷ []) (no_parent ∷ 2 ∷ no_parent ∷ []) (0 ∷ 1 ∷ 0 ∷ 0 ∷ []) (3 ∷ []) (none ∷ none ∷ only18 ∷ only18 ∷ only18 ∷ []) 18
    -- the first fault of each in a column far behind
    ∷ walked five five_apart (0 ∷ 0 ∷ 1 ∷ 0 ∷ 1 ∷ []) (3 ∷ 4 ∷ []) (none ∷ none ∷ none ∷ only18 ∷ only18 ∷ both ∷ []) 17
    ∷ walked five five_apart (0 ∷ 0 ∷ 0 ∷ 1 ∷ 0 ∷ []) (4 ∷ []) (none ∷ none ∷ none ∷ none ∷ only18 ∷ only18 ∷ []) 18
    ∷ walked five five_apart (0 ∷ 0 ∷ 0 ∷ 0 ∷ 1 ∷ []) (0 ∷ []) (none ∷ none ∷ none ∷ none ∷ none ∷ both ∷ []) 17
    ∷ []

-- every row of the table holds
pub told : every walk_holds walks ≡ true
unfolding everything walk_holds walks
told = refl
