-- Document 01, "Two questions over a layout (n, column starts, rows)", and the companion of the second; document 02, E4, from slot back to pair.
-- A question is named after what is asked about: the pair question gives a slot, and the slot question a pair.
use Rattle.std.specs.Prelude.{Bool, cond, ◌&&◌, ◌||◌, ℕ, zero, suc, ◌+◌, ◌-◌, min, max, leb, ltb, eqb, length, get_or, take, drop}
use mathlib.Core.List.{List, [], ◌∷◌, ◌++◌, head_d}
use Rattle.plan.specs.declared.Span.{Span}
use Rattle.plan.specs.Lists.{exists, keep, below, is_in, index_of, list_at}
use Rattle.plan.specs.Refusals.{Checks, first_fault}
use Rattle.plan.specs.Answers.{Reply, accepted, refused, slot_case, diagonal_case, no_slot_case}
use Rattle.plan.specs.Mesh.{bad_node_count, bad_starts}
use Rattle.plan.specs.File.{bad_columns}

-- 22: "starts not n + 1 long, first not 0, falling, last above the rows' length, or rows failing 17's rule". Rows behind the last start are not
-- looked at.
unfoldable pub bad_layout : ℕ → List ℕ → List ℕ → Bool
bad_layout n column_starts rows =
    bad_starts n column_starts || ltb (length rows) (get_or column_starts n 0) || bad_columns n column_starts rows

-- "A question checks 1, 22, then 21": the first two
unfoldable pub layout_checks : ℕ → List ℕ → List ℕ → Checks
layout_checks n column_starts rows = (1, bad_node_count n) ∷ (22, bad_layout n column_starts rows) ∷ []

-- 21: a position is n or more
unfoldable pub position_outside : ℕ → List ℕ → Bool
position_outside n asked = exists (leb n) asked

unfoldable pub position_checks : ℕ → List ℕ → Checks
position_checks n asked = (21, position_outside n asked) ∷ []

-- the checks of a question about some positions
unfoldable pub question_checks : ℕ → List ℕ → List ℕ → List ℕ → Checks
question_checks n column_starts rows asked = layout_checks n column_starts rows ++ position_checks n asked

-- the slot of row i of column j: "Slots are numbered from 0, column after column."
unfoldable pub slot_of : List ℕ → List ℕ → ℕ → ℕ → List ℕ
slot_of column_starts rows i j =
    let r : List ℕ = list_at column_starts rows j in
    cond (is_in i r) (slot_case ∷ (get_or column_starts j 0 + index_of i r) ∷ []) (no_slot_case ∷ [])

-- by the number of the first fault: "a pair of positions, in either order, gives its slot, "diagonal" or "no slot""
unfoldable pub pair_found : ℕ → List ℕ → List ℕ → ℕ → ℕ → Reply
pair_found zero column_starts rows a b = accepted (cond (eqb a b) (diagonal_case ∷ []) (slot_of column_starts rows (max a b) (min a b)))
pair_found (suc k) column_starts rows a b = refused (suc k)

-- the first question: the slot of a pair of positions
unfoldable pub pair_question : ℕ → List ℕ → List ℕ → ℕ → ℕ → Reply
pair_question n column_starts rows a b =
    pair_found (first_fault (question_checks n column_starts rows (a ∷ b ∷ []))) column_starts rows a b

-- the companion question: "gives the number (0 if none)"
unfoldable pub column_refusal : ℕ → List ℕ → List ℕ → ℕ → ℕ
column_refusal n column_starts rows j = first_fault (question_checks n column_starts rows (j ∷ []))

-- by the number of the first fault: "a column's rows are shown as a stretch of the rows buffer itself. Where the second question is refused, the
-- stretch is empty"
unfoldable pub span_found : ℕ → List ℕ → ℕ → Span
span_found zero column_starts j = record { start = get_or column_starts j 0; count = get_or column_starts (j + 1) 0 - get_or column_starts j 0 }
-- document 01 leaves open where an empty stretch lies; the span then starts at 0
span_found (suc k) column_starts j = record { start = 0; count = 0 }

-- the second question: which span (document 01: stretch) it is, and what stands in it
unfoldable pub column_span : ℕ → List ℕ → List ℕ → ℕ → Span
column_span n column_starts rows j = span_found (column_refusal n column_starts rows j) column_starts j

unfoldable pub column_rows : ℕ → List ℕ → List ℕ → ℕ → List ℕ
column_rows n column_starts rows j =
    let s : Span = column_span n column_starts rows j in
    take s.count (drop s.start rows)

-- 27: "a slot number not below the number of slots", which is column start n
unfoldable pub slot_outside : ℕ → List ℕ → ℕ → Bool
slot_outside n column_starts s = leb (get_or column_starts n 0) s

-- the checks of the question about a slot: "27 a slot number not below the number of slots, after 22"
unfoldable pub slot_checks : ℕ → List ℕ → List ℕ → ℕ → Checks
slot_checks n column_starts rows s = layout_checks n column_starts rows ++ (27, slot_outside n column_starts s) ∷ []

-- whether slot s is one of column j's: "Slots are numbered from 0, column after column."
unfoldable pub holds_slot : List ℕ → ℕ → ℕ → Bool
holds_slot column_starts s j = leb (get_or column_starts j 0) s && ltb s (get_or column_starts (j + 1) 0)

-- the column that holds slot s; in a layout there is just one
unfoldable pub column_of : ℕ → List ℕ → ℕ → ℕ
column_of n column_starts s = head_d (keep (holds_slot column_starts s) (below n)) 0

-- by the number of the first fault: "the workshop knows its slot number and wants the row and the column". The row is the later position.
unfoldable pub slot_found : ℕ → ℕ → List ℕ → List ℕ → ℕ → Reply
slot_found zero n column_starts rows s = accepted (get_or rows s 0 ∷ column_of n column_starts s ∷ [])
slot_found (suc k) n column_starts rows s = refused (suc k)

-- the third question: the pair of a slot
unfoldable pub slot_question : ℕ → List ℕ → List ℕ → ℕ → Reply
slot_question n column_starts rows s = slot_found (first_fault (slot_checks n column_starts rows s)) n column_starts rows s
