-- The reader of the workshop that never updates: version 1 of the plan file as document 01 has it; and what is stated of it beside the reader of
-- versions 1 and 2 (document 02, E7).
use Rattle.std.specs.Prelude.{Bool, not, ◌≡◌, ◌≢◌, List, [], ◌∷◌, ◌++◌, ℕ, ◌≤◌, eqb, length, take, Ok}
use Rattle.plan.specs.Refusals.{Checks, first_fault}
use Rattle.plan.specs.Planning.{Contents, Capacity, buffers_too_short, rows_too_short, Outcome, hand_out}
use Rattle.plan.specs.File.{magic, version_of, length_in, parse_at, bad_header, contents_checks}
use Rattle.plan.specs.Reading.{too_few_bytes, bad_magic, reading}
use Rattle.plan.specs.Writing.{writing, Wrote}
use Rattle.plan.specs.RoundTrips.{handed}

-- what it takes bytes to say: "5 to 8: n"; "a node has one unknown, and no plan says so"
unfoldable pub parse1 : List ℕ → Contents
parse1 bytes = parse_at 5 1 bytes

-- its 12: version not 1
unfoldable pub not_version1 : List ℕ → Bool
not_version1 bytes = not (eqb (version_of bytes) 1)

-- its 14: length differs from the formula
unfoldable pub bad_length1 : List ℕ → Bool
bad_length1 bytes = not (eqb (length bytes) (length_in 1 (parse1 bytes)))

-- "reading 10 to 19, then 8, 9"
unfoldable pub read_checks1 : List ℕ → Capacity → Checks
read_checks1 bytes room =
    (10, too_few_bytes bytes)
    ∷ (11, bad_magic bytes)
    ∷ (12, not_version1 bytes)
    ∷ (13, bad_header (parse1 bytes))
    ∷ (14, bad_length1 bytes)
    ∷ (contents_checks (parse1 bytes) ++ ((8, buffers_too_short (parse1 bytes).nodes room) ∷ (9, rows_too_short (parse1 bytes) room) ∷ []))

-- an outcome whose answer has nodes, parts, slots and multiplications alone: "no plan says so"
unfoldable pub untold : Outcome → Outcome
untold o = record {
  reply = record { number = o.reply.number; values = take 4 o.reply.values };
  order = o.order;
  positions = o.positions;
  sizes = o.sizes;
  parents = o.parents;
  column_starts = o.column_starts;
  rows = o.rows;
}

-- that reader, whole
unfoldable pub reading1 : List ℕ → Capacity → Outcome
reading1 bytes room = untold (hand_out (first_fault (read_checks1 bytes room)) (parse1 bytes))

-- "The workshop that never updates must answer 12 to every version 2 file of 17 bytes or more", whatever stands behind the version.
abbrev pub RefusesVersion2 : Type 0
RefusesVersion2 =
    (bytes : List ℕ) (room : Capacity)
    → 17 ≤ length bytes → take 3 bytes ≡ magic → version_of bytes ≡ 2
    → reading1 bytes room ≡ hand_out 12 (parse1 bytes)

-- So it answers 12 to everything that the writer writes,
abbrev pub RefusesWritten : Type 0
RefusesWritten =
    (c : Contents) (output : ℕ) (room : Capacity)
    → (writing c output).reply.number ≡ 0
    → reading1 (writing c output).bytes room ≡ hand_out 12 (parse1 (writing c output).bytes)

-- and to what any writer wrote that keeps the promise of writing.
abbrev pub RefusesWrote : Type 0
RefusesWrote =
    (c : Contents) (size : ℕ) (found bytes : List ℕ) (room : Capacity)
    → Wrote c (Ok size) found bytes
    → reading1 (take size bytes) room ≡ hand_out 12 (parse1 (take size bytes))

-- Every other file gets the same answer of both readers, and leaves the same in every buffer; the one that knows version 2 tells the unknowns beside.
abbrev pub SameButVersion2 : Type 0
SameButVersion2 =
    (bytes : List ℕ) (room : Capacity)
    → (17 ≤ length bytes → take 3 bytes ≡ magic → version_of bytes ≢ 2)
    → untold (reading bytes room) ≡ reading1 bytes room

-- "The new reader takes version 1 as one unknown."
abbrev pub Version1IsOne : Type 0
Version1IsOne =
    (bytes : List ℕ) (room : Capacity)
    → version_of bytes ≡ 1 → (reading bytes room).reply.number ≡ 0
    → (handed (reading bytes room)).unknowns ≡ 1
