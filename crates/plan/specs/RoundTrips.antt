-- The user's demand 2 (docs/GUIDE.md), the round trips, as statements: "A written plan, once read, is the same plan; a plan that was read is written
-- back byte for byte." Document 02, E7: "byte-for-byte return is meant for version 2 files; a version 1 file comes back as the same plan." And what a
-- workshop may rely on: of demand 1, "A plan of a version it does not know is refused as such", and the checks that every plan that is read has passed.
use Rattle.std.specs.Prelude.{true, false, ◌≡◌, ◌≢◌, List, [], ◌∷◌, ℕ, ◌≤◌, ltb, length, get_or, take, Result, Ok}
use Rattle.plan.specs.declared.Plan.{Plan}
use Rattle.plan.specs.declared.refusal.Refusal.{Refusal}
use Rattle.plan.specs.Lists.{every, written}
use Rattle.plan.specs.Answers.{accepted}
use Rattle.plan.specs.Mesh.{Mesh}
use Rattle.plan.specs.Planning.{Contents, contents, bad_unknowns, Buffers, Capacity, capacity, buffers_too_short, rows_too_short, Outcome, hand_out, Filled, plan_of, planning}
use Rattle.plan.specs.File.{magic, version_of, file_length, encode, parse, Whole, bad_header, bad_order, bad_parts, bad_rows, not_nested, not_covered}
use Rattle.plan.specs.Reading.{reading}
use Rattle.plan.specs.Writing.{used, WriteOutcome, writing, Wrote}

-- the plan that an outcome hands out
unfoldable pub handed : Outcome → Contents
handed o = record {
  unknowns = get_or o.reply.values 4 0;
  nodes = get_or o.reply.values 0 0;
  parts = get_or o.reply.values 1 0;
  slots = get_or o.reply.values 2 0;
  order = o.order;
  sizes = o.sizes;
  parents = o.parents;
  column_starts = o.column_starts;
  rows = o.rows;
}

-- an accepted writing of these bytes
abbrev pub accepted_writing : List ℕ → WriteOutcome
accepted_writing bytes = record { reply = accepted (length bytes ∷ []); bytes = bytes }

-- An accepted writing: its bytes are the file of the used entries, the length returned is theirs, and they fit the output.
abbrev pub WrittenIsFile : Type 0
WrittenIsFile =
    (c : Contents) (output : ℕ)
    → (writing c output).reply.number ≡ 0
    → (writing c output ≡ accepted_writing (encode (used c))) × (length (encode (used c)) ≤ output)

-- Written, then read: an accepted writing, read into buffers that are long enough, hands out exactly the used entries.
abbrev pub WrittenThenRead : Type 0
WrittenThenRead =
    (c : Contents) (output : ℕ) (room : Capacity)
    → (writing c output).reply.number ≡ 0 → buffers_too_short c.nodes room ≡ false → rows_too_short c room ≡ false
    → reading (writing c output).bytes room ≡ hand_out 0 (used c)

-- Read, then written: of bytes of version 2 that were read, slices whose used entries are the plan that was handed out are written back as those
-- bytes, given room. (Bytes are numbers below 256.)
abbrev pub ReadThenWritten : Type 0
ReadThenWritten =
    (bytes : List ℕ) (room : Capacity) (c : Contents) (output : ℕ)
    → every (λ b. ltb b 256) bytes ≡ true → version_of bytes ≡ 2 → (reading bytes room).reply.number ≡ 0
    → used c ≡ handed (reading bytes room) → length bytes ≤ output
    → writing c output ≡ accepted_writing bytes

-- Read, written, then read: of bytes of either version that were read, such slices are written, given room for the file, and what is written, read
-- into buffers as long, gives the same outcome again.
abbrev pub ReadWrittenRead : Type 0
ReadWrittenRead =
    (bytes : List ℕ) (room : Capacity) (c : Contents) (output : ℕ)
    → (reading bytes room).reply.number ≡ 0 → used c ≡ handed (reading bytes room) → file_length c ≤ output
    → (writing c output ≡ accepted_writing (encode (used c))) × (reading (writing c output).bytes room ≡ reading bytes room)

-- Planned is writable: what planning hands out is written, given room for the file.
abbrev pub PlannedIsWritable : Type 0
PlannedIsWritable =
    (unknowns : ℕ) (m : Mesh) (room : Capacity) (c : Contents) (output : ℕ)
    → (planning unknowns m room).reply.number ≡ 0 → used c ≡ handed (planning unknowns m room) → file_length c ≤ output
    → writing c output ≡ accepted_writing (encode (used c))

-- What was planned and written, read into buffers as long as planning's, gives planning's outcome again.
abbrev pub PlannedThenRead : Type 0
PlannedThenRead =
    (unknowns : ℕ) (m : Mesh) (room : Capacity) (c : Contents) (output : ℕ)
    → (planning unknowns m room).reply.number ≡ 0 → used c ≡ handed (planning unknowns m room) → file_length c ≤ output
    → reading (writing c output).bytes room ≡ planning unknowns m room

-- The round trips again, of the promises: so they hold of every writer and reader that keep them.

-- What was written, read into buffers that are long enough, is what is handed out of the used entries.
abbrev pub WroteThenFilled : Type 0
WroteThenFilled =
    (c : Contents) (size : ℕ) (found bytes : List ℕ) (answer : Result Plan Refusal) (lent left : Buffers)
    → Wrote c (Ok size) found bytes → buffers_too_short c.nodes (capacity lent) ≡ false → rows_too_short c (capacity lent) ≡ false
    → Filled (reading (take size bytes) (capacity lent)) answer lent left
    → Filled (hand_out 0 (used c)) answer lent left

-- a plan as a caller lends it to the writer: its numbers, and buffers that may be longer
abbrev pub lent_back : Plan → Buffers → Contents
lent_back p b = contents p.unknowns p.nodes p.parts p.slots b.order b.sizes b.parents b.column_starts b.rows

-- What was read of version 2, written from the same buffers into an output that has room, is the bytes that were read. (Bytes are numbers below 256.)
abbrev pub FilledThenWrote : Type 0
FilledThenWrote =
    (bytes found after : List ℕ) (p : Plan) (lent left : Buffers) (answer : Result ℕ Refusal)
    → every (λ b. ltb b 256) bytes ≡ true → version_of bytes ≡ 2
    → Filled (reading bytes (capacity lent)) (Ok p) lent left → length bytes ≤ length found
    → Wrote (lent_back p left) answer found after
    → (answer ≡ Ok (length bytes)) × (after ≡ written bytes found)

-- What was read of either version, lent to the writer from the same buffers with an output that has room, is written; and what was written, read again
-- into buffers that are long enough, is what is handed out of the plan that the first bytes say.
abbrev pub FilledWroteFilled : Type 0
FilledWroteFilled =
    (bytes found after : List ℕ) (p : Plan) (lent left again end : Buffers) (answer : Result ℕ Refusal) (last : Result Plan Refusal)
    → Filled (reading bytes (capacity lent)) (Ok p) lent left → file_length (lent_back p left) ≤ length found
    → Wrote (lent_back p left) answer found after
    → buffers_too_short p.nodes (capacity again) ≡ false → rows_too_short (lent_back p left) (capacity again) ≡ false
    → Filled (reading (take (file_length (lent_back p left)) after) (capacity again)) last again end
    → (answer ≡ Ok (file_length (lent_back p left))) × Filled (hand_out 0 (parse bytes)) last again end

-- What was planned, written from the same buffers into an output that has room, is the file of the mesh's plan.
abbrev pub PlannedThenWrote : Type 0
PlannedThenWrote =
    (unknowns : ℕ) (m : Mesh) (found after : List ℕ) (p : Plan) (lent left : Buffers) (answer : Result ℕ Refusal)
    → Filled (planning unknowns m (capacity lent)) (Ok p) lent left → file_length (plan_of unknowns m) ≤ length found
    → Wrote (lent_back p left) answer found after
    → (answer ≡ Ok (file_length (plan_of unknowns m))) × (after ≡ written (encode (plan_of unknowns m)) found)

-- Of 17 bytes or more that begin with the mark, every version other than 1 and 2 is refused as such, with 12, whatever stands behind the version.
abbrev pub OtherVersions : Type 0
OtherVersions =
    (bytes : List ℕ) (room : Capacity)
    → 17 ≤ length bytes → take 3 bytes ≡ magic → version_of bytes ≢ 1 → version_of bytes ≢ 2
    → reading bytes room ≡ hand_out 12 (parse bytes)

-- a whole plan without a fault of 28, 13 or 15 to 19
pub record Sound (c : Contents) : Type 0 where
  pub whole : Whole c
  pub unknowns : bad_unknowns c.unknowns ≡ false
  pub header : bad_header c ≡ false
  pub order : bad_order c ≡ false
  pub parts : bad_parts c ≡ false
  pub rows : bad_rows c ≡ false
  pub nested : not_nested c ≡ false
  pub covered : not_covered c ≡ false

-- What reading hands out is such a plan.
abbrev pub ReadIsSound : Type 0
ReadIsSound = (bytes : List ℕ) (room : Capacity) → (reading bytes room).reply.number ≡ 0 → Sound (handed (reading bytes room))
