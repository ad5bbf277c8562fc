-- Document 01 and document 02, E7, reading a plan file of version 1 or 2: checks 10 to 14 with 28, 15 to 19, then 8, 9, and what the lent buffers hold
-- afterwards.
use Rattle.std.specs.Prelude.{Bool, not, ◌&&◌, ◌||◌, List, [], ◌∷◌, ◌++◌, ℕ, ltb, eqb, length, take}
use Rattle.plan.specs.Lists.{same}
use Rattle.plan.specs.Refusals.{Checks, first_fault}
use Rattle.plan.specs.Planning.{Capacity, bad_unknowns, buffers_too_short, rows_too_short, Outcome, hand_out}
use Rattle.plan.specs.File.{magic, version_of, length_in, parse, bad_header, contents_checks}

-- 10: fewer than 17 bytes
unfoldable pub too_few_bytes : List ℕ → Bool
too_few_bytes bytes = ltb (length bytes) 17

-- 11: mark not NDP
unfoldable pub bad_magic : List ℕ → Bool
bad_magic bytes = not (same (take 3 bytes) magic)

-- 12: "12 now means neither 1 nor 2"
unfoldable pub bad_version : List ℕ → Bool
bad_version bytes = not (eqb (version_of bytes) 1 || eqb (version_of bytes) 2)

-- 10 again: "Fewer than 19 bytes in a version 2 file is refused as 10, right after the version"
unfoldable pub too_few_in_version2 : List ℕ → Bool
too_few_in_version2 bytes = eqb (version_of bytes) 2 && ltb (length bytes) 19

-- 14: length differs from the formula, which is that of the file's version
unfoldable pub bad_length : List ℕ → Bool
bad_length bytes = not (eqb (length bytes) (length_in (version_of bytes) (parse bytes)))

-- checks 10 to 14; the second 10 comes "right after the version", and 28 "before 13"
unfoldable pub header_checks : List ℕ → Checks
header_checks bytes =
    (10, too_few_bytes bytes)
    ∷ (11, bad_magic bytes)
    ∷ (12, bad_version bytes)
    ∷ (10, too_few_in_version2 bytes)
    ∷ (28, bad_unknowns (parse bytes).unknowns)
    ∷ (13, bad_header (parse bytes))
    ∷ (14, bad_length bytes)
    ∷ []

-- "reading 10 to 19, then 8, 9"
unfoldable pub read_checks : List ℕ → Capacity → Checks
read_checks bytes room =
    header_checks bytes ++ (contents_checks (parse bytes)
    ++ ((8, buffers_too_short (parse bytes).nodes room) ∷ (9, rows_too_short (parse bytes) room) ∷ []))

-- Reading, whole. Its promise is `Filled`.
unfoldable pub reading : List ℕ → Capacity → Outcome
reading bytes room = hand_out (first_fault (read_checks bytes room)) (parse bytes)
