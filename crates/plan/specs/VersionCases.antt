-- Document 02, E7: files of either version and of others, numbers of unknowns, and other faults beside them, in one table, and the one statement that
-- every row of it holds.
use Rattle.std.specs.Prelude.{Bool, true, ◌≡◌, refl, List, [], ◌∷◌, ◌++◌, ℕ, ◌+◌, replicate, take, drop}
use Rattle.plan.specs.Lists.{every}
use Rattle.plan.specs.Answers.{Reply, accepted, refused}
use Rattle.plan.specs.Mesh.{Mesh, lent}
use Rattle.plan.specs.Planning.{Contents, contents, capacity, Outcome, planning}
use Rattle.plan.specs.Writing.{writing}
use Rattle.plan.specs.Starred.{Row, planned, read, read1, faulty, file, stale, stale_buffers, holds_front, same_reply, agrees, writes, claimed, refusal, holds, path, triangle, path_outcome, path_contents, path_file, path_file1}
use Rattle.plan.specs.Everything.{everything}

pub data VersionRow : Type 0 where
  -- a row of the kinds that the starred table has
  row : Row → VersionRow
  -- planning that is refused, lent buffers for n nodes and a rows buffer so long
  unplanned : (unknowns : ℕ) → (m : Mesh) → (n rows number : ℕ) → VersionRow
  -- a plan written into an output so long: the reply, and the bytes at its front
  written : (room : ℕ) → (c : Contents) → (reply : Reply) → (bytes : List ℕ) → VersionRow

unfoldable pub version_holds : VersionRow → Bool
version_holds (row r) = holds r
version_holds (unplanned unknowns m n rows k) = agrees n rows (refusal k) (planning unknowns m (capacity (stale_buffers n rows)))
version_holds (written room c reply bytes) = writes room reply bytes (writing c room)

-- a plan that the writer refuses, though there is room
abbrev pub unwritten : Contents → ℕ → VersionRow
unwritten c k = written 100 c (refused k) []

-- the letters NDP, two bytes of a version, then these
abbrev pub ndp : ℕ → ℕ → List ℕ → List ℕ
ndp low high rest = 78 ∷ 68 ∷ 80 ∷ low ∷ high ∷ rest

-- bytes with another one at a place
abbrev pub with_byte : ℕ → ℕ → List ℕ → List ℕ
with_byte at b bytes = take at bytes ++ (b ∷ drop (at + 1) bytes)

-- the path 0-1-2-3-4, with so many unknowns for each node
abbrev pub path_with : ℕ → Outcome
path_with unknowns = record {
  reply = accepted (5 ∷ 3 ∷ 5 ∷ 11 ∷ unknowns ∷ []);
  order = path_outcome.order;
  positions = path_outcome.positions;
  sizes = path_outcome.sizes;
  parents = path_outcome.parents;
  column_starts = path_outcome.column_starts;
  rows = path_outcome.rows;
}

-- its file of version 2
abbrev pub path_file_with : ℕ → List ℕ
path_file_with unknowns = ndp 2 0 (unknowns ∷ 0 ∷ path_contents)

-- its plan, lent with other counts and in slices so long, and as it is
abbrev pub path_lent : (unknowns n p s order sizes parents column_starts rows : ℕ) → Contents
path_lent unknowns n p s order sizes parents column_starts rows =
    contents unknowns n p s (take order path_outcome.order) (take sizes path_outcome.sizes) (take parents path_outcome.parents)
    (take column_starts path_outcome.column_starts) (take rows path_outcome.rows)

abbrev pub path_plan : ℕ → Contents
path_plan unknowns = path_lent unknowns 5 3 5 5 3 3 6 5

unfoldable pub version_cases : List VersionRow
version_cases =
    -- planning: three unknowns and six, with their files; 0, 7, and numbers whose last 16 or 32 bits are 1
    row (planned 3 path 6 (path_with 3) (file 61 (path_file_with 3) ∷ []))
    ∷ row (planned 6 path 6 (path_with 6) (file 61 (path_file_with 6) ∷ []))
    ∷ row (planned 0 path 6 (refusal 28) [])
    ∷ row (planned 7 path 6 (refusal 28) [])
    ∷ row (planned 65537 path 6 (refusal 28) [])
    ∷ row (planned 4294967297 path 6 (refusal 28) [])
    -- 28 before 1, 2, 9 and 8
    ∷ row (planned 0 (lent 0 (0 ∷ []) []) 1 (refusal 28) [])
    ∷ row (planned 7 (lent 0 (0 ∷ []) []) 1 (refusal 28) [])
    ∷ row (planned 6 (lent 0 (0 ∷ []) []) 1 (refusal 1) [])
    ∷ row (planned 7 (lent 4097 (0 ∷ []) []) 1 (refusal 28) [])
    ∷ row (planned 7 (lent 2 (0 ∷ []) []) 1 (refusal 28) [])
    ∷ row (planned 7 triangle 2 (refusal 28) [])
    ∷ unplanned 7 path 3 4 28
    ∷ unplanned 6 path 3 4 8
    -- reading version 2: three unknowns and six; 0, 7, 8, 256, 257 and 65,535
    ∷ row (read 5 6 (path_file_with 3) (path_with 3))
    ∷ row (read 5 6 (path_file_with 6) (path_with 6))
    ∷ row (read 5 6 (path_file_with 0) (refusal 28))
    ∷ row (read 5 6 (path_file_with 7) (refusal 28))
    ∷ row (read 5 6 (path_file_with 8) (refusal 28))
    ∷ row (read 5 6 (ndp 2 0 (0 ∷ 1 ∷ path_contents)) (refusal 28))
    ∷ row (read 5 6 (ndp 2 0 (1 ∷ 1 ∷ path_contents)) (refusal 28))
    ∷ row (read 5 6 (ndp 2 0 (255 ∷ 255 ∷ path_contents)) (refusal 28))
    -- a file of version 2 whose version is set to 1; one of version 1 set to 2, of five nodes, and the first bytes of one of seven
    ∷ row (read 5 6 (ndp 1 0 (1 ∷ 0 ∷ path_contents)) (refusal 13))
    ∷ row (read 5 6 (ndp 2 0 path_contents) (refusal 13))
    ∷ row (read 5 6 (ndp 2 0 (7 ∷ replicate 13 0)) (refusal 28))
    ∷ row (read 5 6 (ndp 1 0 (7 ∷ replicate 11 0)) (refusal 13))
    -- other versions, at the length of version 1 and of version 2
    ∷ row (read 5 6 (ndp 0 0 path_contents) (refusal 12))
    ∷ row (read 5 6 (ndp 3 0 (1 ∷ 0 ∷ path_contents)) (refusal 12))
    ∷ row (read 5 6 (ndp 1 1 path_contents) (refusal 12))
    ∷ row (read 5 6 (ndp 2 1 (1 ∷ 0 ∷ path_contents)) (refusal 12))
    ∷ row (read 5 6 (ndp 255 255 (1 ∷ 0 ∷ path_contents)) (refusal 12))
    -- few bytes: of version 2 10 before 28 up to 18, of 19 bytes 28 before 13; of version 1 17 are enough; 11 before 12, and both before the second 10
    ∷ row (read 5 6 (ndp 2 0 (replicate 13 0)) (refusal 10))
    ∷ row (read 5 6 (ndp 2 0 (replicate 14 0)) (refusal 28))
    ∷ row (read 5 6 (ndp 2 0 (1 ∷ replicate 13 0)) (refusal 13))
    ∷ row (read 5 6 (ndp 1 0 (replicate 11 0)) (refusal 10))
    ∷ row (read 5 6 (ndp 1 0 (replicate 12 0)) (refusal 13))
    ∷ row (read 5 6 (ndp 3 0 (replicate 13 0)) (refusal 12))
    ∷ row (read 5 6 (78 ∷ 68 ∷ 81 ∷ 2 ∷ 0 ∷ replicate 13 0) (refusal 11))
    ∷ row (read 5 6 (78 ∷ 68 ∷ 81 ∷ 3 ∷ 0 ∷ replicate 13 0) (refusal 11))
    -- n, p and s of 32 bits
    ∷ row (read 5 6 (with_byte 9 1 path_file) (refusal 13))
    ∷ row (read 5 6 (with_byte 10 1 path_file) (refusal 13))
    ∷ row (read 5 6 (with_byte 13 1 path_file) (refusal 13))
    ∷ row (read 5 6 (with_byte 14 1 path_file) (refusal 13))
    ∷ row (read 5 6 (with_byte 17 1 path_file) (refusal 13))
    ∷ row (read 5 6 (with_byte 18 1 path_file) (refusal 13))
    -- the length: a byte less, a byte more, the length of the other version
    ∷ row (read 5 6 (take 60 path_file) (refusal 14))
    ∷ row (read 5 6 (path_file ++ (0 ∷ [])) (refusal 14))
    ∷ row (read 5 6 (take 59 path_file) (refusal 14))
    ∷ row (read 5 6 (path_file1 ++ (0 ∷ 0 ∷ [])) (refusal 14))
    -- 15 before 8 before 9
    ∷ row (read 3 6 path_file (refusal 8))
    ∷ row (read 5 4 path_file (refusal 9))
    ∷ row (read 3 4 path_file (refusal 8))
    ∷ row (read 3 4 (with_byte 19 9 path_file) (refusal 15))
    -- the reader that knows version 1 alone: 12 to version 2, whatever follows, and to others; 10 and 11 before it
    ∷ row (read1 5 6 path_file (refusal 12))
    ∷ row (read1 5 6 (ndp 2 0 path_contents) (refusal 12))
    ∷ row (read1 5 6 (ndp 2 0 (replicate 13 0)) (refusal 12))
    ∷ row (read1 5 6 (ndp 3 0 (replicate 13 0)) (refusal 12))
    ∷ row (read1 5 6 (ndp 0 0 path_contents) (refusal 12))
    ∷ row (read1 5 6 (ndp 1 1 path_contents) (refusal 12))
    ∷ row (read1 5 6 (78 ∷ 68 ∷ 81 ∷ 2 ∷ 0 ∷ replicate 13 0) (refusal 11))
    -- to version 1 its own 13 to 15, 8 and 9
    ∷ row (read1 5 6 (ndp 1 0 (1 ∷ 0 ∷ path_contents)) (refusal 13))
    ∷ row (read1 5 6 (ndp 1 0 (replicate 12 0)) (refusal 13))
    ∷ row (read1 5 6 (take 58 path_file1) (refusal 14))
    ∷ row (read1 5 6 (path_file1 ++ (0 ∷ 0 ∷ [])) (refusal 14))
    ∷ row (read1 3 6 path_file1 (refusal 8))
    ∷ row (read1 5 4 path_file1 (refusal 9))
    ∷ row (read1 3 4 path_file1 (refusal 8))
    ∷ row (read1 3 4 (with_byte 17 9 path_file1) (refusal 15))
    -- writing: three unknowns, with room and without; 0 and 7 refused, and the reader refuses their files; numbers whose last 16 or 32 bits are 1
    ∷ written 61 (path_plan 3) (accepted (61 ∷ [])) (path_file_with 3)
    ∷ written 60 (path_plan 1) (refused 8) []
    ∷ row (faulty (path_plan 0) 28)
    ∷ row (faulty (path_plan 7) 28)
    ∷ unwritten (path_plan 65537) 28
    ∷ unwritten (path_plan 4294967297) 28
    -- 28 before 13: of n, p and s, and of each slice; before 15, and before 8
    ∷ unwritten (path_lent 0 0 3 5 5 3 3 6 5) 28
    ∷ unwritten (path_lent 6 0 3 5 5 3 3 6 5) 13
    ∷ unwritten (path_lent 7 4097 3 5 5 3 3 6 5) 28
    ∷ unwritten (path_lent 7 5 0 5 5 3 3 6 5) 28
    ∷ unwritten (path_lent 7 5 6 5 5 3 3 6 5) 28
    ∷ unwritten (path_lent 7 5 3 65541 5 3 3 6 5) 28
    ∷ unwritten (path_lent 7 5 3 5 4 3 3 6 5) 28
    ∷ unwritten (path_lent 6 5 3 5 4 3 3 6 5) 13
    ∷ unwritten (path_lent 7 5 3 5 5 2 3 6 5) 28
    ∷ unwritten (path_lent 7 5 3 5 5 3 2 6 5) 28
    ∷ unwritten (path_lent 7 5 3 5 5 3 3 5 5) 28
    ∷ unwritten (path_lent 7 5 3 5 5 3 3 6 4) 28
    ∷ unwritten (contents 7 5 3 5 (replicate 5 0) path_outcome.sizes path_outcome.parents path_outcome.column_starts path_outcome.rows) 28
    ∷ written 0 (path_plan 7) (refused 28) []
    ∷ []

-- every row of the table holds
pub versioned : every version_holds version_cases ≡ true
unfolding everything stale stale_buffers holds_front same_reply agrees writes claimed holds version_holds version_cases
versioned = refl
