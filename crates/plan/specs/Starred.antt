-- Document 01, "Meshes worked through": the starred meshes and files 1 to 12 in one table, and the one statement that every row of it holds.
use Rattle.std.specs.Prelude.{Bool, true, false, ◌&&◌, ◌≡◌, refl, ℕ, ◌+◌, ◌-◌, eqb, length, get_or, replicate}
use Rattle.std.specs.Bool.{beq}
use mathlib.Core.List.{List, [], ◌∷◌, ◌++◌, flatten}
use Rattle.plan.specs.Lists.{every, up_from, same, written}
use Rattle.plan.specs.Answers.{Reply, accepted, refused}
use Rattle.plan.specs.Mesh.{Mesh}
use Rattle.plan.specs.Parts.{bound}
use Rattle.plan.specs.Demand3.{is_path, all_earlier, has_slot}
use Rattle.plan.specs.Planning.{Contents, Buffers, capacity, Outcome, planning, fill}
use Rattle.plan.specs.File.{encode}
use Rattle.plan.specs.Reading.{reading}
use Rattle.plan.specs.Writing.{WriteOutcome, writing}
use Rattle.plan.specs.RoundTrips.{handed}
use Rattle.plan.specs.Version1.{reading1}
use Rattle.plan.specs.Listing.{listing}
use Rattle.plan.specs.Everything.{everything}

-- What document 01 says of a planned mesh beside its outcome: demand 3's bound, and the length of its file. The table gives the file's bytes too,
-- and for two paths whether they give row i of column j a slot: every node between must be earlier than j.
pub data Claim : Type 0 where
  bounded : ℕ → Claim
  on_path : (i j : ℕ) → (between : List ℕ) → (slot : Bool) → Claim
  file : (size : ℕ) → (bytes : List ℕ) → Claim

pub data Row : Type 0 where
  -- planning a mesh for so many unknowns for each node, lent a rows buffer so long
  planned : (unknowns : ℕ) → (m : Mesh) → (rows : ℕ) → (expected : Outcome) → List Claim → Row
  -- reading bytes, lent buffers for n nodes and a rows buffer so long; and by the reader that knows version 1 alone
  read read1 : (n rows : ℕ) → (bytes : List ℕ) → (expected : Outcome) → Row
  -- a plan that the writer refuses, and the reader refuses its bytes, with the same number
  faulty : (c : Contents) → (number : ℕ) → Row
  -- the listing program, from its input to its output
  listed : (input output : List ℕ) → Row

-- What lent memory of so many entries holds before: numbers that no result has, each another one.
unfoldable pub stale : ℕ → List ℕ
stale size = up_from 9000 size

-- buffers for n nodes, each one entry longer than needed, and a rows buffer so long
unfoldable pub stale_buffers : ℕ → ℕ → Buffers
stale_buffers n rows = record {
  order = stale (n + 1);
  positions = stale (n + 1);
  sizes = stale (n + 1);
  parents = stale (n + 1);
  column_starts = stale (n + 2);
  rows = stale rows;
}

-- whether memory of so many entries holds these at its front, and behind them what it held before
unfoldable pub holds_front : ℕ → List ℕ → List ℕ → Bool
holds_front size front memory = same memory (front ++ up_from (9000 + length front) (size - length front))

unfoldable pub same_reply : Reply → Reply → Bool
same_reply a b = eqb a.number b.number && same a.values b.values

-- whether the outcome, for buffers so lent, is the one expected: the reply, and what each of the six buffers holds afterwards
unfoldable pub agrees : ℕ → ℕ → Outcome → Outcome → Bool
agrees n rows expected o =
    let left : Buffers = fill o (stale_buffers n rows) in
    same_reply o.reply expected.reply
    && holds_front (n + 1) expected.order left.order
    && holds_front (n + 1) expected.positions left.positions
    && holds_front (n + 1) expected.sizes left.sizes
    && holds_front (n + 1) expected.parents left.parents
    && holds_front (n + 2) expected.column_starts left.column_starts
    && holds_front rows expected.rows left.rows

-- whether a writing into so many bytes replies so, and leaves these bytes at the front
unfoldable pub writes : ℕ → Reply → List ℕ → WriteOutcome → Bool
writes room reply bytes o =
    same_reply o.reply reply && holds_front room bytes (written o.bytes (stale room))

unfoldable pub claimed : Mesh → Outcome → Claim → Bool
claimed m o (bounded k) = eqb (bound m o.order o.sizes o.parents) k
claimed m o (on_path i j between slot) =
    is_path m (get_or o.order j 0 ∷ (between ++ (get_or o.order i 0 ∷ [])))
    && beq (all_earlier o.order j between) slot
    && beq (has_slot o.column_starts o.rows i j) slot
claimed m o (file size bytes) = writes (size + 1) (accepted (size ∷ [])) bytes (writing (handed o) (size + 1))

-- a refusal: no values, and nothing written
abbrev pub refusal : ℕ → Outcome
refusal k = record {
  reply = refused k;
  order = [];
  positions = [];
  sizes = [];
  parents = [];
  column_starts = [];
  rows = [];
}

unfoldable pub holds : Row → Bool
holds (planned unknowns m rows expected claims) =
    let o : Outcome = planning unknowns m (capacity (stale_buffers m.nodes rows)) in
    agrees m.nodes rows expected o && every (claimed m o) claims
holds (read n rows bytes expected) = agrees n rows expected (reading bytes (capacity (stale_buffers n rows)))
holds (read1 n rows bytes expected) = agrees n rows expected (reading1 bytes (capacity (stale_buffers n rows)))
holds (faulty c k) =
    writes 100 (refused k) [] (writing c 100)
    && agrees c.nodes c.slots (refusal k) (reading (encode c) (capacity (stale_buffers c.nodes c.slots)))
holds (listed input output) = same (listing input) output

abbrev pub triangle : Mesh
triangle = record { nodes = 3; starts = 0 ∷ 2 ∷ 4 ∷ 6 ∷ []; neighbours = 1 ∷ 2 ∷ 0 ∷ 2 ∷ 0 ∷ 1 ∷ [] }

abbrev pub path : Mesh
path = record { nodes = 5; starts = 0 ∷ 1 ∷ 3 ∷ 5 ∷ 7 ∷ 8 ∷ []; neighbours = 1 ∷ 0 ∷ 2 ∷ 1 ∷ 3 ∷ 2 ∷ 4 ∷ 3 ∷ [] }

abbrev pub path_outcome : Outcome
path_outcome = record {
  reply = accepted (5 ∷ 3 ∷ 5 ∷ 11 ∷ 1 ∷ []);
  order = 0 ∷ 1 ∷ 3 ∷ 4 ∷ 2 ∷ [];
  positions = 0 ∷ 1 ∷ 4 ∷ 2 ∷ 3 ∷ [];
  sizes = 2 ∷ 2 ∷ 1 ∷ [];
  parents = 2 ∷ 2 ∷ 65535 ∷ [];
  column_starts = 0 ∷ 1 ∷ 2 ∷ 4 ∷ 5 ∷ 5 ∷ [];
  rows = 1 ∷ 4 ∷ 3 ∷ 4 ∷ 4 ∷ [];
}

-- what the reader that knows version 1 alone hands out of it: the same, without the unknowns
abbrev pub path_outcome1 : Outcome
path_outcome1 = record {
  reply = accepted (5 ∷ 3 ∷ 5 ∷ 11 ∷ []);
  order = path_outcome.order;
  positions = path_outcome.positions;
  sizes = path_outcome.sizes;
  parents = path_outcome.parents;
  column_starts = path_outcome.column_starts;
  rows = path_outcome.rows;
}

-- what its files of either version hold from n on
abbrev pub path_contents : List ℕ
path_contents = flatten (
    -- n, p, s
    (5 ∷ 0 ∷ 0 ∷ 0 ∷ 3 ∷ 0 ∷ 0 ∷ 0 ∷ 5 ∷ 0 ∷ 0 ∷ 0 ∷ [])
    -- the order
    ∷ (0 ∷ 0 ∷ 1 ∷ 0 ∷ 3 ∷ 0 ∷ 4 ∷ 0 ∷ 2 ∷ 0 ∷ [])
    -- size and father of each part
    ∷ (2 ∷ 0 ∷ 2 ∷ 0 ∷ 2 ∷ 0 ∷ 2 ∷ 0 ∷ 1 ∷ 0 ∷ 255 ∷ 255 ∷ [])
    -- the row counts
    ∷ (1 ∷ 0 ∷ 1 ∷ 0 ∷ 2 ∷ 0 ∷ 1 ∷ 0 ∷ 0 ∷ 0 ∷ [])
    -- the rows
    ∷ (1 ∷ 0 ∷ 4 ∷ 0 ∷ 3 ∷ 0 ∷ 4 ∷ 0 ∷ 4 ∷ 0 ∷ [])
    ∷ [])

-- the 61 bytes of its file: NDP, version 2, one unknown
abbrev pub path_file : List ℕ
path_file = (78 ∷ 68 ∷ 80 ∷ 2 ∷ 0 ∷ 1 ∷ 0 ∷ []) ++ path_contents

-- the 59 bytes of its file of version 1: NDP, version 1
abbrev pub path_file1 : List ℕ
path_file1 = (78 ∷ 68 ∷ 80 ∷ 1 ∷ 0 ∷ []) ++ path_contents

-- the path as the listing program reads it: n, the starts, the neighbours
abbrev pub path_input : List ℕ
path_input = flatten (
    (5 ∷ 0 ∷ [])
    ∷ (0 ∷ 0 ∷ 0 ∷ 0 ∷ 1 ∷ 0 ∷ 0 ∷ 0 ∷ 3 ∷ 0 ∷ 0 ∷ 0 ∷ 5 ∷ 0 ∷ 0 ∷ 0 ∷ 7 ∷ 0 ∷ 0 ∷ 0 ∷ 8 ∷ 0 ∷ 0 ∷ 0 ∷ [])
    ∷ (1 ∷ 0 ∷ 0 ∷ 0 ∷ 2 ∷ 0 ∷ 1 ∷ 0 ∷ 3 ∷ 0 ∷ 2 ∷ 0 ∷ 4 ∷ 0 ∷ 3 ∷ 0 ∷ [])
    ∷ [])

-- its listing, a line to a line
abbrev pub path_listing : List ℕ
path_listing = flatten (
    -- nodes 5 parts 3 slots 5
    (110 ∷ 111 ∷ 100 ∷ 101 ∷ 115 ∷ 32 ∷ 53 ∷ 32 ∷ 112 ∷ 97 ∷ 114 ∷ 116 ∷ 115 ∷ 32 ∷ 51 ∷ 32 ∷ 115 ∷ 108 ∷ 111 ∷ 116 ∷ 115 ∷ 32 ∷ 53 ∷ 10 ∷ [])
    -- 0 0 0 1
    ∷ (48 ∷ 32 ∷ 48 ∷ 32 ∷ 48 ∷ 32 ∷ 49 ∷ 10 ∷ [])
    -- 1 1 0 4
    ∷ (49 ∷ 32 ∷ 49 ∷ 32 ∷ 48 ∷ 32 ∷ 52 ∷ 10 ∷ [])
    -- 2 3 1 3 4
    ∷ (50 ∷ 32 ∷ 51 ∷ 32 ∷ 49 ∷ 32 ∷ 51 ∷ 32 ∷ 52 ∷ 10 ∷ [])
    -- 3 4 1 4
    ∷ (51 ∷ 32 ∷ 52 ∷ 32 ∷ 49 ∷ 32 ∷ 52 ∷ 10 ∷ [])
    -- 4 2 2
    ∷ (52 ∷ 32 ∷ 50 ∷ 32 ∷ 50 ∷ 10 ∷ [])
    ∷ [])

abbrev pub triangle_outcome : Outcome
triangle_outcome = record {
  reply = accepted (3 ∷ 1 ∷ 3 ∷ 7 ∷ 1 ∷ []);
  order = 0 ∷ 1 ∷ 2 ∷ [];
  positions = 0 ∷ 1 ∷ 2 ∷ [];
  sizes = 3 ∷ [];
  parents = 65535 ∷ [];
  column_starts = 0 ∷ 2 ∷ 3 ∷ 3 ∷ [];
  rows = 1 ∷ 2 ∷ 2 ∷ [];
}

unfoldable pub table : List Row
table =
    -- 1. One node: one part, no slot.
    planned 1 (record { nodes = 1; starts = 0 ∷ 0 ∷ []; neighbours = [] }) 1
    (record {
      reply = accepted (1 ∷ 1 ∷ 0 ∷ 0 ∷ 1 ∷ []);
      order = 0 ∷ [];
      positions = 0 ∷ [];
      sizes = 1 ∷ [];
      parents = 65535 ∷ [];
      column_starts = 0 ∷ 0 ∷ [];
      rows = [];
    }) []
    -- 2. Two nodes, no entry: order 0 1, two parts without father, no slot.
    ∷ planned 1 (record { nodes = 2; starts = 0 ∷ 0 ∷ 0 ∷ []; neighbours = [] }) 1
    (record {
      reply = accepted (2 ∷ 2 ∷ 0 ∷ 0 ∷ 1 ∷ []);
      order = 0 ∷ 1 ∷ [];
      positions = 0 ∷ 1 ∷ [];
      sizes = 1 ∷ 1 ∷ [];
      parents = 65535 ∷ 65535 ∷ [];
      column_starts = 0 ∷ 0 ∷ 0 ∷ [];
      rows = [];
    }) []
    -- 3. Triangle: one part, 3 slots, 7 multiplications. Rows buffer of 2: refusal 9; of 3: accepted.
    ∷ planned 1 triangle 3 triangle_outcome []
    ∷ planned 1 triangle 2 (refusal 9) []
    -- 4. Path 0-1-2-3-4: listing below; 11 multiplications; bound 6. Document 02, E7: "mesh 4's written file has 61 bytes." Its file of 59 bytes, of
    -- version 1, is read by both readers.
    ∷ planned 1 path 6 path_outcome (bounded 6 ∷ file 61 path_file ∷ [])
    ∷ read 5 6 path_file path_outcome
    ∷ read 5 6 path_file1 path_outcome
    ∷ read1 5 6 path_file1 path_outcome1
    ∷ listed path_input path_listing
    -- 5. Ring 0-1-2-3: order 0 2 1 3, sizes 1 1 2, 5 slots, 12 multiplications; bound 5. The path 1-0-3 passes node 0, which is earlier than node 1.
    ∷ planned 1 (record { nodes = 4; starts = 0 ∷ 2 ∷ 4 ∷ 6 ∷ 8 ∷ []; neighbours = 1 ∷ 3 ∷ 0 ∷ 2 ∷ 1 ∷ 3 ∷ 0 ∷ 2 ∷ [] }) 6
    (record {
      reply = accepted (4 ∷ 3 ∷ 5 ∷ 12 ∷ 1 ∷ []);
      order = 0 ∷ 2 ∷ 1 ∷ 3 ∷ [];
      positions = 0 ∷ 2 ∷ 1 ∷ 3 ∷ [];
      sizes = 1 ∷ 1 ∷ 2 ∷ [];
      parents = 2 ∷ 2 ∷ 65535 ∷ [];
      column_starts = 0 ∷ 2 ∷ 4 ∷ 5 ∷ 5 ∷ [];
      rows = 2 ∷ 3 ∷ 2 ∷ 3 ∷ 3 ∷ [];
    }) (bounded 5 ∷ on_path 3 2 (0 ∷ []) true ∷ [])
    -- 6. Star, centre 0, leaves 1 to 3: order 1 2 3 0, 3 slots. The path 1-0-2 passes node 0, which is later than node 1.
    ∷ planned 1 (record { nodes = 4; starts = 0 ∷ 3 ∷ 4 ∷ 5 ∷ 6 ∷ []; neighbours = 1 ∷ 2 ∷ 3 ∷ 0 ∷ 0 ∷ 0 ∷ [] }) 4
    (record {
      reply = accepted (4 ∷ 4 ∷ 3 ∷ 6 ∷ 1 ∷ []);
      order = 1 ∷ 2 ∷ 3 ∷ 0 ∷ [];
      positions = 3 ∷ 0 ∷ 1 ∷ 2 ∷ [];
      sizes = 1 ∷ 1 ∷ 1 ∷ 1 ∷ [];
      parents = 3 ∷ 3 ∷ 3 ∷ 65535 ∷ [];
      column_starts = 0 ∷ 1 ∷ 2 ∷ 3 ∷ 3 ∷ [];
      rows = 3 ∷ 3 ∷ 3 ∷ [];
    }) (on_path 1 0 (0 ∷ []) false ∷ [])
    -- 7. n = 0: 1.
    ∷ planned 1 (record { nodes = 0; starts = 0 ∷ []; neighbours = [] }) 1 (refusal 1) []
    -- 8. Two nodes, only 0 lists 1: 7.
    ∷ planned 1 (record { nodes = 2; starts = 0 ∷ 1 ∷ 1 ∷ []; neighbours = 1 ∷ [] }) 2 (refusal 7) []
    -- 9. Node 0 of two lists 5, then 0: 4, not 5 or 6.
    ∷ planned 1 (record { nodes = 2; starts = 0 ∷ 2 ∷ 2 ∷ []; neighbours = 5 ∷ 0 ∷ [] }) 2 (refusal 4) []
    -- 10. File of 17 bytes, NDP, version 2: 12. Its first 16 bytes: 10. So answers the reader of version 1. Document 02, E7: "the new reader answers 10 to
    -- the 17 bytes of mesh case 10."
    ∷ read1 5 6 (78 ∷ 68 ∷ 80 ∷ 2 ∷ 0 ∷ replicate 12 0) (refusal 12)
    ∷ read1 5 6 (78 ∷ 68 ∷ 80 ∷ 2 ∷ 0 ∷ replicate 11 0) (refusal 10)
    ∷ read 5 6 (78 ∷ 68 ∷ 80 ∷ 2 ∷ 0 ∷ replicate 12 0) (refusal 10)
    ∷ read 5 6 (78 ∷ 68 ∷ 80 ∷ 2 ∷ 0 ∷ replicate 11 0) (refusal 10)
    -- 11. n = 3, one part, column 0 has rows 1 and 2, column 1 none: 19.
    ∷ faulty (record {
      unknowns = 1;
      nodes = 3;
      parts = 1;
      slots = 2;
      order = 0 ∷ 1 ∷ 2 ∷ [];
      sizes = 3 ∷ [];
      parents = 65535 ∷ [];
      column_starts = 0 ∷ 2 ∷ 2 ∷ 2 ∷ [];
      rows = 1 ∷ 2 ∷ [];
    }) 19
    -- 12. n = 2, two fatherless parts, column 0 has row 1: 18.
    ∷ faulty (record {
      unknowns = 1;
      nodes = 2;
      parts = 2;
      slots = 1;
      order = 0 ∷ 1 ∷ [];
      sizes = 1 ∷ 1 ∷ [];
      parents = 65535 ∷ 65535 ∷ [];
      column_starts = 0 ∷ 1 ∷ 1 ∷ [];
      rows = 1 ∷ [];
    }) 18
    ∷ []

-- every row of the table holds
pub starred : every holds table ≡ true
unfolding everything stale stale_buffers holds_front same_reply agrees writes claimed holds table
starred = refl
