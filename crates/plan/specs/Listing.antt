-- Document 01, the listing program: what it reads, when it refuses, and the text that it prints, from bytes to bytes.
use Rattle.std.specs.Prelude.{Bool, cond, ◌||◌, ℕ, zero, suc, ◌+◌, ◌-◌, ◌*◌, ◌/◌, ◌%◌, ltb, eqb, length, get_or}
use mathlib.Core.List.{List, [], ◌∷◌, ◌++◌, map, flatten}
use Rattle.plan.specs.Lists.{below, list_at}
use Rattle.plan.specs.Refusals.{Checks, first_fault}
use Rattle.plan.specs.Mesh.{Mesh, mesh_checks}
use Rattle.plan.specs.Parts.{part_of}
use Rattle.plan.specs.Planning.{Contents, plan_of}
use Rattle.plan.specs.File.{decode16, decode32, decode16s}

-- "Over 256 nodes, over 2,048 entries"
abbrev pub max_listed_nodes : ℕ
max_listed_nodes = 256

abbrev pub max_listed_entries : ℕ
max_listed_entries = 2048

-- "n (16 bits), starts (32 bits each), neighbours (16 bits each) to the end, little-endian": where the neighbours begin, and how many there are
unfoldable pub neighbours_at : List ℕ → ℕ
neighbours_at bytes = 2 + 4 * (decode16 bytes 0 + 1)

unfoldable pub entry_count : List ℕ → ℕ
entry_count bytes = (length bytes - neighbours_at bytes) / 2

-- the mesh that the input holds
unfoldable pub input_mesh : List ℕ → Mesh
input_mesh bytes =
    let n : ℕ = decode16 bytes 0 in
    record {
      nodes = n;
      starts = map (λ k. decode32 bytes (2 + 4 * k)) (below (n + 1));
      neighbours = decode16s bytes (neighbours_at bytes) 2 (entry_count bytes);
    }

-- 20: "Over 256 nodes, over 2,048 entries, an end before the last start or an incomplete number". The end comes before the last start where the bytes
-- do not hold n + 1 starts; neighbours fewer or more than the last start says are check 2. Entries are the numbers that the input holds.
unfoldable pub bad_input : List ℕ → Bool
bad_input bytes =
    ltb (length bytes) 2 || ltb max_listed_nodes (decode16 bytes 0) || ltb max_listed_entries (entry_count bytes)
    || ltb (length bytes) (neighbours_at bytes) || eqb ((length bytes - neighbours_at bytes) % 2) 1

-- 20 first, then the mesh's own checks; the program's buffers are long enough (256 nodes have at most 32,640 slots), so 8 and 9 do not come, and
-- neither does 28
unfoldable pub listing_checks : List ℕ → Checks
listing_checks bytes = (20, bad_input bytes) ∷ mesh_checks (input_mesh bytes)

-- a number's last `most` + 1 decimal digits, all of them where it has fewer
unfoldable pub decimal_up_to : ℕ → ℕ → List ℕ
decimal_up_to zero x = (48 + x % 10) ∷ []
decimal_up_to (suc most) x =
    let longer : List ℕ = decimal_up_to most (x / 10) ++ ((48 + x % 10) ∷ []) in
    cond (ltb x 10) ((48 + x) ∷ []) longer

unfoldable pub decimal : ℕ → List ℕ
decimal x = decimal_up_to x x

-- numbers, each behind a space
unfoldable pub spaced : List ℕ → List ℕ
spaced numbers = flatten (map (λ x. 32 ∷ decimal x) numbers)

-- "first nodes, parts, slots": "nodes 5 parts 3 slots 5"
unfoldable pub head_line : Contents → List ℕ
head_line c = flatten (
    (110 ∷ 111 ∷ 100 ∷ 101 ∷ 115 ∷ [])
    ∷ spaced (c.nodes ∷ [])
    ∷ (32 ∷ 112 ∷ 97 ∷ 114 ∷ 116 ∷ 115 ∷ [])
    ∷ spaced (c.parts ∷ [])
    ∷ (32 ∷ 115 ∷ 108 ∷ 111 ∷ 116 ∷ 115 ∷ [])
    ∷ spaced (c.slots ∷ [])
    ∷ (10 ∷ [])
    ∷ [])

-- a line of position, node, part and rows
abbrev pub line_of : ℕ → ℕ → ℕ → List ℕ → List ℕ
line_of j node part rows = decimal j ++ (spaced (node ∷ part ∷ rows) ++ (10 ∷ []))

-- "then a line for each position with position, node, part, rows"
unfoldable pub position_line : Contents → ℕ → List ℕ
position_line c j = line_of j (get_or c.order j 0) (part_of c.sizes j) (list_at c.column_starts c.rows j)

-- "another refusal prints "refused" and its number"
unfoldable pub refusal_line : ℕ → List ℕ
refusal_line k = (114 ∷ 101 ∷ 102 ∷ 117 ∷ 115 ∷ 101 ∷ 100 ∷ []) ++ (spaced (k ∷ []) ++ (10 ∷ []))

-- by the number of the first fault, 0 for none
unfoldable pub print : ℕ → Contents → List ℕ
print zero c = head_line c ++ flatten (map (position_line c) (below c.nodes))
print (suc k) c = refusal_line (suc k)

-- the plan that is listed: of the unknowns for each node, "The listing program gives 1"
abbrev pub listed_plan : Mesh → Contents
listed_plan m = plan_of 1 m

-- the listing, whole: what the program writes when it has read these bytes
unfoldable pub listing : List ℕ → List ℕ
listing bytes = print (first_fault (listing_checks bytes)) (listed_plan (input_mesh bytes))
