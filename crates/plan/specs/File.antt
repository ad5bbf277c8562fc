-- Document 01, "The plan file, version 1", and version 2 of document 02, E7: the bytes of a plan, what bytes of either version say, and the checks of
-- a plan that is supplied (13, 15 to 19).
use Rattle.std.specs.Prelude.{◌≡◌, Bool, true, cond, not, ◌&&◌, ◌||◌, ℕ, ◌+◌, ◌-◌, ◌*◌, ◌/◌, ◌%◌, ltb, eqb, length, get_or}
use mathlib.Core.List.{List, [], ◌∷◌, ◌++◌, map, flatten}
use Rattle.plan.specs.Lists.{exists, every, below, is_in, list_at, each_once, total, running_sums, ascending}
use Rattle.plan.specs.Refusals.{Checks}
use Rattle.plan.specs.Mesh.{no_parent, bad_node_count, bad_starts}
use Rattle.plan.specs.Parts.{part_of, at_or_above}
use Rattle.plan.specs.Planning.{Contents, row_counts}

-- "Little-endian."
unfoldable pub encode16 : ℕ → List ℕ
encode16 x = x % 256 ∷ x / 256 % 256 ∷ []

unfoldable pub encode32 : ℕ → List ℕ
encode32 x = encode16 (x % 65536) ++ encode16 (x / 65536)

unfoldable pub encode16s : List ℕ → List ℕ
encode16s l = flatten (map encode16 l)

unfoldable pub decode16 : List ℕ → ℕ → ℕ
decode16 bytes at = get_or bytes at 0 + 256 * get_or bytes (at + 1) 0

unfoldable pub decode32 : List ℕ → ℕ → ℕ
decode32 bytes at = decode16 bytes at + 65536 * decode16 bytes (at + 2)

-- `count` numbers of 16 bits, the first at byte `at`, each `apart` bytes after the one before
unfoldable pub decode16s : List ℕ → ℕ → ℕ → ℕ → List ℕ
decode16s bytes at apart count = map (λ k. decode16 bytes (at + apart * k)) (below count)

-- the mark: "the letters NDP"
abbrev pub magic : List ℕ
magic = 78 ∷ 68 ∷ 80 ∷ []

-- the version that a file's bytes say: "3 and 4: version"
unfoldable pub version_of : List ℕ → ℕ
version_of bytes = decode16 bytes 3

-- "The writer writes version 2 only"
abbrev pub version : ℕ
version = 2

-- Where n stands in a file of a version: in version 1 "5 to 8: n"; "Version 2 of the file holds it", the number of unknowns, "as 16 bits at bytes 5 and
-- 6, and everything after moves by two".
unfoldable pub nodes_at : ℕ → ℕ
nodes_at v = cond (eqb v 1) 5 7

-- The length of a file whose n stands at byte `at`: at byte 5 it is "17 + 4n + 4p + 2s", at byte 7 "19 + 4n + 4p + 2s".
unfoldable pub length_at : ℕ → ℕ → ℕ → ℕ → ℕ
length_at at n p s = at + 12 + 4 * n + 4 * p + 2 * s

-- how long a plan's file of a version is
unfoldable pub length_in : ℕ → Contents → ℕ
length_in v c = length_at (nodes_at v) c.nodes c.parts c.slots

-- and the file that is written: "its length is 19 + 4n + 4p + 2s"
unfoldable pub file_length : Contents → ℕ
file_length c = length_in version c

-- "p times size and father, 2 bytes each"
unfoldable pub encode_parts : Contents → List ℕ
encode_parts c = flatten (map (λ q. encode16 (get_or c.sizes q 0) ++ encode16 (get_or c.parents q 0)) (below c.parts))

-- n, p and s, and what follows, wherever n stands: "5 to 8: n. 9 to 12: parts p. 13 to 16: slots s. Then the order, n × 2 bytes; p times size and
-- father, 2 bytes each; n row counts of 2 bytes; s rows of 2 bytes."
unfoldable pub encode_contents : Contents → List ℕ
encode_contents c = flatten (
    encode32 c.nodes
    ∷ encode32 c.parts
    ∷ encode32 c.slots
    ∷ encode16s c.order
    ∷ encode_parts c
    ∷ encode16s (row_counts c)
    ∷ encode16s c.rows
    ∷ [])

-- The file that is written: "Bytes 0 to 2: the letters NDP. 3 and 4: version", then "Version 2 of the file holds it", the number of unknowns, "as 16
-- bits at bytes 5 and 6", then n and what follows.
unfoldable pub encode : Contents → List ℕ
encode c = flatten (magic ∷ encode16 version ∷ encode16 c.unknowns ∷ encode_contents c ∷ [])

-- what bytes say whose n stands at byte `at`, for so many unknowns for each node
unfoldable pub parse_at : ℕ → ℕ → List ℕ → Contents
parse_at at unknowns bytes =
    let n : ℕ = decode32 bytes at in
    let p : ℕ = decode32 bytes (at + 4) in
    let s : ℕ = decode32 bytes (at + 8) in
    record {
      unknowns = unknowns;
      nodes = n;
      parts = p;
      slots = s;
      order = decode16s bytes (at + 12) 2 n;
      sizes = decode16s bytes (at + 12 + 2 * n) 4 p;
      parents = decode16s bytes (at + 14 + 2 * n) 4 p;
      column_starts = running_sums 0 (decode16s bytes (at + 12 + 2 * n + 4 * p) 2 n);
      rows = decode16s bytes (at + 12 + 4 * n + 4 * p) 2 s;
    }

-- the unknowns that bytes say: "The new reader takes version 1 as one unknown"; version 2 holds the number "as 16 bits at bytes 5 and 6"
unfoldable pub unknowns_in : List ℕ → ℕ
unknowns_in bytes = cond (eqb (version_of bytes) 1) 1 (decode16 bytes 5)

-- what bytes of version 1 or 2 say
unfoldable pub parse : List ℕ → Contents
parse bytes = parse_at (nodes_at (version_of bytes)) (unknowns_in bytes) bytes

-- a whole plan: each list is as long as its count says, the column starts n + 1
pub record Whole (c : Contents) : Type 0 where
  pub order : length c.order ≡ c.nodes
  pub sizes : length c.sizes ≡ c.parts
  pub parents : length c.parents ≡ c.parts
  pub column_starts : length c.column_starts ≡ c.nodes + 1
  pub rows : length c.rows ≡ c.slots

-- 13: n not 1 to 4,096, p not 1 to n, or s above n(n − 1)/2
unfoldable pub bad_header : Contents → Bool
bad_header c =
    bad_node_count c.nodes || eqb c.parts 0 || ltb c.nodes c.parts || ltb (c.nodes * (c.nodes - 1) / 2) c.slots

-- 15: the order is not each node once
unfoldable pub bad_order : Contents → Bool
bad_order c = not (each_once c.nodes c.order)

-- whether r may be part q's parent: "65,535" or "a later part below p"
unfoldable pub may_be_parent : ℕ → ℕ → ℕ → Bool
may_be_parent p q r = eqb r no_parent || (ltb q r && ltb r p)

-- 16: a size is 0, sizes do not sum to n, or a father is neither 65,535 nor a later part below p
unfoldable pub bad_parts : Contents → Bool
bad_parts c =
    is_in 0 c.sizes || not (eqb (total c.sizes) c.nodes)
    || exists (λ q. not (may_be_parent c.parts q (get_or c.parents q 0))) (below c.parts)

-- whether rows r of column j break 17's rule: "a column's rows are not strictly ascending, above the column and below n"
unfoldable pub bad_column : ℕ → ℕ → List ℕ → Bool
bad_column n j r = not (ascending r && every (λ i. ltb j i && ltb i n) r)

unfoldable pub bad_columns : ℕ → List ℕ → List ℕ → Bool
bad_columns n column_starts rows = exists (λ j. bad_column n j (list_at column_starts rows j)) (below n)

-- 17: counts do not sum to s, or a column's rows are not strictly ascending, above the column and below n; "17 also for column starts that do not
-- begin at 0, fall, or do not end at s". A file's column starts are the running sums of its counts: from 0, never falling, up to the counts' sum.
unfoldable pub bad_rows : Contents → Bool
bad_rows c =
    bad_starts c.nodes c.column_starts || not (eqb (get_or c.column_starts c.nodes 0) c.slots)
    || bad_columns c.nodes c.column_starts c.rows

-- whether rows r of column j break 18's rule
unfoldable pub outside_ancestors : List ℕ → List ℕ → ℕ → List ℕ → Bool
outside_ancestors sizes parents j r = exists (λ i. not (at_or_above parents (part_of sizes j) (part_of sizes i))) r

-- 18: a row lies outside its column's part and that part's forefathers
unfoldable pub not_nested : Contents → Bool
not_nested c = exists (λ j. outside_ancestors c.sizes c.parents j (list_at c.column_starts c.rows j)) (below c.nodes)

-- whether rows of a column keep 19's rule: those after the first are all in the first row's column
unfoldable pub covered : List ℕ → List ℕ → List ℕ → Bool
covered column_starts rows [] = true
covered column_starts rows (first ∷ others) = every (λ i. is_in i (list_at column_starts rows first)) others

-- 19: a column's rows after its first are not all in the first row's column
unfoldable pub not_covered : Contents → Bool
not_covered c =
    exists (λ j. not (covered c.column_starts c.rows (list_at c.column_starts c.rows j))) (below c.nodes)

-- checks 15 to 19
unfoldable pub contents_checks : Contents → Checks
contents_checks c =
    (15, bad_order c) ∷ (16, bad_parts c) ∷ (17, bad_rows c) ∷ (18, not_nested c) ∷ (19, not_covered c) ∷ []
