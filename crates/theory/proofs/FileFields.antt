-- The fields of a plan file: where each stands, what is parsed of a plan that was encoded, and what is encoded of a plan that was parsed.
use mathlib.Core.Path.{◌≡◌, refl, sym, ap, ◌∙◌}
use mathlib.Core.Bool.{Bool, true, false, cond}
use mathlib.Core.List.{List, [], ◌++◌, map, flatten, map-id, append-nil, append_assoc}
use Prim.Native.Nat.{ℕ, ◌+◌, ◌-◌, ◌*◌, ◌≤◌, ◌<◌}
use native.Mathlib.Omega.{arith}
use lib.Dec.{ltb, eqb}
use lib.ListN.{length, get_or, take, drop, length-append}
use lib.Seq.{drop-drop, drop_at, take_all}
use Rattle.plan.specs.Lists.{every, segment, below, is_in, running_sums}
use Rattle.plan.specs.Planning.{Contents, row_counts}
use Rattle.plan.specs.File.{encode16, encode32, encode16s, decode16, decode32, decode16s, magic, version_of, version, nodes_at, length_at, length_in, file_length, encode_parts, encode_contents, encode, parse_at, unknowns_in, parse, Whole}
use Rattle.theory.proofs.Lists.{is_in-get_or}
use Rattle.theory.proofs.Segments.{segment-append}
use Rattle.theory.proofs.Ranges.{is_in-below, length-up_from, length-map-up_from, map-get_or}
use Rattle.theory.proofs.Compressed.{sums_counts}
use Rattle.theory.proofs.Coding.{decode16s-length, decode16s-get_or, encode16-length, encode16s-length, decode16-drop, decode32-drop, encoded16, encoded32, decode_blocks, decoded16, decoded_pair, decoded32, segment_blocks, decoded16s}
use Rattle.theory.proofs.Flatten.{blocks_length}

-- the fields, one behind the other
pub encode_fields : (c : Contents)
    → encode c ≡ magic ++ (encode16 version ++ (encode16 c.unknowns ++ (encode32 c.nodes ++ (encode32 c.parts ++ (encode32 c.slots
    ++ (encode16s c.order ++ (encode_parts c ++ (encode16s (row_counts c) ++ encode16s c.rows))))))))
unfolding encode encode_contents flatten
encode_fields c = simp append-nil

-- numbers of 16 bits
abbrev pub Narrow : List ℕ → Type 0
Narrow l = (x : ℕ) → is_in x l ≡ true → x < 65536

-- What has a place in a file: a whole plan, its unknowns and its lists of numbers of 16 bits, with counts of 32, and column starts that are the
-- running sums of the row counts.
pub record Fits (c : Contents) : Type 0 where
  pub whole : Whole c
  pub unknowns : c.unknowns < 65536
  pub nodes : c.nodes < 4294967296
  pub parts : c.parts < 4294967296
  pub slots : c.slots < 4294967296
  pub order : Narrow c.order
  pub sizes : Narrow c.sizes
  pub parents : Narrow c.parents
  pub counts : Narrow (row_counts c)
  pub rows : Narrow c.rows
  pub starts : running_sums 0 (row_counts c) ≡ c.column_starts

-- ---- how long the fields are

-- a part's size and parent
abbrev pair : Contents → ℕ → List ℕ
pair c q = encode16 (get_or c.sizes q 0) ++ encode16 (get_or c.parents q 0)

-- 4 bytes
pair-length : (c : Contents) (q : ℕ) → length (pair c q) ≡ 4
unfolding encode16
pair-length c q = refl

-- 4 bytes to a part
pub parts-length : (c : Contents) → length (encode_parts c) ≡ 4 * c.parts
unfolding encode_parts
parts-length c = blocks_length (pair c) 4 (pair-length c) (below c.parts) ∙ ap (λ (k : ℕ). 4 * k) (length-up_from c.parts 0)

-- a count to a column
pub counts-length : (c : Contents) → length (row_counts c) ≡ c.nodes
unfolding row_counts
counts-length c = length-map-up_from (λ j. get_or c.column_starts (j + 1) 0 - get_or c.column_starts j 0) c.nodes 0

-- 4 bytes to a number of 32 bits
pub word_length : (x : ℕ) → length (encode32 x) ≡ 4
unfolding encode32 encode16
word_length x = refl

-- "its length is 19 + 4n + 4p + 2s"
pub encode-length : (c : Contents) → Whole c → length (encode c) ≡ file_length c
unfolding file_length length_in nodes_at length_at
encode-length c w = rw (encode_fields c)
    (simp length-append (omega (arith, encode16-length version, encode16-length c.unknowns, word_length c.nodes, word_length c.parts, word_length c.slots, encode16s-length c.order, w.order, parts-length c, encode16s-length (row_counts c), counts-length c, encode16s-length c.rows, w.rows)))

-- ---- what is parsed in a version

-- version 1: n stands at byte 5, and each node has one unknown
pub parse_1 : (bytes : List ℕ) → version_of bytes ≡ 1 → parse bytes ≡ parse_at 5 1 bytes
unfolding parse nodes_at unknowns_in
parse_1 bytes e = rw e

-- version 2: the unknowns stand at byte 5, and n at byte 7
pub parse_2 : (bytes : List ℕ) → version_of bytes ≡ 2 → parse bytes ≡ parse_at 7 (decode16 bytes 5) bytes
unfolding parse nodes_at unknowns_in
parse_2 bytes e = rw e

-- n stands at byte 5 to 7
pub nodes_at_within : (v : ℕ) → (5 ≤ nodes_at v) × (nodes_at v ≤ 7)
unfolding nodes_at
nodes_at_within v = go (eqb v 1)
  where
    go : (b : Bool) → (5 ≤ cond b 5 7) × (cond b 5 7 ≤ 7)
    go true = (omega arith, omega arith)
    go false = (omega arith, omega arith)

-- ---- what is parsed of a plan that was encoded

-- it is of version 2
pub encoded_version : (c : Contents) → version_of (encode c) ≡ 2
unfolding version_of decode16 encode16
encoded_version c = ap (λ (l : List ℕ). decode16 l 3) (encode_fields c)

-- the field behind a field
behind : (bytes field rest : List ℕ) (at next : ℕ) → drop at bytes ≡ field ++ rest → at + length field ≡ next → drop next bytes ≡ rest
behind bytes field rest at next e long =
    ap (λ (k : ℕ). drop k bytes) (sym long) ∙ sym (drop-drop (length field) at bytes) ∙ ap (drop (length field)) e ∙ drop_at field rest (length field) refl

-- a number of 32 bits at a place
word_at : (bytes rest : List ℕ) (at x : ℕ) → x < 4294967296 → drop at bytes ≡ encode32 x ++ rest → decode32 bytes at ≡ x
word_at bytes rest at x h e = decode32-drop bytes at ∙ ap (λ (t : List ℕ). decode32 t 0) e ∙ encoded32 x rest h

-- numbers of 16 bits at a place
words_at_lem : (bytes l rest : List ℕ) (at count : ℕ) → Narrow l → length l ≡ count → drop at bytes ≡ encode16s l ++ rest → decode16s bytes at 2 count ≡ l
unfolding encode16s
words_at_lem bytes l rest at count h long e =
    let here : at + 0 ≡ at = omega arith in
    (rw (← long, ← here) (decode_blocks encode16 (λ x. x) 2 0 bytes encode16-length l rest at (λ x m t. encoded16 x t (h x m)) e)) ∙ map-id l

-- what a part's pair says: its size, and its parent
pair_size : (a b : ℕ) (t : List ℕ) → a < 65536 → decode16 ((encode16 a ++ encode16 b) ++ t) 0 ≡ a
pair_size a b t h = ap (λ (l : List ℕ). decode16 l 0) (append_assoc (encode16 a) (encode16 b) t) ∙ encoded16 a (encode16 b ++ t) h

pair-parent : (a b : ℕ) (t : List ℕ) → b < 65536 → decode16 ((encode16 a ++ encode16 b) ++ t) 2 ≡ b
unfolding encode16
pair-parent a b t h = decode16-drop ((encode16 a ++ encode16 b) ++ t) 2 0 ∙ encoded16 b t h

module _ (c : Contents) (fits : Fits c) where
  abbrev n : ℕ
  n = c.nodes

  abbrev p : ℕ
  p = c.parts

  abbrev bytes : List ℕ
  bytes = encode c

  -- what stands from each field on
  abbrev from_rows : List ℕ
  from_rows = encode16s c.rows

  abbrev from_counts : List ℕ
  from_counts = encode16s (row_counts c) ++ from_rows

  abbrev from_parts : List ℕ
  from_parts = encode_parts c ++ from_counts

  abbrev from_order : List ℕ
  from_order = encode16s c.order ++ from_parts

  abbrev from_slots : List ℕ
  from_slots = encode32 c.slots ++ from_order

  abbrev from_nodes : List ℕ
  from_nodes = encode32 n ++ (encode32 p ++ from_slots)

  -- where each field stands
  at_unknowns : drop 5 bytes ≡ encode16 c.unknowns ++ from_nodes
  at_unknowns = unfold encode16 in ap (drop 5) (encode_fields c)

  at_nodes : drop 7 bytes ≡ from_nodes
  at_nodes = behind bytes (encode16 c.unknowns) from_nodes 5 7 at_unknowns (omega (arith, encode16-length c.unknowns))

  at_parts : drop 11 bytes ≡ encode32 p ++ from_slots
  at_parts = behind bytes (encode32 n) (encode32 p ++ from_slots) 7 11 at_nodes (omega (arith, word_length n))

  at_slots : drop 15 bytes ≡ from_slots
  at_slots = behind bytes (encode32 p) from_slots 11 15 at_parts (omega (arith, word_length p))

  at_order : drop 19 bytes ≡ from_order
  at_order = behind bytes (encode32 c.slots) from_order 15 19 at_slots (omega (arith, word_length c.slots))

  at_pairs : drop (19 + 2 * n) bytes ≡ from_parts
  at_pairs = behind bytes (encode16s c.order) from_parts 19 (19 + 2 * n) at_order (omega (arith, encode16s-length c.order, fits.whole.order))

  at_counts : drop (19 + 2 * n + 4 * p) bytes ≡ from_counts
  at_counts = behind bytes (encode_parts c) from_counts (19 + 2 * n) (19 + 2 * n + 4 * p) at_pairs (omega (arith, parts-length c))

  at_rows : drop (19 + 4 * n + 4 * p) bytes ≡ from_rows
  at_rows = behind bytes (encode16s (row_counts c)) from_rows (19 + 2 * n + 4 * p) (19 + 4 * n + 4 * p) at_counts (omega (arith, encode16s-length (row_counts c), counts-length c))

  -- what is parsed there
  unknowns-back : decode16 bytes 5 ≡ c.unknowns
  unknowns-back = decode16-drop bytes 5 0 ∙ ap (λ (t : List ℕ). decode16 t 0) at_unknowns ∙ encoded16 c.unknowns from_nodes fits.unknowns

  nodes-back : decode32 bytes 7 ≡ n
  nodes-back = word_at bytes (encode32 p ++ from_slots) 7 n fits.nodes at_nodes

  parts-back : decode32 bytes 11 ≡ p
  parts-back = word_at bytes from_slots 11 p fits.parts at_parts

  slots-back : decode32 bytes 15 ≡ c.slots
  slots-back = word_at bytes from_order 15 c.slots fits.slots at_slots

  order-back : decode16s bytes 19 2 n ≡ c.order
  order-back = words_at_lem bytes c.order from_parts 19 n fits.order fits.whole.order at_order

  counts-back : decode16s bytes (19 + 2 * n + 4 * p) 2 n ≡ row_counts c
  counts-back = words_at_lem bytes (row_counts c) from_rows (19 + 2 * n + 4 * p) n fits.counts (counts-length c) at_counts

  rows_back : decode16s bytes (19 + 4 * n + 4 * p) 2 c.slots ≡ c.rows
  rows_back = words_at_lem bytes c.rows [] (19 + 4 * n + 4 * p) c.slots fits.rows fits.whole.rows (at_rows ∙ sym (append-nil from_rows))

  -- what the parts' pairs say at their byte k
  pairs-back : (k at : ℕ) (l : List ℕ) → length l ≡ p → ((q : ℕ) → q < p → (t : List ℕ) → decode16 (pair c q ++ t) k ≡ get_or l q 0) → 19 + 2 * n + k ≡ at
      → decode16s bytes at 4 p ≡ l
  unfolding encode_parts
  pairs-back k at l many each place =
      let same : length (below p) ≡ p = length-up_from p 0 in
      ap (λ (i : ℕ). decode16s bytes i 4 p) (sym place) ∙ ap (decode16s bytes (19 + 2 * n + k) 4) (sym same)
      ∙ decode_blocks (pair c) (λ q. get_or l q 0) 4 k bytes (pair-length c) (below p) from_counts (19 + 2 * n) (λ q m t. each q (is_in-below p q m) t) at_pairs
      ∙ ap (λ (i : ℕ). map (λ q. get_or l q 0) (below i)) (sym many) ∙ map-get_or l

  sizes-back : decode16s bytes (19 + 2 * n) 4 p ≡ c.sizes
  sizes-back =
      pairs-back 0 (19 + 2 * n) c.sizes fits.whole.sizes
      (λ q l t. pair_size _ _ t (fits.sizes (get_or c.sizes q 0) (is_in-get_or c.sizes q 0 (omega (arith, fits.whole.sizes))))) (omega arith)

  parents-back : decode16s bytes (21 + 2 * n) 4 p ≡ c.parents
  parents-back =
      pairs-back 2 (21 + 2 * n) c.parents fits.whole.parents
      (λ q l t. pair-parent _ _ t (fits.parents (get_or c.parents q 0) (is_in-get_or c.parents q 0 (omega (arith, fits.whole.parents))))) (omega arith)

  -- the bytes of version 2, parsed, are the plan
  parsed_back : parse_at 7 (decode16 bytes 5) bytes ≡ c
  unfolding parse_at
  parsed_back = rw (unknowns-back, nodes-back, parts-back, slots-back, order-back, sizes-back, parents-back, counts-back, rows_back, fits.starts)

  -- An encoded plan, parsed, is the plan.
  pub parse-encode : parse (encode c) ≡ c
  parse-encode = parse_2 bytes (encoded_version c) ∙ parsed_back

-- ---- what is encoded of a plan that was parsed

-- the counts in the file, whose n stands at byte `at`, are those of the plan
counts_at_lem : (at unknowns : ℕ) (bytes : List ℕ)
    → let c : Contents = parse_at at unknowns bytes in row_counts c ≡ decode16s bytes (at + 12 + 2 * c.nodes + 4 * c.parts) 2 c.nodes
unfolding row_counts parse_at
counts_at_lem at unknowns bytes =
    let c : Contents = parse_at at unknowns bytes in
    let counts : List ℕ = decode16s bytes (at + 12 + 2 * c.nodes + 4 * c.parts) 2 c.nodes in
    let many : length counts ≡ c.nodes = decode16s-length bytes (at + 12 + 2 * c.nodes + 4 * c.parts) 2 c.nodes in
    ap (λ (k : ℕ). map (λ j. get_or (running_sums 0 counts) (j + 1) 0 - get_or (running_sums 0 counts) j 0) (below k)) (sym many) ∙ sums_counts counts

pub counts_read : (bytes : List ℕ)
    → row_counts (parse bytes) ≡ decode16s bytes (nodes_at (version_of bytes) + 12 + 2 * (parse bytes).nodes + 4 * (parse bytes).parts) 2 (parse bytes).nodes
unfolding parse
counts_read bytes = counts_at_lem (nodes_at (version_of bytes)) (unknowns_in bytes) bytes

module _ (bytes : List ℕ) (small : every (λ b. ltb b 256) bytes ≡ true) (marked : take 3 bytes ≡ magic) (known : version_of bytes ≡ 2)
    (long : length bytes ≡ length_in 2 (parse_at 7 (decode16 bytes 5) bytes)) where
  abbrev c : Contents
  c = parse_at 7 (decode16 bytes 5) bytes

  -- a field of w bytes, and those behind it
  join : (field rest : List ℕ) (a w : ℕ) → field ≡ segment bytes a (a + w) → a + w ≤ length bytes → rest ≡ segment bytes (a + w) (length bytes)
      → field ++ rest ≡ segment bytes a (length bytes)
  join field rest a w e fits f = rw (e, f) (sym (segment-append bytes a (a + w) (length bytes) (omega arith) fits))

  -- the parts' pairs are the bytes that say them
  parts_read : 19 + 2 * c.nodes + 4 * c.parts ≤ length bytes → encode_parts c ≡ segment bytes (19 + 2 * c.nodes) (19 + 2 * c.nodes + 4 * c.parts)
  unfolding encode_parts parse_at
  parts_read fits =
      segment_blocks (pair c) 4 bytes (19 + 2 * c.nodes) c.parts (λ q l.
      let at : ℕ = 19 + 2 * c.nodes + 4 * q in
      let place : 21 + 2 * c.nodes + 4 * q ≡ at + 2 = omega arith in
      rw (decode16s-get_or bytes (19 + 2 * c.nodes) 4 c.parts q l, decode16s-get_or bytes (21 + 2 * c.nodes) 4 c.parts q l, place)
      (decoded_pair bytes small at (omega arith)))

  -- what bytes of version 2 say, encoded, is the bytes
  encoded_back : encode c ≡ bytes
  unfolding version_of parse_at length_in nodes_at length_at
  encoded_back =
      let n : ℕ = c.nodes in
      let p : ℕ = c.parts in
      let s : ℕ = c.slots in
      let whole : 19 + 2 * n + 4 * p + 2 * n + 2 * s ≡ length bytes = omega arith in
      let place : 19 + 4 * n + 4 * p ≡ 19 + 2 * n + 4 * p + 2 * n = omega arith in
      let rows : encode16s c.rows ≡ segment bytes (19 + 2 * n + 4 * p + 2 * n) (length bytes) =
      rw (place, ← whole) (decoded16s bytes small (19 + 2 * n + 4 * p + 2 * n) s (omega arith)) in
      let counts : encode16s (row_counts c) ≡ segment bytes (19 + 2 * n + 4 * p) (19 + 2 * n + 4 * p + 2 * n) =
      ap encode16s (counts_at_lem 7 (decode16 bytes 5) bytes) ∙ decoded16s bytes small (19 + 2 * n + 4 * p) n (omega arith) in
      encode_fields c
      ∙ join magic _ 0 3 (sym marked) (omega arith)
      (join (encode16 version) _ 3 2 (ap encode16 (sym known) ∙ decoded16 bytes small 3 (omega arith)) (omega arith)
      (join (encode16 c.unknowns) _ 5 2 (decoded16 bytes small 5 (omega arith)) (omega arith)
      (join (encode32 n) _ 7 4 (decoded32 bytes small 7 (omega arith)) (omega arith)
      (join (encode32 p) _ 11 4 (decoded32 bytes small 11 (omega arith)) (omega arith)
      (join (encode32 s) _ 15 4 (decoded32 bytes small 15 (omega arith)) (omega arith)
      (join (encode16s c.order) _ 19 (2 * n) (decoded16s bytes small 19 n (omega arith)) (omega arith)
      (join (encode_parts c) _ (19 + 2 * n) (4 * p) (parts_read (omega arith)) (omega arith)
      (join (encode16s (row_counts c)) _ (19 + 2 * n + 4 * p) (2 * n) counts (omega arith) rows))))))))
      ∙ take_all (length bytes - 0) bytes (omega arith)

  -- A plan that was parsed, encoded, is the bytes again.
  pub encode-parse : encode (parse bytes) ≡ bytes
  encode-parse = ap encode (parse_2 bytes known) ∙ encoded_back
