-- The round trips: a written plan that is read, a plan that was read and is written back, a planned plan; and what every plan that is read has
-- passed.
use mathlib.Core.Path.{◌≡◌, refl, sym, ap, subst, ◌∙◌}
use mathlib.Core.Bool.{Bool, false, not, ◌&&◌, ◌||◌, and-false}
use mathlib.Core.List.{List, [], ◌∷◌, ◌++◌}
use Prim.Native.Nat.{ℕ, zero, suc, ◌+◌, ◌*◌, ◌≤◌}
use native.Mathlib.Omega.{arith}
use lib.Dec.{ltb, eqb}
use lib.ListN.{length, take, length-take}
use lib.Seq.{length-take-le}
use borrow.Author.Tests.{eqb-true, eq-eqb, ne_eqb, ltb-false, le-ltb, not-false}
use Rattle.plan.specs.Lists.{same}
use Rattle.plan.specs.Refusals.{Checks, first_fault}
use Rattle.plan.specs.Mesh.{Mesh, mesh_checks}
use Rattle.plan.specs.Planning.{Contents, plan_by, plan_of, Capacity, bad_unknowns, buffers_too_short, rows_too_short, plan_checks, hand_out, planning}
use Rattle.plan.specs.File.{decode16s, magic, version_of, nodes_at, length_at, length_in, file_length, encode, parse_at, unknowns_in, parse, Whole, bad_header, contents_checks}
use Rattle.plan.specs.Reading.{too_few_bytes, bad_magic, bad_version, too_few_in_version2, bad_length, header_checks, read_checks, reading}
use Rattle.plan.specs.Writing.{bad_supply, used, supplied_checks, output_too_short, write_checks, WriteOutcome, write_out, writing}
use Rattle.plan.specs.RoundTrips.{handed, accepted_writing, WrittenIsFile, WrittenThenRead, ReadThenWritten, ReadWrittenRead, PlannedIsWritable, PlannedThenRead, OtherVersions, Sound, ReadIsSound}
use Rattle.theory.proofs.Bools.{or_false_left, or_false_right, or_neither}
use Rattle.theory.proofs.Lists.{same_equal}
use Rattle.theory.proofs.Coding.{decode16s-length}
use Rattle.theory.proofs.Checked.{good-starts}
use Rattle.theory.proofs.Refusals.{no_fault, fault_here, fault_later, first_nil, no_fault_first, first-none}
use Rattle.theory.proofs.Orders.{order-length}
use Rattle.theory.proofs.Compressed.{sums_length}
use Rattle.theory.proofs.FileFields.{Fits, encode_fields, encode-length, parse_2, encoded_version, parse-encode, encode-parse}
use Rattle.theory.proofs.Fitting.{passes-sound, sound-passes, sound-fits}
use Rattle.theory.proofs.Eliminated.{columns-starts}
use Rattle.theory.proofs.Planned.{planned-once, planned-sizes, planned-parents, planned-nodes, hand_number, handed-accepted, handed-planned, planning-passes}
use Rattle.theory.proofs.Readable.{planned-header, planned_readable}

-- ---- slices that may be longer than their counts

-- a slice is long enough where as many entries can be taken as its count
enough : (k : ℕ) (l : List ℕ) → length (take k l) ≡ k → ltb (length l) k ≡ false
enough k l e = le-ltb (length l) k (omega (arith, length-take k l))

-- and the other way round
exactly : (k : ℕ) (l : List ℕ) → ltb (length l) k ≡ false → length (take k l) ≡ k
exactly k l h = length-take-le k l (ltb-false (length l) k h)

module _ (c : Contents) where
  -- whether a slice is shorter than its count
  abbrev short_order : Bool
  short_order = ltb (length c.order) c.nodes

  abbrev short_sizes : Bool
  short_sizes = ltb (length c.sizes) c.parts

  abbrev short_parents : Bool
  short_parents = ltb (length c.parents) c.parts

  abbrev short_starts : Bool
  short_starts = ltb (length c.column_starts) (c.nodes + 1)

  abbrev short_rows : Bool
  short_rows = ltb (length c.rows) c.slots

  -- the header is that of the used entries
  used-header : bad_header (used c) ≡ bad_header c
  unfolding used bad_header
  used-header = refl

  -- and so are the unknowns
  used-unknowns : (used c).unknowns ≡ c.unknowns
  unfolding used
  used-unknowns = refl

  -- and the length of the file
  pub used-long : file_length (used c) ≡ file_length c
  unfolding used file_length length_in
  used-long = refl

  -- 13 of slices: the header's limits, and the used entries are a whole plan
  pub supply_says : bad_supply c ≡ false → (bad_header (used c) ≡ false) × Whole (used c)
  unfolding bad_supply used
  supply_says h =
      let bad : Bool = bad_header c in
      let five : (bad || short_order || short_sizes || short_parents || short_starts) ≡ false = or_false_left (bad || short_order || short_sizes || short_parents || short_starts) short_rows h in
      let four : (bad || short_order || short_sizes || short_parents) ≡ false = or_false_left (bad || short_order || short_sizes || short_parents) short_starts five in
      let three : (bad || short_order || short_sizes) ≡ false = or_false_left (bad || short_order || short_sizes) short_parents four in
      let two : (bad || short_order) ≡ false = or_false_left (bad || short_order) short_sizes three in (
        used-header ∙ or_false_left bad short_order two,
        record {
          order = exactly c.nodes c.order (or_false_right bad short_order two);
          sizes = exactly c.parts c.sizes (or_false_right (bad || short_order) short_sizes three);
          parents = exactly c.parts c.parents (or_false_right (bad || short_order || short_sizes) short_parents four);
          column_starts = exactly (c.nodes + 1) c.column_starts (or_false_right (bad || short_order || short_sizes || short_parents) short_starts five);
          rows = exactly c.slots c.rows (or_false_right (bad || short_order || short_sizes || short_parents || short_starts) short_rows h);
        },
      )

  -- and the other way round
  supply_good : bad_header (used c) ≡ false → Whole (used c) → bad_supply c ≡ false
  unfolding bad_supply used
  supply_good header whole =
      let bad : Bool = bad_header c in
      or_neither (bad || short_order || short_sizes || short_parents || short_starts) short_rows
      (or_neither (bad || short_order || short_sizes || short_parents) short_starts
      (or_neither (bad || short_order || short_sizes) short_parents
      (or_neither (bad || short_order) short_sizes
      (or_neither bad short_order (sym used-header ∙ header) (enough c.nodes c.order whole.order))
      (enough c.parts c.sizes whole.sizes))
      (enough c.parts c.parents whole.parents))
      (enough (c.nodes + 1) c.column_starts whole.column_starts))
      (enough c.slots c.rows whole.rows)

-- ---- writing

-- the number that a writing shows is that of the first fault
write_number : (k : ℕ) (c : Contents) → (write_out k c).reply.number ≡ k
unfolding write_out
write_number zero c = refl
write_number (suc k) c = refl

-- where the checks of supplied slices find no fault, the used entries have none
pub supplied_sound : (c : Contents) → first_fault (supplied_checks c) ≡ 0 → Sound (used c)
unfolding supplied_checks
supplied_sound c h =
    let c28 = no_fault 28 (bad_unknowns c.unknowns) _ (omega arith) h in
    let c13 = no_fault 13 (bad_supply c) _ (omega arith) c28.1 in
    let supply = supply_says c c13.0 in
    passes-sound (used c) supply.1 (ap bad_unknowns (used-unknowns c) ∙ c28.0) supply.0 c13.1

-- an accepted writing: the used entries have no fault, and the bytes are theirs
pub write_says : (c : Contents) (output : ℕ) → (writing c output).reply.number ≡ 0
    → Sound (used c) × ((writing c output).bytes ≡ encode (used c))
unfolding writing write_checks write_out
write_says c output h =
    let none : first_fault (write_checks c output) ≡ 0 = sym (write_number (first_fault (write_checks c output)) c) ∙ h in
    (supplied_sound c (no_fault_first (supplied_checks c) _ none), ap (λ (k : ℕ). (write_out k c).bytes) none)

-- and the other way round, given room
pub write_accepts : (c : Contents) (output : ℕ) → Sound (used c) → file_length c ≤ output → writing c output ≡ accepted_writing (encode (used c))
unfolding writing write_checks supplied_checks write_out output_too_short
write_accepts c output sound fits =
    let eight : Checks = (8, output_too_short c output) ∷ [] in
    let none : first_fault (write_checks c output) ≡ 0 =
    fault_later 28 (bad_unknowns c.unknowns) _ (ap bad_unknowns (sym (used-unknowns c)) ∙ sound.unknowns)
    ∙ fault_later 13 (bad_supply c) (contents_checks (used c) ++ eight) (supply_good c sound.header sound.whole) ∙ sound-passes (used c) eight sound
    ∙ fault_later 8 (output_too_short c output) [] (le-ltb output (file_length c) fits) ∙ first_nil in
    let long : file_length c ≡ length (encode (used c)) = sym (encode-length (used c) sound.whole ∙ used-long c) in
    rw (none, long)

-- An accepted writing is the file of the used entries, which fits the output.
pub written_is_file : WrittenIsFile
unfolding writing write_checks supplied_checks output_too_short
written_is_file c output h =
    let w = write_says c output h in
    let eight : Checks = (8, output_too_short c output) ∷ [] in
    let none : first_fault (write_checks c output) ≡ 0 = sym (write_number (first_fault (write_checks c output)) c) ∙ h in
    let c28 = no_fault 28 (bad_unknowns c.unknowns) _ (omega arith) none in
    let late : first_fault (contents_checks (used c) ++ eight) ≡ 0 = (no_fault 13 (bad_supply c) _ (omega arith) c28.1).1 in
    let c8 = no_fault 8 (output_too_short c output) [] (omega arith) (sym (sound-passes (used c) eight w.0) ∙ late) in
    let fits : file_length c ≤ output = ltb-false output (file_length c) c8.0 in
    (write_accepts c output w.0 fits, omega (arith, encode-length (used c) w.0.whole, used-long c))

-- ---- reading

-- what is parsed is a whole plan
pub parsed_whole : (at u : ℕ) (bytes : List ℕ) → Whole (parse_at at u bytes)
unfolding parse_at
parsed_whole at u bytes =
    let n : ℕ = (parse_at at u bytes).nodes in
    let counts : ℕ = at + 12 + 2 * n + 4 * (parse_at at u bytes).parts in
    record {
      order = decode16s-length bytes _ 2 _;
      sizes = decode16s-length bytes _ 4 _;
      parents = decode16s-length bytes _ 4 _;
      column_starts = sums_length 0 (decode16s bytes counts 2 n) ∙ ap (λ (k : ℕ). k + 1) (decode16s-length bytes counts 2 n);
      rows = decode16s-length bytes _ 2 _;
    }

-- so is what is read
pub read_whole : (bytes : List ℕ) → Whole (parse bytes)
unfolding parse
read_whole bytes = parsed_whole (nodes_at (version_of bytes)) (unknowns_in bytes) bytes

-- what checks 10 to 14 and 28 tell of the bytes where they find no fault
pub record Header (bytes : List ℕ) : Type 0 where
  pub mark : take 3 bytes ≡ magic
  pub unknowns : bad_unknowns (parse bytes).unknowns ≡ false
  pub good : bad_header (parse bytes) ≡ false
  pub long : length bytes ≡ length_in (version_of bytes) (parse bytes)

-- they tell it
pub header_says : (bytes : List ℕ) → first_fault (header_checks bytes) ≡ 0 → Header bytes
unfolding header_checks bad_magic bad_length
header_says bytes h =
    let c10 = no_fault 10 (too_few_bytes bytes) _ (omega arith) h in
    let c11 = no_fault 11 (bad_magic bytes) _ (omega arith) c10.1 in
    let c12 = no_fault 12 (bad_version bytes) _ (omega arith) c11.1 in
    let c10again = no_fault 10 (too_few_in_version2 bytes) _ (omega arith) c12.1 in
    let c28 = no_fault 28 (bad_unknowns (parse bytes).unknowns) _ (omega arith) c10again.1 in
    let c13 = no_fault 13 (bad_header (parse bytes)) _ (omega arith) c28.1 in
    let c14 = no_fault 14 (bad_length bytes) _ (omega arith) c13.1 in
    record {
      mark = same_equal (take 3 bytes) magic (not-false (same (take 3 bytes) magic) c11.0);
      unknowns = c28.0;
      good = c13.0;
      long = eqb-true (length bytes) (length_in (version_of bytes) (parse bytes)) (not-false (eqb (length bytes) (length_in (version_of bytes) (parse bytes))) c14.0);
    }

-- an accepted reading: checks 10 to 14 and 28 find no fault in the bytes, nor 28, 13 and 15 to 19 in the plan
pub read_says : (bytes : List ℕ) (room : Capacity) → (reading bytes room).reply.number ≡ 0 → Header bytes × Sound (parse bytes)
unfolding reading read_checks header_checks
read_says bytes room h =
    let none : first_fault (read_checks bytes room) ≡ 0 = sym (hand_number (first_fault (read_checks bytes room)) (parse bytes)) ∙ h in
    let first : first_fault (header_checks bytes) ≡ 0 = no_fault_first (header_checks bytes) _ none in
    let header : Header bytes = header_says bytes first in
    (header, passes-sound (parse bytes) (read_whole bytes) header.unknowns header.good (no_fault_first (contents_checks (parse bytes)) _ (sym (first-none (header_checks bytes) _ refl first) ∙ none)))

-- and 8 and 9 find none in the buffers
read_room : (bytes : List ℕ) (room : Capacity) → first_fault (read_checks bytes room) ≡ 0
    → (buffers_too_short (parse bytes).nodes room ≡ false) × (rows_too_short (parse bytes) room ≡ false)
unfolding read_checks header_checks contents_checks
read_room bytes room none =
    let header = no_fault_first (header_checks bytes) _ none in
    let behind = sym (first-none (header_checks bytes) _ refl header) ∙ none in
    let contents = no_fault_first (contents_checks (parse bytes)) _ behind in
    let c8 = no_fault 8 (buffers_too_short (parse bytes).nodes room) _ (omega arith) (sym (first-none (contents_checks (parse bytes)) _ refl contents) ∙ behind) in
    (c8.0, (no_fault 9 (rows_too_short (parse bytes) room) [] (omega arith) c8.1).0)

-- what an accepted reading hands out
pub handed_read : (bytes : List ℕ) (room : Capacity) → (reading bytes room).reply.number ≡ 0 → handed (reading bytes room) ≡ parse bytes
unfolding reading
handed_read bytes room h = handed-accepted (first_fault (read_checks bytes room)) (parse bytes) h

-- checks 10 to 12 of an encoded plan, and 10 again
pub file-some : (c : Contents) → 19 ≤ file_length c
unfolding file_length length_in nodes_at length_at
file-some c = omega arith

pub encoded_mark : (c : Contents) → take 3 (encode c) ≡ magic
encoded_mark c = ap (take 3) (encode_fields c)

mark_known : (c : Contents) → bad_magic (encode c) ≡ false
unfolding bad_magic
mark_known c = ap (λ (l : List ℕ). not (same l magic)) (encoded_mark c)

version-known : (c : Contents) → bad_version (encode c) ≡ false
unfolding bad_version
version-known c = ap (λ (v : ℕ). not (eqb v 1 || eqb v 2)) (encoded_version c)

bytes_enough : (bytes : List ℕ) → 19 ≤ length bytes → too_few_in_version2 bytes ≡ false
unfolding too_few_in_version2
bytes_enough bytes long = ap (λ (b : Bool). eqb (version_of bytes) 2 && b) (le-ltb (length bytes) 19 long) ∙ and-false (eqb (version_of bytes) 2)

encoded_formula : (c : Contents) → Fits c → length_in (version_of (encode c)) (parse (encode c)) ≡ file_length c
unfolding file_length
encoded_formula c fits = rw (encoded_version c, parse-encode c fits)

-- An encoded plan without a fault is read, into buffers that are long enough, as the plan.
pub read_encoded : (c : Contents) (room : Capacity) → Sound c → buffers_too_short c.nodes room ≡ false → rows_too_short c room ≡ false
    → reading (encode c) room ≡ hand_out 0 c
unfolding reading read_checks header_checks too_few_bytes bad_length
read_encoded c room sound eight nine =
    let fits : Fits c = sound-fits c sound in
    let bytes : List ℕ = encode c in
    let behind : Contents → Checks = λ d. (8, buffers_too_short d.nodes room) ∷ (9, rows_too_short d room) ∷ [] in
    let e : parse bytes ≡ c = parse-encode c fits in
    let long : length bytes ≡ file_length c = encode-length c sound.whole in
    let none : first_fault (read_checks bytes room) ≡ 0 =
    fault_later 10 (too_few_bytes bytes) _ (le-ltb (length bytes) 17 (omega (arith, long, file-some c)))
    ∙ fault_later 11 (bad_magic bytes) _ (mark_known c) ∙ fault_later 12 (bad_version bytes) _ (version-known c)
    ∙ fault_later 10 (too_few_in_version2 bytes) _ (bytes_enough bytes (omega (arith, long, file-some c)))
    ∙ fault_later 28 (bad_unknowns (parse bytes).unknowns) _ (ap (λ (d : Contents). bad_unknowns d.unknowns) e ∙ sound.unknowns)
    ∙ fault_later 13 (bad_header (parse bytes)) _ (ap bad_header e ∙ sound.header)
    ∙ fault_later 14 (bad_length bytes) _ (ap not (eq-eqb (length bytes) (length_in (version_of bytes) (parse bytes)) (long ∙ sym (encoded_formula c fits))))
    ∙ ap (λ (d : Contents). first_fault (contents_checks d ++ behind d)) e ∙ sound-passes c (behind c) sound
    ∙ fault_later 8 (buffers_too_short c.nodes room) _ eight ∙ fault_later 9 (rows_too_short c room) [] nine ∙ first_nil in
    ap (λ (k : ℕ). hand_out k (parse bytes)) none ∙ ap (hand_out 0) e

-- ---- other versions

-- Every other version is refused with 12.
pub other_versions : OtherVersions
unfolding reading read_checks header_checks too_few_bytes bad_magic bad_version
other_versions bytes room long mark not1 not2 = ap (λ (k : ℕ). hand_out k (parse bytes))
    (fault_later 10 (too_few_bytes bytes) _ (le-ltb (length bytes) 17 long)
    ∙ fault_later 11 (bad_magic bytes) _ (ap (λ (l : List ℕ). not (same l magic)) mark)
    ∙ fault_here 12 (bad_version bytes) _ (rw (ne_eqb (version_of bytes) 1 not1, ne_eqb (version_of bytes) 2 not2)))

-- ---- the round trips

-- Written, then read: the used entries.
pub written_then_read : WrittenThenRead
written_then_read c output room h eight nine =
    let w = write_says c output h in
    rw w.1 (read_encoded (used c) room w.0 (unfold used in eight) (unfold used rows_too_short in nine))

-- Read, then written: the bytes.
pub read_then_written : ReadThenWritten
unfolding file_length
read_then_written bytes room c output small known h same-plan fits =
    let r = read_says bytes room h in
    let e : used c ≡ parse bytes = same-plan ∙ handed_read bytes room h in
    let asked : length bytes ≡ length_in 2 (parse bytes) = r.0.long ∙ ap (λ (v : ℕ). length_in v (parse bytes)) known in
    let again : encode (used c) ≡ bytes = ap encode e ∙ encode-parse bytes small r.0.mark known (asked ∙ ap (length_in 2) (parse_2 bytes known)) in
    let long : file_length c ≡ length bytes = sym (used-long c) ∙ ap (length_in 2) e ∙ sym asked in
    write_accepts c output (subst Sound (sym e) r.1) (omega arith) ∙ ap accepted_writing again

-- Read, written, then read: the same outcome.
pub read_written_read : ReadWrittenRead
unfolding reading
read_written_read bytes room c output h same-plan fits =
    let e : used c ≡ parse bytes = same-plan ∙ handed_read bytes room h in
    let r = read_says bytes room h in
    let none : first_fault (read_checks bytes room) ≡ 0 = sym (hand_number (first_fault (read_checks bytes room)) (parse bytes)) ∙ h in
    let w : writing c output ≡ accepted_writing (encode (used c)) = write_accepts c output (subst Sound (sym e) r.1) fits in
    let enough = read_room bytes room none in (
      w,
      ap (λ (o : WriteOutcome). reading o.bytes room) w ∙ ap (λ (d : Contents). reading (encode d) room) e
          ∙ read_encoded (parse bytes) room r.1 enough.0 enough.1 ∙ sym (ap (λ (k : ℕ). hand_out k (parse bytes)) none),
    )

-- what an accepted planning tells of the mesh and of the buffers
record Accepted (u : ℕ) (m : Mesh) (room : Capacity) : Type 0 where
  none : first_fault (plan_checks u m room) ≡ 0
  unknowns : bad_unknowns u ≡ false
  mesh : first_fault (mesh_checks m) ≡ 0
  buffers : buffers_too_short (plan_of u m).nodes room ≡ false
  rows : rows_too_short (plan_of u m) room ≡ false

-- an accepted planning tells them
plan_says : (u : ℕ) (m : Mesh) (room : Capacity) → (planning u m room).reply.number ≡ 0 → Accepted u m room
unfolding planning plan_checks mesh_checks
plan_says u m room h =
    let behind : Checks = (8, buffers_too_short m.nodes room) ∷ (9, rows_too_short (plan_of u m) room) ∷ [] in
    let none : first_fault (plan_checks u m room) ≡ 0 = sym (hand_number (first_fault (plan_checks u m room)) (plan_of u m)) ∙ h in
    let passes = planning-passes u m room none in
    let rest = (no_fault 28 (bad_unknowns u) (mesh_checks m ++ behind) (omega arith) none).1 in
    let c8 = no_fault 8 (buffers_too_short m.nodes room) _ (omega arith) (sym (first-none (mesh_checks m) behind refl passes.1) ∙ rest) in
    record {
      none = none;
      unknowns = passes.0;
      mesh = passes.1;
      buffers = ap (λ (n : ℕ). buffers_too_short n room) (planned-nodes u m) ∙ c8.0;
      rows = (no_fault 9 (rows_too_short (plan_of u m) room) [] (omega arith) c8.1).0;
    }

-- a planned plan is whole
planned-whole : (u : ℕ) (m : Mesh) → Whole (plan_of u m)
unfolding plan_of plan_by
planned-whole u m = record { order = order-length m.nodes (plan_of u m).order (planned-once u m); sizes = planned-sizes u m; parents = planned-parents u m; column_starts = (good-starts m.nodes _ (columns-starts m (plan_of u m).order)).many; rows = refl }

-- with the unknowns that it is for
planned-unknowns : (u : ℕ) (m : Mesh) → (plan_of u m).unknowns ≡ u
unfolding plan_of plan_by
planned-unknowns u m = refl

-- and has none of the faults
planned-sound : (u : ℕ) (m : Mesh) → bad_unknowns u ≡ false → first_fault (mesh_checks m) ≡ 0 → Sound (plan_of u m)
planned-sound u m unknowns passes =
    passes-sound (plan_of u m) (planned-whole u m) (ap bad_unknowns (planned-unknowns u m) ∙ unknowns) (planned-header u m passes) (planned_readable u m passes)

-- so what an accepted planning hands out has none of them
pub planned_is_sound : (u : ℕ) (m : Mesh) (room : Capacity) → (planning u m room).reply.number ≡ 0 → Sound (plan_of u m)
planned_is_sound u m room h = let p : Accepted u m room = plan_says u m room h in planned-sound u m p.unknowns p.mesh

-- What planning hands out is written.
pub planned_is_writable : PlannedIsWritable
planned_is_writable u m room c output h same-plan fits =
    let e : used c ≡ plan_of u m = same-plan ∙ handed-planned u m room h in
    write_accepts c output (subst Sound (sym e) (planned_is_sound u m room h)) fits

-- Planned, written, then read: the same outcome.
pub planned_then_read : PlannedThenRead
planned_then_read u m room c output h same-plan fits =
    let p : Accepted u m room = plan_says u m room h in
    let e : used c ≡ plan_of u m = same-plan ∙ handed-planned u m room h in
    ap (λ (w : WriteOutcome). reading w.bytes room) (planned_is_writable u m room c output h same-plan fits) ∙ ap (λ (d : Contents). reading (encode d) room) e
    ∙ read_encoded (plan_of u m) room (planned_is_sound u m room h) p.buffers p.rows ∙ sym (unfold planning in ap (λ (k : ℕ). hand_out k (plan_of u m)) p.none)

-- What reading hands out has none of the faults.
pub read_is_sound : ReadIsSound
read_is_sound bytes room h = subst Sound (sym (handed_read bytes room h)) (read_says bytes room h).1
