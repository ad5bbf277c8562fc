-- `planfile::writer::write_plan` meets its contract: the fields, each behind what is written.
use mathlib.Core.Path.{◌≡◌, sym, ap, ◌∙◌}
use mathlib.Core.List.{List, ◌++◌}
use Prim.Native.Nat.{ℕ, ◌+◌, ◌*◌, ◌≤◌}
use native.Mathlib.Omega.{arith}
use lib.ListN.{length}
use Rattle.plan.specs.Lists.{written}
use Rattle.plan.specs.Mesh.{max_nodes}
use Rattle.plan.specs.Planning.{row_counts}
use Rattle.plan.specs.File.{encode16s, nodes_at, length_at, length_in, file_length, encode_parts, bad_header}
use Rattle.theory.proofs.Written.{Reached, lent_from, reached-long, reached-room, reached_more}
use Rattle.theory.proofs.Coding.{encode16s-length}
use Rattle.theory.proofs.FileFields.{parts-length, counts-length}
use Rattle.theory.proofs.Fitting.{counts-few}
use Rattle.planfile.specs.LentPlans.{used_by}
use Rattle.planfile.specs.Filed.{header_of}
use Rattle.planfile.proofs.WrittenFile.{header-length, file_fields}
use Rattle.planfile.proofs.writer.write_plan.Goals.{Start, After-write_header, After-write16s, After-write_parts, After-write_row_counts, After-write16s-2}
use Rattle.planfile.proofs.writer.write_plan.Goals as goal

-- which has room for the file
room : (c : Start) → 19 + 4 * (used_by c.args.plan.now).nodes + 4 * (used_by c.args.plan.now).parts + 2 * (used_by c.args.plan.now).slots ≤ length c.args.bytes.now
unfolding file_length length_in nodes_at length_at
room c = c.requires.room

-- which has room for the file
room_at_after_write_header : (c : After-write_header) → 19 + 4 * (used_by c.args.plan.now).nodes + 4 * (used_by c.args.plan.now).parts + 2 * (used_by c.args.plan.now).slots ≤ length c.args.bytes.now
unfolding file_length length_in nodes_at length_at
room_at_after_write_header c = c.requires.room

-- which has room for the file
room_at_after_write_parts : (c : After-write_parts) → 19 + 4 * (used_by c.args.plan.now).nodes + 4 * (used_by c.args.plan.now).parts + 2 * (used_by c.args.plan.now).slots ≤ length c.args.bytes.now
unfolding file_length length_in nodes_at length_at
room_at_after_write_parts c = c.requires.room

-- which has room for the file
room_at_after_write_row_counts : (c : After-write_row_counts) → 19 + 4 * (used_by c.args.plan.now).nodes + 4 * (used_by c.args.plan.now).parts + 2 * (used_by c.args.plan.now).slots ≤ length c.args.bytes.now
unfolding file_length length_in nodes_at length_at
room_at_after_write_row_counts c = c.requires.room

-- which has room for the file
room_at_after_write16s : (c : After-write16s) → 19 + 4 * (used_by c.args.plan.now).nodes + 4 * (used_by c.args.plan.now).parts + 2 * (used_by c.args.plan.now).slots ≤ length c.args.bytes.now
unfolding file_length length_in nodes_at length_at
room_at_after_write16s c = c.requires.room

-- which has room for the file
room_at_after_write16s_2 : (c : After-write16s-2) → 19 + 4 * (used_by c.args.plan.now).nodes + 4 * (used_by c.args.plan.now).parts + 2 * (used_by c.args.plan.now).slots ≤ length c.args.bytes.now
unfolding file_length length_in nodes_at length_at
room_at_after_write16s_2 c = c.requires.room

-- numbers of 64 bits, since the counts are small
small : (c : Start) → ((used_by c.args.plan.now).nodes ≤ max_nodes) × ((used_by c.args.plan.now).parts ≤ max_nodes) × ((used_by c.args.plan.now).slots ≤ 8386560)
small c = counts-few (used_by c.args.plan.now) c.args.plan.now.exact.header

-- ---- the header
pub write_header-requires : goal.write_header-requires
unfolding bad_header
write_header-requires c = (c.requires.passed.0, omega (arith, room (goal.at.write_header-requires c).Start))

header_first : (c : After-write_header) → Reached c.args.bytes.now (header_of (used_by c.args.plan.now).unknowns (used_by c.args.plan.now).nodes (used_by c.args.plan.now).parts (used_by c.args.plan.now).slots) c.write_header.new.bytes 19
header_first c = record { front = c.write_header.ensures; many = header-length (used_by c.args.plan.now).unknowns (used_by c.args.plan.now).nodes (used_by c.args.plan.now).parts (used_by c.args.plan.now).slots }

header_first_at_after_write16s : (c : After-write16s) → Reached c.args.bytes.now (header_of (used_by c.args.plan.now).unknowns (used_by c.args.plan.now).nodes (used_by c.args.plan.now).parts (used_by c.args.plan.now).slots) c.write_header.new.bytes 19
header_first_at_after_write16s c = record { front = c.write_header.ensures; many = header-length (used_by c.args.plan.now).unknowns (used_by c.args.plan.now).nodes (used_by c.args.plan.now).parts (used_by c.args.plan.now).slots }

header_first_at_after_write_parts : (c : After-write_parts) → Reached c.args.bytes.now (header_of (used_by c.args.plan.now).unknowns (used_by c.args.plan.now).nodes (used_by c.args.plan.now).parts (used_by c.args.plan.now).slots) c.write_header.new.bytes 19
header_first_at_after_write_parts c = record { front = c.write_header.ensures; many = header-length (used_by c.args.plan.now).unknowns (used_by c.args.plan.now).nodes (used_by c.args.plan.now).parts (used_by c.args.plan.now).slots }

header_first_at_after_write_row_counts : (c : After-write_row_counts) → Reached c.args.bytes.now (header_of (used_by c.args.plan.now).unknowns (used_by c.args.plan.now).nodes (used_by c.args.plan.now).parts (used_by c.args.plan.now).slots) c.write_header.new.bytes 19
header_first_at_after_write_row_counts c = record { front = c.write_header.ensures; many = header-length (used_by c.args.plan.now).unknowns (used_by c.args.plan.now).nodes (used_by c.args.plan.now).parts (used_by c.args.plan.now).slots }

header_first_at_after_write16s_2 : (c : After-write16s-2) → Reached c.args.bytes.now (header_of (used_by c.args.plan.now).unknowns (used_by c.args.plan.now).nodes (used_by c.args.plan.now).parts (used_by c.args.plan.now).slots) c.write_header.new.bytes 19
header_first_at_after_write16s_2 c = record { front = c.write_header.ensures; many = header-length (used_by c.args.plan.now).unknowns (used_by c.args.plan.now).nodes (used_by c.args.plan.now).parts (used_by c.args.plan.now).slots }

long0 : (c : After-write_header) → length c.write_header.new.bytes ≡ length c.args.bytes.now
long0 c = reached-long c.args.bytes.now (header_of (used_by c.args.plan.now).unknowns (used_by c.args.plan.now).nodes (used_by c.args.plan.now).parts (used_by c.args.plan.now).slots) c.write_header.new.bytes 19 (header_first c) (omega (arith, room_at_after_write_header c))

-- ---- the order behind it
pub write16s-requires : goal.write16s-requires
write16s-requires c = reached-room c.args.bytes.now (header_of (used_by c.args.plan.now).unknowns (used_by c.args.plan.now).nodes (used_by c.args.plan.now).parts (used_by c.args.plan.now).slots) c.write_header.new.bytes 19 (header_first (goal.at.write16s-requires c).After-write_header) (2 * length (used_by c.args.plan.now).order) (omega (arith, room (goal.at.write16s-requires c).Start, c.args.plan.now.exact.whole.order))

order_behind : (c : After-write16s) → Reached c.args.bytes.now ((header_of (used_by c.args.plan.now).unknowns (used_by c.args.plan.now).nodes (used_by c.args.plan.now).parts (used_by c.args.plan.now).slots) ++ encode16s (used_by c.args.plan.now).order) (lent_from 19 c.write_header.new.bytes c.write16s.new.bytes) (19 + 2 * (used_by c.args.plan.now).nodes)
order_behind c =
    reached_more c.args.bytes.now (header_of (used_by c.args.plan.now).unknowns (used_by c.args.plan.now).nodes (used_by c.args.plan.now).parts (used_by c.args.plan.now).slots) c.write_header.new.bytes 19 (header_first_at_after_write16s c) (encode16s (used_by c.args.plan.now).order) c.write16s.new.bytes (19 + 2 * (used_by c.args.plan.now).nodes) c.write16s.ensures
    (omega (arith, encode16s-length (used_by c.args.plan.now).order, c.args.plan.now.exact.whole.order))

order_behind_at_after_write_parts : (c : After-write_parts) → Reached c.args.bytes.now ((header_of (used_by c.args.plan.now).unknowns (used_by c.args.plan.now).nodes (used_by c.args.plan.now).parts (used_by c.args.plan.now).slots) ++ encode16s (used_by c.args.plan.now).order) (lent_from 19 c.write_header.new.bytes c.write16s.new.bytes) (19 + 2 * (used_by c.args.plan.now).nodes)
order_behind_at_after_write_parts c =
    reached_more c.args.bytes.now (header_of (used_by c.args.plan.now).unknowns (used_by c.args.plan.now).nodes (used_by c.args.plan.now).parts (used_by c.args.plan.now).slots) c.write_header.new.bytes 19 (header_first_at_after_write_parts c) (encode16s (used_by c.args.plan.now).order) c.write16s.new.bytes (19 + 2 * (used_by c.args.plan.now).nodes) c.write16s.ensures
    (omega (arith, encode16s-length (used_by c.args.plan.now).order, c.args.plan.now.exact.whole.order))

order_behind_at_after_write_row_counts : (c : After-write_row_counts) → Reached c.args.bytes.now ((header_of (used_by c.args.plan.now).unknowns (used_by c.args.plan.now).nodes (used_by c.args.plan.now).parts (used_by c.args.plan.now).slots) ++ encode16s (used_by c.args.plan.now).order) (lent_from 19 c.write_header.new.bytes c.write16s.new.bytes) (19 + 2 * (used_by c.args.plan.now).nodes)
order_behind_at_after_write_row_counts c =
    reached_more c.args.bytes.now (header_of (used_by c.args.plan.now).unknowns (used_by c.args.plan.now).nodes (used_by c.args.plan.now).parts (used_by c.args.plan.now).slots) c.write_header.new.bytes 19 (header_first_at_after_write_row_counts c) (encode16s (used_by c.args.plan.now).order) c.write16s.new.bytes (19 + 2 * (used_by c.args.plan.now).nodes) c.write16s.ensures
    (omega (arith, encode16s-length (used_by c.args.plan.now).order, c.args.plan.now.exact.whole.order))

order_behind_at_after_write16s_2 : (c : After-write16s-2) → Reached c.args.bytes.now ((header_of (used_by c.args.plan.now).unknowns (used_by c.args.plan.now).nodes (used_by c.args.plan.now).parts (used_by c.args.plan.now).slots) ++ encode16s (used_by c.args.plan.now).order) (lent_from 19 c.write_header.new.bytes c.write16s.new.bytes) (19 + 2 * (used_by c.args.plan.now).nodes)
order_behind_at_after_write16s_2 c =
    reached_more c.args.bytes.now (header_of (used_by c.args.plan.now).unknowns (used_by c.args.plan.now).nodes (used_by c.args.plan.now).parts (used_by c.args.plan.now).slots) c.write_header.new.bytes 19 (header_first_at_after_write16s_2 c) (encode16s (used_by c.args.plan.now).order) c.write16s.new.bytes (19 + 2 * (used_by c.args.plan.now).nodes) c.write16s.ensures
    (omega (arith, encode16s-length (used_by c.args.plan.now).order, c.args.plan.now.exact.whole.order))

long1 : (c : After-write16s) → length (lent_from 19 c.write_header.new.bytes c.write16s.new.bytes) ≡ length c.args.bytes.now
long1 c = reached-long c.args.bytes.now ((header_of (used_by c.args.plan.now).unknowns (used_by c.args.plan.now).nodes (used_by c.args.plan.now).parts (used_by c.args.plan.now).slots) ++ encode16s (used_by c.args.plan.now).order) (lent_from 19 c.write_header.new.bytes c.write16s.new.bytes) (19 + 2 * (used_by c.args.plan.now).nodes) (order_behind c) (omega (arith, room_at_after_write16s c))

-- ---- the parts behind that
pub write_parts-requires : goal.write_parts-requires
write_parts-requires c = (c.args.plan.now.exact.whole.parents, reached-room c.args.bytes.now ((header_of (used_by c.args.plan.now).unknowns (used_by c.args.plan.now).nodes (used_by c.args.plan.now).parts (used_by c.args.plan.now).slots) ++ encode16s (used_by c.args.plan.now).order) (lent_from 19 c.write_header.new.bytes c.write16s.new.bytes) (19 + 2 * (used_by c.args.plan.now).nodes) (order_behind (goal.at.write_parts-requires c).After-write16s) (4 * (used_by c.args.plan.now).parts) (omega (arith, room (goal.at.write_parts-requires c).Start)))

parts_behind : (c : After-write_parts) → Reached c.args.bytes.now (((header_of (used_by c.args.plan.now).unknowns (used_by c.args.plan.now).nodes (used_by c.args.plan.now).parts (used_by c.args.plan.now).slots) ++ encode16s (used_by c.args.plan.now).order) ++ encode_parts (used_by c.args.plan.now)) (lent_from (19 + 2 * (used_by c.args.plan.now).nodes) (lent_from 19 c.write_header.new.bytes c.write16s.new.bytes) c.write_parts.new.bytes) ((19 + 2 * (used_by c.args.plan.now).nodes) + 4 * (used_by c.args.plan.now).parts)
parts_behind c =
    reached_more c.args.bytes.now ((header_of (used_by c.args.plan.now).unknowns (used_by c.args.plan.now).nodes (used_by c.args.plan.now).parts (used_by c.args.plan.now).slots) ++ encode16s (used_by c.args.plan.now).order) (lent_from 19 c.write_header.new.bytes c.write16s.new.bytes) (19 + 2 * (used_by c.args.plan.now).nodes) (order_behind_at_after_write_parts c) (encode_parts (used_by c.args.plan.now)) c.write_parts.new.bytes ((19 + 2 * (used_by c.args.plan.now).nodes) + 4 * (used_by c.args.plan.now).parts) (unfold encode_parts in c.write_parts.ensures)
    (omega (arith, parts-length (used_by c.args.plan.now)))

parts_behind_at_after_write_row_counts : (c : After-write_row_counts) → Reached c.args.bytes.now (((header_of (used_by c.args.plan.now).unknowns (used_by c.args.plan.now).nodes (used_by c.args.plan.now).parts (used_by c.args.plan.now).slots) ++ encode16s (used_by c.args.plan.now).order) ++ encode_parts (used_by c.args.plan.now)) (lent_from (19 + 2 * (used_by c.args.plan.now).nodes) (lent_from 19 c.write_header.new.bytes c.write16s.new.bytes) c.write_parts.new.bytes) ((19 + 2 * (used_by c.args.plan.now).nodes) + 4 * (used_by c.args.plan.now).parts)
parts_behind_at_after_write_row_counts c =
    reached_more c.args.bytes.now ((header_of (used_by c.args.plan.now).unknowns (used_by c.args.plan.now).nodes (used_by c.args.plan.now).parts (used_by c.args.plan.now).slots) ++ encode16s (used_by c.args.plan.now).order) (lent_from 19 c.write_header.new.bytes c.write16s.new.bytes) (19 + 2 * (used_by c.args.plan.now).nodes) (order_behind_at_after_write_row_counts c) (encode_parts (used_by c.args.plan.now)) c.write_parts.new.bytes ((19 + 2 * (used_by c.args.plan.now).nodes) + 4 * (used_by c.args.plan.now).parts) (unfold encode_parts in c.write_parts.ensures)
    (omega (arith, parts-length (used_by c.args.plan.now)))

parts_behind_at_after_write16s_2 : (c : After-write16s-2) → Reached c.args.bytes.now (((header_of (used_by c.args.plan.now).unknowns (used_by c.args.plan.now).nodes (used_by c.args.plan.now).parts (used_by c.args.plan.now).slots) ++ encode16s (used_by c.args.plan.now).order) ++ encode_parts (used_by c.args.plan.now)) (lent_from (19 + 2 * (used_by c.args.plan.now).nodes) (lent_from 19 c.write_header.new.bytes c.write16s.new.bytes) c.write_parts.new.bytes) ((19 + 2 * (used_by c.args.plan.now).nodes) + 4 * (used_by c.args.plan.now).parts)
parts_behind_at_after_write16s_2 c =
    reached_more c.args.bytes.now ((header_of (used_by c.args.plan.now).unknowns (used_by c.args.plan.now).nodes (used_by c.args.plan.now).parts (used_by c.args.plan.now).slots) ++ encode16s (used_by c.args.plan.now).order) (lent_from 19 c.write_header.new.bytes c.write16s.new.bytes) (19 + 2 * (used_by c.args.plan.now).nodes) (order_behind_at_after_write16s_2 c) (encode_parts (used_by c.args.plan.now)) c.write_parts.new.bytes ((19 + 2 * (used_by c.args.plan.now).nodes) + 4 * (used_by c.args.plan.now).parts) (unfold encode_parts in c.write_parts.ensures)
    (omega (arith, parts-length (used_by c.args.plan.now)))

long2 : (c : After-write_parts) → length (lent_from (19 + 2 * (used_by c.args.plan.now).nodes) (lent_from 19 c.write_header.new.bytes c.write16s.new.bytes) c.write_parts.new.bytes) ≡ length c.args.bytes.now
long2 c = reached-long c.args.bytes.now (((header_of (used_by c.args.plan.now).unknowns (used_by c.args.plan.now).nodes (used_by c.args.plan.now).parts (used_by c.args.plan.now).slots) ++ encode16s (used_by c.args.plan.now).order) ++ encode_parts (used_by c.args.plan.now)) (lent_from (19 + 2 * (used_by c.args.plan.now).nodes) (lent_from 19 c.write_header.new.bytes c.write16s.new.bytes) c.write_parts.new.bytes) ((19 + 2 * (used_by c.args.plan.now).nodes) + 4 * (used_by c.args.plan.now).parts) (parts_behind c) (omega (arith, room_at_after_write_parts c))

-- ---- the row counts behind them
pub write_row_counts-requires : goal.write_row_counts-requires
write_row_counts-requires c = (c.args.plan.now.exact.whole.column_starts, c.requires.passed.1, reached-room c.args.bytes.now (((header_of (used_by c.args.plan.now).unknowns (used_by c.args.plan.now).nodes (used_by c.args.plan.now).parts (used_by c.args.plan.now).slots) ++ encode16s (used_by c.args.plan.now).order) ++ encode_parts (used_by c.args.plan.now)) (lent_from (19 + 2 * (used_by c.args.plan.now).nodes) (lent_from 19 c.write_header.new.bytes c.write16s.new.bytes) c.write_parts.new.bytes) ((19 + 2 * (used_by c.args.plan.now).nodes) + 4 * (used_by c.args.plan.now).parts) (parts_behind (goal.at.write_row_counts-requires c).After-write_parts) (2 * (used_by c.args.plan.now).nodes) (omega (arith, room (goal.at.write_row_counts-requires c).Start)))

counts_behind : (c : After-write_row_counts) → Reached c.args.bytes.now ((((header_of (used_by c.args.plan.now).unknowns (used_by c.args.plan.now).nodes (used_by c.args.plan.now).parts (used_by c.args.plan.now).slots) ++ encode16s (used_by c.args.plan.now).order) ++ encode_parts (used_by c.args.plan.now)) ++ encode16s (row_counts (used_by c.args.plan.now))) (lent_from ((19 + 2 * (used_by c.args.plan.now).nodes) + 4 * (used_by c.args.plan.now).parts) (lent_from (19 + 2 * (used_by c.args.plan.now).nodes) (lent_from 19 c.write_header.new.bytes c.write16s.new.bytes) c.write_parts.new.bytes) c.write_row_counts.new.bytes) (((19 + 2 * (used_by c.args.plan.now).nodes) + 4 * (used_by c.args.plan.now).parts) + 2 * (used_by c.args.plan.now).nodes)
counts_behind c =
    reached_more c.args.bytes.now (((header_of (used_by c.args.plan.now).unknowns (used_by c.args.plan.now).nodes (used_by c.args.plan.now).parts (used_by c.args.plan.now).slots) ++ encode16s (used_by c.args.plan.now).order) ++ encode_parts (used_by c.args.plan.now)) (lent_from (19 + 2 * (used_by c.args.plan.now).nodes) (lent_from 19 c.write_header.new.bytes c.write16s.new.bytes) c.write_parts.new.bytes) ((19 + 2 * (used_by c.args.plan.now).nodes) + 4 * (used_by c.args.plan.now).parts) (parts_behind_at_after_write_row_counts c) (encode16s (row_counts (used_by c.args.plan.now))) c.write_row_counts.new.bytes (((19 + 2 * (used_by c.args.plan.now).nodes) + 4 * (used_by c.args.plan.now).parts) + 2 * (used_by c.args.plan.now).nodes) (unfold row_counts in c.write_row_counts.ensures)
    (omega (arith, encode16s-length (row_counts (used_by c.args.plan.now)), counts-length (used_by c.args.plan.now)))

counts_behind_at_after_write16s_2 : (c : After-write16s-2) → Reached c.args.bytes.now ((((header_of (used_by c.args.plan.now).unknowns (used_by c.args.plan.now).nodes (used_by c.args.plan.now).parts (used_by c.args.plan.now).slots) ++ encode16s (used_by c.args.plan.now).order) ++ encode_parts (used_by c.args.plan.now)) ++ encode16s (row_counts (used_by c.args.plan.now))) (lent_from ((19 + 2 * (used_by c.args.plan.now).nodes) + 4 * (used_by c.args.plan.now).parts) (lent_from (19 + 2 * (used_by c.args.plan.now).nodes) (lent_from 19 c.write_header.new.bytes c.write16s.new.bytes) c.write_parts.new.bytes) c.write_row_counts.new.bytes) (((19 + 2 * (used_by c.args.plan.now).nodes) + 4 * (used_by c.args.plan.now).parts) + 2 * (used_by c.args.plan.now).nodes)
counts_behind_at_after_write16s_2 c =
    reached_more c.args.bytes.now (((header_of (used_by c.args.plan.now).unknowns (used_by c.args.plan.now).nodes (used_by c.args.plan.now).parts (used_by c.args.plan.now).slots) ++ encode16s (used_by c.args.plan.now).order) ++ encode_parts (used_by c.args.plan.now)) (lent_from (19 + 2 * (used_by c.args.plan.now).nodes) (lent_from 19 c.write_header.new.bytes c.write16s.new.bytes) c.write_parts.new.bytes) ((19 + 2 * (used_by c.args.plan.now).nodes) + 4 * (used_by c.args.plan.now).parts) (parts_behind_at_after_write16s_2 c) (encode16s (row_counts (used_by c.args.plan.now))) c.write_row_counts.new.bytes (((19 + 2 * (used_by c.args.plan.now).nodes) + 4 * (used_by c.args.plan.now).parts) + 2 * (used_by c.args.plan.now).nodes) (unfold row_counts in c.write_row_counts.ensures)
    (omega (arith, encode16s-length (row_counts (used_by c.args.plan.now)), counts-length (used_by c.args.plan.now)))

long3 : (c : After-write_row_counts) → length (lent_from ((19 + 2 * (used_by c.args.plan.now).nodes) + 4 * (used_by c.args.plan.now).parts) (lent_from (19 + 2 * (used_by c.args.plan.now).nodes) (lent_from 19 c.write_header.new.bytes c.write16s.new.bytes) c.write_parts.new.bytes) c.write_row_counts.new.bytes) ≡ length c.args.bytes.now
long3 c = reached-long c.args.bytes.now ((((header_of (used_by c.args.plan.now).unknowns (used_by c.args.plan.now).nodes (used_by c.args.plan.now).parts (used_by c.args.plan.now).slots) ++ encode16s (used_by c.args.plan.now).order) ++ encode_parts (used_by c.args.plan.now)) ++ encode16s (row_counts (used_by c.args.plan.now))) (lent_from ((19 + 2 * (used_by c.args.plan.now).nodes) + 4 * (used_by c.args.plan.now).parts) (lent_from (19 + 2 * (used_by c.args.plan.now).nodes) (lent_from 19 c.write_header.new.bytes c.write16s.new.bytes) c.write_parts.new.bytes) c.write_row_counts.new.bytes) (((19 + 2 * (used_by c.args.plan.now).nodes) + 4 * (used_by c.args.plan.now).parts) + 2 * (used_by c.args.plan.now).nodes) (counts_behind c) (omega (arith, room_at_after_write_row_counts c))

-- ---- and the rows
pub write16s-requires-2 : goal.write16s-requires-2
write16s-requires-2 c = reached-room c.args.bytes.now ((((header_of (used_by c.args.plan.now).unknowns (used_by c.args.plan.now).nodes (used_by c.args.plan.now).parts (used_by c.args.plan.now).slots) ++ encode16s (used_by c.args.plan.now).order) ++ encode_parts (used_by c.args.plan.now)) ++ encode16s (row_counts (used_by c.args.plan.now))) (lent_from ((19 + 2 * (used_by c.args.plan.now).nodes) + 4 * (used_by c.args.plan.now).parts) (lent_from (19 + 2 * (used_by c.args.plan.now).nodes) (lent_from 19 c.write_header.new.bytes c.write16s.new.bytes) c.write_parts.new.bytes) c.write_row_counts.new.bytes) (((19 + 2 * (used_by c.args.plan.now).nodes) + 4 * (used_by c.args.plan.now).parts) + 2 * (used_by c.args.plan.now).nodes) (counts_behind (goal.at.write16s-requires-2 c).After-write_row_counts) (2 * (used_by c.args.plan.now).slots) (omega (arith, room (goal.at.write16s-requires-2 c).Start))

rows_behind : (c : After-write16s-2) → Reached c.args.bytes.now (((((header_of (used_by c.args.plan.now).unknowns (used_by c.args.plan.now).nodes (used_by c.args.plan.now).parts (used_by c.args.plan.now).slots) ++ encode16s (used_by c.args.plan.now).order) ++ encode_parts (used_by c.args.plan.now)) ++ encode16s (row_counts (used_by c.args.plan.now))) ++ encode16s (used_by c.args.plan.now).rows) (lent_from (((19 + 2 * (used_by c.args.plan.now).nodes) + 4 * (used_by c.args.plan.now).parts) + 2 * (used_by c.args.plan.now).nodes) (lent_from ((19 + 2 * (used_by c.args.plan.now).nodes) + 4 * (used_by c.args.plan.now).parts) (lent_from (19 + 2 * (used_by c.args.plan.now).nodes) (lent_from 19 c.write_header.new.bytes c.write16s.new.bytes) c.write_parts.new.bytes) c.write_row_counts.new.bytes) c.write16s-2.new.bytes) ((((19 + 2 * (used_by c.args.plan.now).nodes) + 4 * (used_by c.args.plan.now).parts) + 2 * (used_by c.args.plan.now).nodes) + 2 * (used_by c.args.plan.now).slots)
rows_behind c =
    reached_more c.args.bytes.now ((((header_of (used_by c.args.plan.now).unknowns (used_by c.args.plan.now).nodes (used_by c.args.plan.now).parts (used_by c.args.plan.now).slots) ++ encode16s (used_by c.args.plan.now).order) ++ encode_parts (used_by c.args.plan.now)) ++ encode16s (row_counts (used_by c.args.plan.now))) (lent_from ((19 + 2 * (used_by c.args.plan.now).nodes) + 4 * (used_by c.args.plan.now).parts) (lent_from (19 + 2 * (used_by c.args.plan.now).nodes) (lent_from 19 c.write_header.new.bytes c.write16s.new.bytes) c.write_parts.new.bytes) c.write_row_counts.new.bytes) (((19 + 2 * (used_by c.args.plan.now).nodes) + 4 * (used_by c.args.plan.now).parts) + 2 * (used_by c.args.plan.now).nodes) (counts_behind_at_after_write16s_2 c) (encode16s (used_by c.args.plan.now).rows) c.write16s-2.new.bytes ((((19 + 2 * (used_by c.args.plan.now).nodes) + 4 * (used_by c.args.plan.now).parts) + 2 * (used_by c.args.plan.now).nodes) + 2 * (used_by c.args.plan.now).slots) c.write16s-2.ensures
    (omega (arith, encode16s-length (used_by c.args.plan.now).rows))

long4 : (c : After-write16s-2) → length (lent_from (((19 + 2 * (used_by c.args.plan.now).nodes) + 4 * (used_by c.args.plan.now).parts) + 2 * (used_by c.args.plan.now).nodes) (lent_from ((19 + 2 * (used_by c.args.plan.now).nodes) + 4 * (used_by c.args.plan.now).parts) (lent_from (19 + 2 * (used_by c.args.plan.now).nodes) (lent_from 19 c.write_header.new.bytes c.write16s.new.bytes) c.write_parts.new.bytes) c.write_row_counts.new.bytes) c.write16s-2.new.bytes) ≡ length c.args.bytes.now
long4 c = reached-long c.args.bytes.now (((((header_of (used_by c.args.plan.now).unknowns (used_by c.args.plan.now).nodes (used_by c.args.plan.now).parts (used_by c.args.plan.now).slots) ++ encode16s (used_by c.args.plan.now).order) ++ encode_parts (used_by c.args.plan.now)) ++ encode16s (row_counts (used_by c.args.plan.now))) ++ encode16s (used_by c.args.plan.now).rows) (lent_from (((19 + 2 * (used_by c.args.plan.now).nodes) + 4 * (used_by c.args.plan.now).parts) + 2 * (used_by c.args.plan.now).nodes) (lent_from ((19 + 2 * (used_by c.args.plan.now).nodes) + 4 * (used_by c.args.plan.now).parts) (lent_from (19 + 2 * (used_by c.args.plan.now).nodes) (lent_from 19 c.write_header.new.bytes c.write16s.new.bytes) c.write_parts.new.bytes) c.write_row_counts.new.bytes) c.write16s-2.new.bytes) ((((19 + 2 * (used_by c.args.plan.now).nodes) + 4 * (used_by c.args.plan.now).parts) + 2 * (used_by c.args.plan.now).nodes) + 2 * (used_by c.args.plan.now).slots) (rows_behind c) (omega (arith, room_at_after_write16s_2 c))

pub returns : goal.returns
returns c = (rows_behind (goal.at.returns c).After-write16s-2).front ∙ ap (λ (l : List ℕ). written l c.args.bytes.now) (sym (file_fields (used_by c.args.plan.now)))

pub overflow_mul-parts_at : goal.overflow_mul-parts_at
overflow_mul-parts_at c = omega (arith, small (goal.at.overflow_mul-parts_at c).Start)

pub overflow_add-parts_at : goal.overflow_add-parts_at
overflow_add-parts_at c = omega (arith, small (goal.at.overflow_add-parts_at c).Start)

pub overflow_mul-counts_at : goal.overflow_mul-counts_at
overflow_mul-counts_at c = omega (arith, small (goal.at.overflow_mul-counts_at c).Start)

pub overflow_add-counts_at : goal.overflow_add-counts_at
overflow_add-counts_at c = omega (arith, small (goal.at.overflow_add-counts_at c).Start)

pub overflow_mul-rows_at : goal.overflow_mul-rows_at
overflow_mul-rows_at c = omega (arith, small (goal.at.overflow_mul-rows_at c).Start)

pub overflow_add-rows_at : goal.overflow_add-rows_at
overflow_add-rows_at c = omega (arith, small (goal.at.overflow_add-rows_at c).Start)

pub slice_bounds-write16s-count : goal.slice_bounds-write16s-count
slice_bounds-write16s-count c = omega (arith, long0 (goal.at.slice_bounds-write16s-count c).After-write_header, room (goal.at.slice_bounds-write16s-count c).Start)

pub slice_bounds-write16s-start : goal.slice_bounds-write16s-start
slice_bounds-write16s-start c = omega (arith, long0 (goal.at.slice_bounds-write16s-start c).After-write_header, room (goal.at.slice_bounds-write16s-start c).Start)

pub slice_bounds-write_parts-count : goal.slice_bounds-write_parts-count
slice_bounds-write_parts-count c = omega (arith, long1 (goal.at.slice_bounds-write_parts-count c).After-write16s, room (goal.at.slice_bounds-write_parts-count c).Start)

pub slice_bounds-write_parts-start : goal.slice_bounds-write_parts-start
slice_bounds-write_parts-start c = omega (arith, long1 (goal.at.slice_bounds-write_parts-start c).After-write16s, room (goal.at.slice_bounds-write_parts-start c).Start)

pub slice_bounds-write_row_counts-count : goal.slice_bounds-write_row_counts-count
slice_bounds-write_row_counts-count c = omega (arith, long2 (goal.at.slice_bounds-write_row_counts-count c).After-write_parts, room (goal.at.slice_bounds-write_row_counts-count c).Start)

pub slice_bounds-write_row_counts-start : goal.slice_bounds-write_row_counts-start
slice_bounds-write_row_counts-start c = omega (arith, long2 (goal.at.slice_bounds-write_row_counts-start c).After-write_parts, room (goal.at.slice_bounds-write_row_counts-start c).Start)

pub slice_bounds-write16s-count-2 : goal.slice_bounds-write16s-count-2
slice_bounds-write16s-count-2 c = omega (arith, long3 (goal.at.slice_bounds-write16s-count-2 c).After-write_row_counts, room (goal.at.slice_bounds-write16s-count-2 c).Start)

pub slice_bounds-write16s-start-2 : goal.slice_bounds-write16s-start-2
slice_bounds-write16s-start-2 c = omega (arith, long3 (goal.at.slice_bounds-write16s-start-2 c).After-write_row_counts, room (goal.at.slice_bounds-write16s-start-2 c).Start)

pub shape_of-bytes : goal.shape_of-bytes
shape_of-bytes c = long4 (goal.at.shape_of-bytes c).After-write16s-2
