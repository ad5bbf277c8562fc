-- `planfile::reader::read_checked` meets its contract: checks 8 and 9, then each field is read to the front of its buffer, the positions are the
-- order's and the column starts the counts'.
use mathlib.Core.Path.{◌≡◌, sym, ap, ◌∙◌}
use mathlib.Core.Bool.{false}
use native.Mathlib.Omega.{arith}
use lib.ListN.{length, take}
use Rattle.plan.specs.Planning.{buffers, buffers_too_short, hand_out, fill}
use Rattle.plan.specs.File.{parse}
use Rattle.theory.proofs.Written.{front-written}
use Rattle.theory.proofs.Handed.{Room, enough_room, lengths_of}
use Rattle.planfile.proofs.Headed.{Sizes, headed_sizes, order-many, starts-written, order_inverts, positions-written}
use Rattle.planfile.proofs.Reading.{buffers-refused, rows-refused, read_accepted, read_reply}
use Rattle.planfile.proofs.reader.read_checked.Goals.{Start, Else-buffers_too_short, Else-rows-file, After-read_order_and_parts}
use Rattle.planfile.proofs.reader.read_checked.Goals as goal

-- the counts and the length of the file
known : (c : Start) → Sizes c.args.file.now.bytes.now c.args.file.now.head
known c = headed_sizes _ _ c.args.file.now.headed

pub returns-then-buffers_too_short : goal.returns-then-buffers_too_short
returns-then-buffers_too_short c = buffers-refused _ _ c.args.file.now.headed (buffers c.args.order.now c.args.positions.now c.args.sizes.now c.args.parents.now c.args.column_starts.now c.args.rows.now) c.requires.passed (sym c.buffers_too_short.ensures ∙ c.if-buffers_too_short.true)

-- check 8 found no fault
enough : (c : Else-buffers_too_short) → buffers_too_short c.args.file.now.head.nodes (lengths_of (buffers c.args.order.now c.args.positions.now c.args.sizes.now c.args.parents.now c.args.column_starts.now c.args.rows.now)) ≡ false
enough c = sym c.buffers_too_short.ensures ∙ c.if-buffers_too_short.false

-- check 8 found no fault
enough_at_rows : (c : Else-rows-file) → buffers_too_short c.args.file.now.head.nodes (lengths_of (buffers c.args.order.now c.args.positions.now c.args.sizes.now c.args.parents.now c.args.column_starts.now c.args.rows.now)) ≡ false
enough_at_rows c = sym c.buffers_too_short.ensures ∙ c.if-buffers_too_short.false

pub returns-then-rows-file : goal.returns-then-rows-file
returns-then-rows-file c = rows-refused _ _ c.args.file.now.headed (buffers c.args.order.now c.args.positions.now c.args.sizes.now c.args.parents.now c.args.column_starts.now c.args.rows.now) c.requires.passed (enough (goal.at.returns-then-rows-file c).Else-buffers_too_short) c.if-rows-file.true

-- the buffers are long enough
room : (c : Else-rows-file) → Room c.args.file.now.head.nodes (lengths_of (buffers c.args.order.now c.args.positions.now c.args.sizes.now c.args.parents.now c.args.column_starts.now c.args.rows.now))
room c = enough_room c.args.file.now.head.nodes (lengths_of (buffers c.args.order.now c.args.positions.now c.args.sizes.now c.args.parents.now c.args.column_starts.now c.args.rows.now)) (enough_at_rows c)

pub read_order_and_parts-requires : goal.read_order_and_parts-requires
read_order_and_parts-requires c = ((room (goal.at.read_order_and_parts-requires c).Else-rows-file).order, (room (goal.at.read_order_and_parts-requires c).Else-rows-file).sizes, (room (goal.at.read_order_and_parts-requires c).Else-rows-file).parents)

-- the order stands at the front of its buffer
order_front : (c : After-read_order_and_parts) → take c.args.file.now.head.nodes c.read_order_and_parts.new.order ≡ (parse c.args.file.now.bytes.now).order
order_front c = front-written _ _ _ _ c.read_order_and_parts.ensures.0 (order-many _ _ c.args.file.now.headed)

pub slice_bounds-invert-end : goal.slice_bounds-invert-end
slice_bounds-invert-end c = omega (arith, (room (goal.at.slice_bounds-invert-end c).Else-rows-file).order, c.read_order_and_parts.auto)

pub slice_bounds-invert-end-2 : goal.slice_bounds-invert-end-2
slice_bounds-invert-end-2 c = sym (ap length (order_front (goal.at.slice_bounds-invert-end-2 c).After-read_order_and_parts) ∙ order-many _ _ c.args.file.now.headed)

pub invert-requires : goal.invert-requires
invert-requires c =
    let o = order_inverts _ _ c.args.file.now.headed _ (order_front (goal.at.invert-requires c).After-read_order_and_parts) c.requires.passed in
    (o.0, omega (arith, o.1, (known (goal.at.invert-requires c).Start).few), omega (arith, o.1, (room (goal.at.invert-requires c).Else-rows-file).positions))

pub write_starts-requires : goal.write_starts-requires
write_starts-requires c = ((known (goal.at.write_starts-requires c).Start).few, c.requires.counted.0, (room (goal.at.write_starts-requires c).Else-rows-file).column_starts)

pub read_rows-requires : goal.read_rows-requires
read_rows-requires c = c.if-rows-file.false

pub sum-totals-requires : goal.sum-totals-requires
sum-totals-requires c = ((known (goal.at.sum-totals-requires c).Start).few, c.requires.counted.0)

pub overflow_cast-n : goal.overflow_cast-n
overflow_cast-n c = omega (arith, (known (goal.at.overflow_cast-n c).Start).few)

pub overflow_cast-file : goal.overflow_cast-file
overflow_cast-file c = let k = known (goal.at.overflow_cast-file c).Start in omega (arith, k.few, k.parts)

pub overflow_cast-file-2 : goal.overflow_cast-file-2
overflow_cast-file-2 c = omega (arith, (known (goal.at.overflow_cast-file-2 c).Start).slots)

pub overflow_cast-file-3 : goal.overflow_cast-file-3
overflow_cast-file-3 c = omega (arith, (known (goal.at.overflow_cast-file-3 c).Start).unknowns)

pub returns : goal.returns
unfolding hand_out fill
returns c =
    read_accepted _ _ c.args.file.now.headed (buffers c.args.order.now c.args.positions.now c.args.sizes.now c.args.parents.now c.args.column_starts.now c.args.rows.now) c.requires.passed (enough (goal.at.returns c).Else-buffers_too_short) _ _ c.if-rows-file.false
    record {
      reply = read_reply _ _ c.args.file.now.headed _ c.sum-totals.result.multiplications c.new.result c.requires.counted.1 c.sum-totals.ensures.1 c.new.ensures;
      order = c.read_order_and_parts.ensures.0;
      positions = positions-written _ _ c.args.file.now.headed _ _ _ (order_front (goal.at.returns c).After-read_order_and_parts) c.invert.ensures;
      sizes = c.read_order_and_parts.ensures.1;
      parents = c.read_order_and_parts.ensures.2;
      column_starts = starts-written _ _ c.args.file.now.headed _ _ _ c.requires.counted.1 c.write_starts.ensures;
      rows = c.read_rows.ensures;
    }
