-- `planfile::writer::write_parts` meets its contract: the loop writes the parts' pairs of size and parent one after the other.
use mathlib.Core.Path.{◌≡◌, ap}
use mathlib.Core.List.{List, ◌++◌, append_assoc}
use Prim.Native.Nat.{ℕ, ◌+◌, ◌*◌, ◌≤◌}
use native.Mathlib.Omega.{arith}
use lib.ListN.{length, get_or}
use Rattle.plan.specs.File.{encode16, encode_parts}
use Rattle.theory.proofs.Written.{Reached, lent_from, reached-long, reached-room, reached_more}
use Rattle.theory.proofs.Coding.{encode16-length, blocks_none, blocks_next, blocks_all}
use Rattle.theory.proofs.Flatten.{blocks}
use Rattle.planfile.proofs.writer.write_parts.Invariants.{pair}
use Rattle.planfile.proofs.writer.write_parts.Goals.{In-loop-q, At-loop-q, After-write16}
use Rattle.planfile.proofs.writer.write_parts.Goals as goal

pub loop-q-init : goal.loop-q-init
loop-q-init c = blocks_none (pair c.args.sizes.now c.args.parents.now) 4 (length c.args.sizes.now) c.args.bytes.now

-- part q has room
fits : (c : In-loop-q) → 4 * c.loop-q.q + 4 ≤ length c.args.bytes.now
fits c = omega (arith, c.loop-q-test.true, c.requires.1)

-- part q has room
fits_at_after_write16 : (c : After-write16) → 4 * c.loop-q.q + 4 ≤ length c.args.bytes.now
fits_at_after_write16 c = omega (arith, c.loop-q-test.true, c.requires.1)

-- the buffer is as long as it was
long : (c : At-loop-q) → length c.loop-q.bytes ≡ length c.args.bytes.now
long c =
    reached-long c.args.bytes.now (blocks (pair c.args.sizes.now c.args.parents.now) c.loop-q.q) c.loop-q.bytes (4 * c.loop-q.q) c.loop-q.invariant.reached
    (omega (arith, c.loop-q.invariant.few, c.requires.1))

sized : (c : After-write16) → Reached c.args.bytes.now (blocks (pair c.args.sizes.now c.args.parents.now) c.loop-q.q ++ encode16 (get_or c.args.sizes.now c.loop-q.q 0)) (lent_from (4 * c.loop-q.q) c.loop-q.bytes c.write16.new.bytes) (4 * c.loop-q.q + 2)
sized c =
    let q : ℕ = c.loop-q.q in
    reached_more c.args.bytes.now (blocks (pair c.args.sizes.now c.args.parents.now) q) c.loop-q.bytes (4 * q) c.loop-q.invariant.reached (encode16 (get_or c.args.sizes.now q 0)) c.write16.new.bytes (4 * q + 2)
    c.write16.ensures (ap (λ (k : ℕ). 4 * q + k) (encode16-length _))

long_behind : (c : After-write16) → length (lent_from (4 * c.loop-q.q) c.loop-q.bytes c.write16.new.bytes) ≡ length c.args.bytes.now
long_behind c = reached-long c.args.bytes.now _ (lent_from (4 * c.loop-q.q) c.loop-q.bytes c.write16.new.bytes) (4 * c.loop-q.q + 2) (sized c) (omega (arith, fits_at_after_write16 c))

pub loop-q-preserved : goal.loop-q-preserved
loop-q-preserved c =
    let q : ℕ = c.loop-q.q in
    let f : ℕ → List ℕ = pair c.args.sizes.now c.args.parents.now in
    let size : List ℕ = encode16 (get_or c.args.sizes.now q 0) in
    let parent : List ℕ = encode16 (get_or c.args.parents.now q 0) in
    let r = reached_more c.args.bytes.now (blocks f q ++ size) (lent_from (4 * c.loop-q.q) c.loop-q.bytes c.write16.new.bytes) (4 * q + 2) (sized (goal.at.loop-q-preserved c).After-write16) parent c.write16-in-loop-q.new.bytes (4 * q + 4) c.write16-in-loop-q.ensures (omega (arith, encode16-length (get_or c.args.parents.now q 0))) in
    blocks_next f 4 (length c.args.sizes.now) c.args.bytes.now _ q c.loop-q-test.true
    (rw (← append_assoc (blocks f q) size parent) r)

pub returns : goal.returns
unfolding encode_parts
returns c = blocks_all (pair c.args.sizes.now c.args.parents.now) 4 (length c.args.sizes.now) c.args.bytes.now c.loop-q.bytes c.loop-q.q c.loop-q-test.false c.loop-q.invariant

pub overflow_mul-at : goal.overflow_mul-at
overflow_mul-at c = omega (arith, fits (goal.at.overflow_mul-at c).In-loop-q)

pub overflow_add-behind : goal.overflow_add-behind
overflow_add-behind c = omega (arith, fits (goal.at.overflow_add-behind c).In-loop-q)

pub offset_bounds-sizes-q : goal.offset_bounds-sizes-q
offset_bounds-sizes-q c = omega (arith, fits (goal.at.offset_bounds-sizes-q c).In-loop-q)

pub slice_bounds-write16-count : goal.slice_bounds-write16-count
slice_bounds-write16-count c = omega (arith, fits (goal.at.slice_bounds-write16-count c).In-loop-q, long (goal.at.slice_bounds-write16-count c).At-loop-q)

pub slice_bounds-write16-start : goal.slice_bounds-write16-start
slice_bounds-write16-start c = omega (arith, fits (goal.at.slice_bounds-write16-start c).In-loop-q, long (goal.at.slice_bounds-write16-start c).At-loop-q)

pub write16-requires : goal.write16-requires
write16-requires c = reached-room c.args.bytes.now _ c.loop-q.bytes (4 * c.loop-q.q) c.loop-q.invariant.reached 2 (omega (arith, fits (goal.at.write16-requires c).In-loop-q))

pub bounds-parents-q : goal.bounds-parents-q
bounds-parents-q c = omega (arith, c.loop-q-test.true, c.requires.0)

pub slice_bounds-write16-count-in-loop-q : goal.slice_bounds-write16-count-in-loop-q
slice_bounds-write16-count-in-loop-q c = omega (arith, fits (goal.at.slice_bounds-write16-count-in-loop-q c).In-loop-q, long_behind (goal.at.slice_bounds-write16-count-in-loop-q c).After-write16)

pub slice_bounds-write16-start-in-loop-q : goal.slice_bounds-write16-start-in-loop-q
slice_bounds-write16-start-in-loop-q c = omega (arith, fits (goal.at.slice_bounds-write16-start-in-loop-q c).In-loop-q, long_behind (goal.at.slice_bounds-write16-start-in-loop-q c).After-write16)

pub write16-requires-in-loop-q : goal.write16-requires-in-loop-q
write16-requires-in-loop-q c = reached-room c.args.bytes.now _ (lent_from (4 * c.loop-q.q) c.loop-q.bytes c.write16.new.bytes) (4 * c.loop-q.q + 2) (sized (goal.at.write16-requires-in-loop-q c).After-write16) 2 (omega (arith, fits (goal.at.write16-requires-in-loop-q c).In-loop-q))

pub shape_of-bytes : goal.shape_of-bytes
shape_of-bytes c = long (goal.at.shape_of-bytes c).At-loop-q
