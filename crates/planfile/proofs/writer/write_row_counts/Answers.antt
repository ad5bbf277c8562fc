-- `planfile::writer::write_row_counts` meets its contract: the loop writes the row counts one after the other.
use mathlib.Core.Path.{◌≡◌, sym, ap, ◌∙◌}
use mathlib.Core.List.{List}
use Prim.Native.Nat.{ℕ, ◌+◌, ◌*◌, ◌≤◌}
use native.Mathlib.Omega.{arith}
use lib.ListN.{length}
use Rattle.plan.specs.Lists.{written}
use Rattle.plan.specs.Planning.{row_counts}
use Rattle.theory.proofs.Written.{reached-long, reached-room, reached_more}
use Rattle.theory.proofs.Coding.{encode16-length, made_blocks, blocks_none, blocks_next, blocks_all}
use Rattle.theory.proofs.Flatten.{blocks}
use Rattle.planfile.proofs.writer.write_row_counts.Invariants.{many, count}
use Rattle.planfile.proofs.writer.write_row_counts.Goals.{In-loop-j, At-loop-j}
use Rattle.planfile.proofs.writer.write_row_counts.Goals as goal

pub loop-j-init : goal.loop-j-init
loop-j-init c = blocks_none (count c.args.column_starts.now) 2 c.args.n c.args.bytes.now

-- row count j has room
fits : (c : In-loop-j) → 2 * c.loop-j.j + 2 ≤ length c.args.bytes.now
fits c = omega (arith, c.loop-j-test.true, c.requires.2)

-- the buffer is as long as it was
long : (c : At-loop-j) → length c.loop-j.bytes ≡ length c.args.bytes.now
long c =
    reached-long c.args.bytes.now (blocks (count c.args.column_starts.now) c.loop-j.j) c.loop-j.bytes (2 * c.loop-j.j) c.loop-j.invariant.reached
    (omega (arith, c.loop-j.invariant.few, c.requires.2))

pub loop-j-preserved : goal.loop-j-preserved
loop-j-preserved c =
    let j : ℕ = c.loop-j.j in
    let f : ℕ → List ℕ = count c.args.column_starts.now in
    blocks_next f 2 c.args.n c.args.bytes.now _ j c.loop-j-test.true
    (reached_more c.args.bytes.now (blocks f j) c.loop-j.bytes (2 * j) c.loop-j.invariant.reached (f j) c.write16.new.bytes (2 * j + 2) c.write16.ensures
    (ap (λ (k : ℕ). 2 * j + k) (encode16-length _)))

pub returns : goal.returns
unfolding row_counts
returns c =
    blocks_all (count c.args.column_starts.now) 2 c.args.n c.args.bytes.now c.loop-j.bytes c.loop-j.j c.loop-j-test.false c.loop-j.invariant
    ∙ ap (λ (l : List ℕ). written l c.args.bytes.now) (sym (made_blocks (many c.args.column_starts.now) c.args.n))

pub overflow_mul-at : goal.overflow_mul-at
overflow_mul-at c = omega (arith, fits (goal.at.overflow_mul-at c).In-loop-j)

pub overflow_add-count : goal.overflow_add-count
overflow_add-count c = omega (arith, fits (goal.at.overflow_add-count c).In-loop-j)

pub offset_bounds-column_starts-j : goal.offset_bounds-column_starts-j
offset_bounds-column_starts-j c = omega (arith, fits (goal.at.offset_bounds-column_starts-j c).In-loop-j)

pub bounds-column_starts-j : goal.bounds-column_starts-j
bounds-column_starts-j c = omega (arith, c.loop-j-test.true, c.requires.0)

pub bounds-column_starts-j-in-loop-j : goal.bounds-column_starts-j-in-loop-j
bounds-column_starts-j-in-loop-j c = omega (arith, c.loop-j-test.true, c.requires.0)

pub overflow_sub-count : goal.overflow_sub-count
overflow_sub-count c = c.requires.1.rising c.loop-j.j c.loop-j-test.true

pub overflow_cast-count : goal.overflow_cast-count
overflow_cast-count c = omega (arith, c.requires.1.narrow c.loop-j.j c.loop-j-test.true)

pub slice_bounds-write16-count : goal.slice_bounds-write16-count
slice_bounds-write16-count c = omega (arith, fits (goal.at.slice_bounds-write16-count c).In-loop-j, long (goal.at.slice_bounds-write16-count c).At-loop-j)

pub slice_bounds-write16-start : goal.slice_bounds-write16-start
slice_bounds-write16-start c = omega (arith, fits (goal.at.slice_bounds-write16-start c).In-loop-j, long (goal.at.slice_bounds-write16-start c).At-loop-j)

pub write16-requires : goal.write16-requires
write16-requires c = reached-room c.args.bytes.now _ c.loop-j.bytes (2 * c.loop-j.j) c.loop-j.invariant.reached 2 (omega (arith, fits (goal.at.write16-requires c).In-loop-j))

pub shape_of-bytes : goal.shape_of-bytes
shape_of-bytes c = long (goal.at.shape_of-bytes c).At-loop-j
