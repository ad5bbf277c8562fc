-- `coding::write16s` meets its contract: the loop writes the numbers one after the other.
use mathlib.Core.Path.{◌≡◌, sym, ap, ◌∙◌}
use mathlib.Core.List.{List}
use Prim.Native.Nat.{ℕ, ◌+◌, ◌*◌, ◌≤◌}
use native.Mathlib.Omega.{arith}
use lib.ListN.{length}
use Rattle.plan.specs.Lists.{written}
use Rattle.theory.proofs.Written.{reached-long, reached-room, reached_more}
use Rattle.theory.proofs.Coding.{encode16-length, encode16s_blocks, blocks_none, blocks_next, blocks_all}
use Rattle.theory.proofs.Flatten.{blocks}
use Rattle.coding.proofs.write16s.Invariants.{number}
use Rattle.coding.proofs.write16s.Goals.{In-loop-k, At-loop-k}
use Rattle.coding.proofs.write16s.Goals as goal

pub loop-k-init : goal.loop-k-init
loop-k-init c = blocks_none (number c.args.numbers.now) 2 (length c.args.numbers.now) c.args.bytes.now

-- number k has room
fits : (c : In-loop-k) → 2 * c.loop-k.k + 2 ≤ length c.args.bytes.now
fits c = omega (arith, c.loop-k-test.true, c.requires)

-- the buffer is as long as it was
long : (c : At-loop-k) → length c.loop-k.bytes ≡ length c.args.bytes.now
long c =
    reached-long c.args.bytes.now (blocks (number c.args.numbers.now) c.loop-k.k) c.loop-k.bytes (2 * c.loop-k.k) c.loop-k.invariant.reached
    (omega (arith, c.loop-k.invariant.few, c.requires))

pub loop-k-preserved : goal.loop-k-preserved
loop-k-preserved c =
    let k : ℕ = c.loop-k.k in
    let f : ℕ → List ℕ = number c.args.numbers.now in
    blocks_next f 2 (length c.args.numbers.now) c.args.bytes.now _ k c.loop-k-test.true
    (reached_more c.args.bytes.now (blocks f k) c.loop-k.bytes (2 * k) c.loop-k.invariant.reached (f k) c.write16.new.bytes (2 * k + 2) c.write16.ensures
    (ap (λ (i : ℕ). 2 * k + i) (encode16-length _)))

pub returns : goal.returns
returns c =
    blocks_all (number c.args.numbers.now) 2 (length c.args.numbers.now) c.args.bytes.now c.loop-k.bytes c.loop-k.k c.loop-k-test.false c.loop-k.invariant
    ∙ ap (λ (l : List ℕ). written l c.args.bytes.now) (sym (encode16s_blocks c.args.numbers.now))

pub overflow_mul-at : goal.overflow_mul-at
overflow_mul-at c = omega (arith, fits (goal.at.overflow_mul-at c).In-loop-k)

pub offset_bounds-numbers-k : goal.offset_bounds-numbers-k
offset_bounds-numbers-k c = omega (arith, fits (goal.at.offset_bounds-numbers-k c).In-loop-k)

pub slice_bounds-write16-count : goal.slice_bounds-write16-count
slice_bounds-write16-count c = omega (arith, fits (goal.at.slice_bounds-write16-count c).In-loop-k, long (goal.at.slice_bounds-write16-count c).At-loop-k)

pub slice_bounds-write16-start : goal.slice_bounds-write16-start
slice_bounds-write16-start c = omega (arith, fits (goal.at.slice_bounds-write16-start c).In-loop-k, long (goal.at.slice_bounds-write16-start c).At-loop-k)

pub write16-requires : goal.write16-requires
write16-requires c = reached-room c.args.bytes.now _ c.loop-k.bytes (2 * c.loop-k.k) c.loop-k.invariant.reached 2 (omega (arith, fits (goal.at.write16-requires c).In-loop-k))

pub shape_of-bytes : goal.shape_of-bytes
shape_of-bytes c = long (goal.at.shape_of-bytes c).At-loop-k
