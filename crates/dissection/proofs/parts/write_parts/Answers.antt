-- `dissection::parts::write_parts` meets its contract: the loop passes one block in each turn, and writes its size and its parent.
use mathlib.Core.Path.{◌≡◌, refl, sym, ap, ◌∙◌}
use mathlib.Core.Bool.{cond}
use mathlib.Core.List.{List}
use Prim.Native.Nat.{ℕ, ◌-◌, ◌≤◌, ◌<◌}
use native.Mathlib.Omega.{arith}
use lib.Dec.{eqb}
use lib.ListN.{length, take, get_or, set, length-set}
use lib.Seq.{length-take-le, get_or-take, take_all}
use borrow.Author.Rules.{rules}
use Rattle.plan.specs.Lists.{written}
use Rattle.plan.specs.Mesh.{no_parent}
use Rattle.plan.specs.Steps.{by_number}
use Rattle.theory.proofs.Written.{written_next}
use Rattle.dissection.specs.Blocks.{block_sizes, block_parents}
use Rattle.dissection.proofs.Heads.{sizes-many, blocks_few, passed_none, passed-place, passed-parent, passed-known, passed-end, passed_size, passed_more, numbers-many, number_at}
use Rattle.dissection.proofs.parts.write_parts.Invariants.{Turn}
use Rattle.dissection.proofs.parts.write_parts.Goals.{Start, In-loop-q, After-block_end-end}
use Rattle.dissection.proofs.parts.write_parts.Goals as goal

-- there are n
heads_long : (c : Start) → length (take c.args.n c.args.heads.now) ≡ c.args.n
heads_long c = length-take-le c.args.n c.args.heads.now (omega (arith, c.requires))

-- there are n
heads_long_at_after_block_end_end : (c : After-block_end-end) → length (take c.args.n c.args.heads.now) ≡ c.args.n
heads_long_at_after_block_end_end c = length-take-le c.args.n c.args.heads.now (omega (arith, c.requires))

-- there are n
heads_long_at_in_loop_q : (c : In-loop-q) → length (take c.args.n c.args.heads.now) ≡ c.args.n
heads_long_at_in_loop_q c = length-take-le c.args.n c.args.heads.now (omega (arith, c.requires))

pub loop-q-init : goal.loop-q-init
loop-q-init c = record { passed = passed_none (take c.args.n c.args.heads.now) c.requires.2.begins; low = search rules; sizes_long = refl; parents_long = refl; sizes_so = refl; parents_so = refl }

-- there is one more block
more : (c : In-loop-q) → c.loop-q.q < length (block_parents (take c.args.n c.args.heads.now))
more c = omega (arith, c.requires.2.many, c.loop-q-test.true)

-- there is one more block
more_at_after_block_end_end : (c : After-block_end-end) → c.loop-q.q < length (block_parents (take c.args.n c.args.heads.now))
more_at_after_block_end_end c = omega (arith, c.requires.2.many, c.loop-q-test.true)

-- it begins at a place of the list
place : (c : In-loop-q) → c.loop-q.at < c.args.n
place c = omega (arith, passed-place (take c.args.n c.args.heads.now) c.loop-q.at c.loop-q.q c.loop-q.invariant.passed (more c), heads_long_at_in_loop_q c)

-- and ends within it
ends : (c : After-block_end-end) → c.block_end-end.result ≤ c.args.n
ends c = omega (arith, passed-end (take c.args.n c.args.heads.now) c.loop-q.at c.loop-q.q c.loop-q.invariant.passed (more_at_after_block_end_end c) c.block_end-end.result c.block_end-end.ensures, heads_long_at_after_block_end_end c)

-- there are at most n blocks
few : (c : Start) → c.args.count ≤ c.args.n
few c = omega (arith, blocks_few (take c.args.n c.args.heads.now), c.requires.2.many, heads_long c)

pub block_end-end-requires : goal.block_end-end-requires
block_end-end-requires c = (place (goal.at.block_end-end-requires c).In-loop-q, omega (arith, c.requires))

pub by_number-requires : goal.by_number-requires
by_number-requires c other =
    let same : get_or (take c.args.n c.args.heads.now) c.loop-q.at 0 ≡ get_or c.args.heads.now c.loop-q.at 0 = get_or-take c.args.n c.args.heads.now c.loop-q.at 0 (place (goal.at.by_number-requires c).In-loop-q) in
    rw same at (passed-known (take c.args.n c.args.heads.now) c.loop-q.at c.loop-q.q c.loop-q.invariant.passed (more (goal.at.by_number-requires c).In-loop-q) c.args.count c.requires.2 (λ e. other (sym same ∙ e)))

pub loop-q-preserved : goal.loop-q-preserved
loop-q-preserved c =
    let hs : List ℕ = (take c.args.n c.args.heads.now) in
    let at : ℕ = c.loop-q.at in
    let q : ℕ = c.loop-q.q in
    let end : ℕ = c.block_end-end.result in
    let i : Turn hs c.args.count c.args.sizes.now c.args.parents.now c.loop-q.sizes c.loop-q.parents at q = c.loop-q.invariant in
    let ps : List ℕ = block_parents hs in
    let own : get_or ps q 0 ≡ get_or c.args.heads.now at 0 = passed-parent hs at q i.passed (more (goal.at.loop-q-preserved c).In-loop-q) ∙ get_or-take c.args.n c.args.heads.now at 0 (place (goal.at.loop-q-preserved c).In-loop-q) in
    record {
      passed = passed_more hs at q i.passed (more (goal.at.loop-q-preserved c).In-loop-q) end c.block_end-end.ensures;
      low = omega (arith, c.loop-q-test.true);
      sizes_long = length-set c.loop-q.sizes q (end - at) ∙ i.sizes_long;
      parents_long = length-set c.loop-q.parents q c.by_number.result ∙ i.parents_long;
      sizes_so =
          ap (set c.loop-q.sizes q) (sym (passed_size hs at q i.passed (more (goal.at.loop-q-preserved c).In-loop-q) end c.block_end-end.ensures))
          ∙ written_next (block_sizes hs) c.args.sizes.now c.loop-q.sizes q 0 (omega (arith, more (goal.at.loop-q-preserved c).In-loop-q, sizes-many hs)) (omega (arith, sizes-many hs, c.requires)) i.sizes_so;
      parents_so =
          ap (set c.loop-q.parents q)
          (c.by_number.ensures ∙ sym (number_at c.args.count ps q (more (goal.at.loop-q-preserved c).In-loop-q) ∙ ap (λ (x : ℕ). cond (eqb x no_parent) no_parent (c.args.count - 1 - x)) own))
          ∙ written_next (by_number c.args.count ps) c.args.parents.now c.loop-q.parents q 0 (omega (arith, more (goal.at.loop-q-preserved c).In-loop-q, numbers-many c.args.count ps))
          (omega (arith, numbers-many c.args.count ps, c.requires)) i.parents_so;
    }

pub returns : goal.returns
returns c =
    let hs : List ℕ = (take c.args.n c.args.heads.now) in
    let ps : List ℕ = block_parents hs in (
      c.loop-q.invariant.sizes_so ∙ ap (λ (l : List ℕ). written l c.args.sizes.now) (take_all c.loop-q.q (block_sizes hs) (omega (arith, sizes-many hs, c.requires))),
      c.loop-q.invariant.parents_so
          ∙ ap (λ (l : List ℕ). written l c.args.parents.now) (take_all c.loop-q.q (by_number c.args.count ps) (omega (arith, numbers-many c.args.count ps, c.requires))),
    )

pub overflow_sub-sizes : goal.overflow_sub-sizes
overflow_sub-sizes c = omega (arith, c.block_end-end.ensures)

pub overflow_cast-sizes : goal.overflow_cast-sizes
overflow_cast-sizes c = omega (arith, ends (goal.at.overflow_cast-sizes c).After-block_end-end, c.requires)

pub offset_bounds-heads-at : goal.offset_bounds-heads-at
offset_bounds-heads-at c = omega (arith, place (goal.at.offset_bounds-heads-at c).In-loop-q, c.requires)

pub bounds-heads-at : goal.bounds-heads-at
bounds-heads-at c = omega (arith, place (goal.at.bounds-heads-at c).In-loop-q, c.requires)

pub overflow_cast-count : goal.overflow_cast-count
overflow_cast-count c = omega (arith, few (goal.at.overflow_cast-count c).Start, c.requires)
