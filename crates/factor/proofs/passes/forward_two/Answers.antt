-- `factor::passes::forward_two` meets its contract: the rows from slot s of the one column and slot t of the other on are left.
use mathlib.Core.Path.{◌≡◌, ◌∙◌}
use Prim.Native.Nat.{◌+◌, ◌-◌, ◌<◌}
use native.Mathlib.Omega.{arith}
use borrow.Author.Rules.{rules}
use lib.ListN.{length, get_or, length-set}
use Rattle.factor.proofs.TwoColumns.{both-begins, both-steps, both_ends, both-inside, has-row, first-inside}
use Rattle.factor.proofs.passes.forward_two.Goals.{In-loop-s, Start}
use Rattle.factor.proofs.passes.forward_two.Goals as goal

-- column j has a row
some : (c : Start) → get_or c.args.filled.now.columns.starts.now c.args.j 0 < get_or c.args.filled.now.columns.starts.now (c.args.j + 1) 0
some c = has-row c.args.filled.now.nodes c.args.filled.now.columns.starts.now c.args.filled.now.columns.rows.now c.args.filled.now.filled.plan c.args.filled.now.values.now c.args.j c.requires.vector_length.1 c.requires.j_value

pub overflow_sub-ahead : goal.overflow_sub-ahead
overflow_sub-ahead c = omega (arith, some (goal.at.overflow_sub-ahead c).Start)

pub overflow_sub-ahead-2 : goal.overflow_sub-ahead-2
overflow_sub-ahead-2 c = omega (arith, some (goal.at.overflow_sub-ahead-2 c).Start)

pub loop-s-init : goal.loop-s-init
loop-s-init c =
    let behind : get_or c.args.filled.now.columns.starts.now c.args.j 0 + 1 + (get_or c.args.filled.now.columns.starts.now (c.args.j + 1) 0 - get_or c.args.filled.now.columns.starts.now c.args.j 0 - 1) ≡ get_or c.args.filled.now.columns.starts.now (c.args.j + 1) 0 = omega (arith, some (goal.at.loop-s-init c).Start) in
    rw behind
    (both-begins c.args.filled.now.nodes c.args.filled.now.columns.starts.now c.args.filled.now.columns.rows.now c.args.filled.now.filled.plan c.args.filled.now.values.now c.args.j c.requires.vector_length.1 c.requires.j_value c.args.vector.now c.requires.vector_length.0)

-- the slots and their row are inside
inside : (c : In-loop-s) → (c.loop-s.s < length c.args.filled.now.values.now) × ((c.loop-s.s + (get_or c.args.filled.now.columns.starts.now (c.args.j + 1) 0 - get_or c.args.filled.now.columns.starts.now c.args.j 0 - 1)) < length c.args.filled.now.columns.rows.now) × ((c.loop-s.s + (get_or c.args.filled.now.columns.starts.now (c.args.j + 1) 0 - get_or c.args.filled.now.columns.starts.now c.args.j 0 - 1)) < length c.args.filled.now.values.now) × (get_or c.args.filled.now.columns.rows.now (c.loop-s.s + (get_or c.args.filled.now.columns.starts.now (c.args.j + 1) 0 - get_or c.args.filled.now.columns.starts.now c.args.j 0 - 1)) 0 < length c.loop-s.vector) × (length c.loop-s.vector ≡ length c.args.vector.now)
inside c =
    let n = c.args.filled.now.nodes in
    let taken : c.loop-s.s < get_or c.args.filled.now.columns.starts.now (c.args.j + 1) 0 = c.loop-s-test.true in
    let b = both-inside n c.args.filled.now.columns.starts.now c.args.filled.now.columns.rows.now c.args.filled.now.filled.plan c.args.filled.now.values.now c.args.j c.requires.vector_length.1 c.requires.j_value _ c.loop-s.vector c.loop-s.s (c.loop-s.s + (get_or c.args.filled.now.columns.starts.now (c.args.j + 1) 0 - get_or c.args.filled.now.columns.starts.now c.args.j 0 - 1)) _ _ (length-set c.args.vector.now (c.args.j + 1) _ ∙ c.requires.vector_length.0) c.loop-s.invariant taken in
    (omega (arith, b, c.args.filled.now.filled.slots), b.1, omega (arith, b, c.args.filled.now.filled.slots), b.2, c.loop-s.invariant.long ∙ length-set c.args.vector.now (c.args.j + 1) _)

pub loop-s-preserved : goal.loop-s-preserved
loop-s-preserved c =
    let on : c.loop-s.s + 1 + (get_or c.args.filled.now.columns.starts.now (c.args.j + 1) 0 - get_or c.args.filled.now.columns.starts.now c.args.j 0 - 1) ≡ (c.loop-s.s + (get_or c.args.filled.now.columns.starts.now (c.args.j + 1) 0 - get_or c.args.filled.now.columns.starts.now c.args.j 0 - 1)) + 1 = omega arith in
    rw on
    (both-steps c.args.filled.now.nodes c.args.filled.now.columns.starts.now c.args.filled.now.columns.rows.now c.args.filled.now.filled.plan c.args.filled.now.values.now c.args.j c.requires.vector_length.1 c.requires.j_value _ c.loop-s.vector c.loop-s.s (c.loop-s.s + (get_or c.args.filled.now.columns.starts.now (c.args.j + 1) 0 - get_or c.args.filled.now.columns.starts.now c.args.j 0 - 1)) _ _ (length-set c.args.vector.now (c.args.j + 1) _ ∙ c.requires.vector_length.0) c.loop-s.invariant c.loop-s-test.true)

pub shape_of-vector : goal.shape_of-vector
shape_of-vector c = c.loop-s.invariant.long ∙ length-set c.args.vector.now (c.args.j + 1) _

pub returns : goal.returns
returns c = both_ends c.args.filled.now.nodes c.args.filled.now.columns.starts.now c.args.filled.now.columns.rows.now c.args.filled.now.filled.plan c.args.filled.now.values.now c.args.j c.requires.vector_length.1 c.requires.j_value c.args.vector.now c.loop-s.vector c.loop-s.s (c.loop-s.s + (get_or c.args.filled.now.columns.starts.now (c.args.j + 1) 0 - get_or c.args.filled.now.columns.starts.now c.args.j 0 - 1)) _ _ c.loop-s.invariant c.loop-s-test.false

-- column j has a row
begins : (c : Start) → get_or c.args.filled.now.columns.starts.now c.args.j 0 < length c.args.filled.now.values.now
begins c = omega (arith, c.args.filled.now.filled.slots, first-inside c.args.filled.now.nodes c.args.filled.now.columns.starts.now c.args.filled.now.columns.rows.now c.args.filled.now.filled.plan c.args.filled.now.values.now c.args.j c.requires.vector_length.1 c.requires.j_value)

pub offset_bounds-filled-from : goal.offset_bounds-filled-from
offset_bounds-filled-from c = search (rules, begins (goal.at.offset_bounds-filled-from c).Start)

pub bounds-filled-from : goal.bounds-filled-from
bounds-filled-from c = search (rules, begins (goal.at.bounds-filled-from c).Start)

pub offset_bounds-filled-t : goal.offset_bounds-filled-t
offset_bounds-filled-t c = search (rules, inside (goal.at.offset_bounds-filled-t c).In-loop-s)

pub bounds-filled-t : goal.bounds-filled-t
bounds-filled-t c = search (rules, inside (goal.at.bounds-filled-t c).In-loop-s)

pub offset_bounds-vector-i : goal.offset_bounds-vector-i
offset_bounds-vector-i c = search (rules, inside (goal.at.offset_bounds-vector-i c).In-loop-s)

pub bounds-vector-i : goal.bounds-vector-i
bounds-vector-i c = search (rules, inside (goal.at.bounds-vector-i c).In-loop-s)

pub offset_bounds-filled-s : goal.offset_bounds-filled-s
offset_bounds-filled-s c = search (rules, inside (goal.at.offset_bounds-filled-s c).In-loop-s)

pub bounds-filled-s : goal.bounds-filled-s
bounds-filled-s c = search (rules, inside (goal.at.bounds-filled-s c).In-loop-s)

pub offset_bounds-filled-t-in-loop-s : goal.offset_bounds-filled-t-in-loop-s
offset_bounds-filled-t-in-loop-s c = search (rules, inside (goal.at.offset_bounds-filled-t-in-loop-s c).In-loop-s)

pub bounds-filled-t-in-loop-s : goal.bounds-filled-t-in-loop-s
bounds-filled-t-in-loop-s c = search (rules, inside (goal.at.bounds-filled-t-in-loop-s c).In-loop-s)

pub offset_bounds-vector-i-in-loop-s : goal.offset_bounds-vector-i-in-loop-s
offset_bounds-vector-i-in-loop-s c = search (rules, inside (goal.at.offset_bounds-vector-i-in-loop-s c).In-loop-s)

pub bounds-vector-i-in-loop-s : goal.bounds-vector-i-in-loop-s
bounds-vector-i-in-loop-s c = search (rules, inside (goal.at.bounds-vector-i-in-loop-s c).In-loop-s)
