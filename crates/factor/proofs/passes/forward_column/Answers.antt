-- `factor::passes::forward_column` meets its contract: the rows behind those yielded are left, and the column's entry is as it was.
use mathlib.Core.Path.{◌≡◌, refl, ap, ◌∙◌}
use mathlib.Core.List.{[], ◌∷◌, ◌++◌}
use Prim.Native.Nat.{◌+◌}
use native.Mathlib.Omega.{arith}
use borrow.Author.Rules.{rules}
use lib.ListN.{length, get_or, length-append}
use Rattle.std.specs.Iterator.Adapters.{zip_first, zip_second}
use Rattle.std.specs.Slice.Iter.{iter_rest}
use Rattle.plan.specs.Lists.{segment}
use Rattle.plan.specs.Filling.{slots_of}
use Rattle.plan.specs.Solving.{less_row, forward_column}
use Rattle.theory.proofs.FactorPlaces.{slot_inside, slot_after}
use Rattle.factor.proofs.PassSteps.{slot_turn, slots_end, turning_begins, row-steps, turning_ends}
use Rattle.factor.proofs.passes.forward_column.Goals.{After-into_iter-row-iterator}
use Rattle.factor.proofs.passes.forward_column.Goals as goal

-- what is walked
rows_begin : (c : After-into_iter-row-iterator) → iter_rest (zip_first c.into_iter-row-iterator.result) ≡ segment c.args.filled.now.columns.rows.now (get_or c.args.filled.now.columns.starts.now c.args.j 0) (get_or c.args.filled.now.columns.starts.now (c.args.j + 1) 0)
rows_begin c = ap (λ z. iter_rest (zip_first z)) c.into_iter-row-iterator.ensures.into_iter_gives ∙ ap iter_rest c.zip-row-items.ensures.first ∙ c.iter.ensures.rest ∙ c.rows_of.ensures

values_begin : (c : After-into_iter-row-iterator) → iter_rest (zip_second c.into_iter-row-iterator.result) ≡ segment c.args.filled.now.values.now (get_or c.args.filled.now.columns.starts.now c.args.j 0) (get_or c.args.filled.now.columns.starts.now (c.args.j + 1) 0)
values_begin c =
    let zipped : iter_rest (zip_second c.zip-row-items.result) ≡ segment c.args.filled.now.values.now (get_or c.args.filled.now.columns.starts.now c.args.j 0) (get_or c.args.filled.now.columns.starts.now (c.args.j + 1) 0) = search (rules, c.zip-row-items.ensures.second, c.values_of.ensures) in
    ap (λ z. iter_rest (zip_second z)) c.into_iter-row-iterator.ensures.into_iter_gives ∙ zipped

pub loop-row-init : goal.loop-row-init
loop-row-init c =
    let none : get_or c.args.filled.now.columns.starts.now c.args.j 0 + 0 ≡ get_or c.args.filled.now.columns.starts.now c.args.j 0 = omega arith in
    rw none
    (turning_begins (less_row c.args.filled.now.columns.rows.now c.args.filled.now.values.now c.args.j) (get_or c.args.filled.now.columns.starts.now c.args.j 0) (get_or c.args.filled.now.columns.starts.now (c.args.j + 1) 0) c.args.vector.now (slot_inside c.args.filled.now.nodes c.args.filled.now.columns.starts.now c.args.filled.now.columns.rows.now c.args.filled.now.filled.plan c.args.j c.requires.1).0, refl)

pub bounds-vector-i : goal.bounds-vector-i
bounds-vector-i c =
    let turn = slot_turn c.args.filled.now.columns.rows.now c.args.filled.now.values.now (get_or c.args.filled.now.columns.starts.now c.args.j 0) (get_or c.args.filled.now.columns.starts.now (c.args.j + 1) 0) c.loop-row.yielded c.into_iter-row-iterator.result c.loop-row.row-iterator c.next.new.self c.next.result (rows_begin (goal.at.bounds-vector-i c).After-into_iter-row-iterator) (values_begin (goal.at.bounds-vector-i c).After-into_iter-row-iterator) c.loop-row.yielded_by (c.in-Some.row, c.in-Some.value) c.in-Some.is c.next.ensures.steps in
    let row = slot_after c.args.filled.now.nodes c.args.filled.now.columns.starts.now c.args.filled.now.columns.rows.now c.args.filled.now.filled.plan c.args.j c.requires.1 (get_or c.args.filled.now.columns.starts.now c.args.j 0 + length c.loop-row.yielded) c.loop-row.invariant.0.low turn.0 in
    omega (arith, turn.1, row, c.requires.0, c.loop-row.invariant.0.long)

pub bounds-vector-i-in-loop-row : goal.bounds-vector-i-in-loop-row
bounds-vector-i-in-loop-row c =
    let turn = slot_turn c.args.filled.now.columns.rows.now c.args.filled.now.values.now (get_or c.args.filled.now.columns.starts.now c.args.j 0) (get_or c.args.filled.now.columns.starts.now (c.args.j + 1) 0) c.loop-row.yielded c.into_iter-row-iterator.result c.loop-row.row-iterator c.next.new.self c.next.result (rows_begin (goal.at.bounds-vector-i-in-loop-row c).After-into_iter-row-iterator) (values_begin (goal.at.bounds-vector-i-in-loop-row c).After-into_iter-row-iterator) c.loop-row.yielded_by (c.in-Some.row, c.in-Some.value) c.in-Some.is c.next.ensures.steps in
    let row = slot_after c.args.filled.now.nodes c.args.filled.now.columns.starts.now c.args.filled.now.columns.rows.now c.args.filled.now.filled.plan c.args.j c.requires.1 (get_or c.args.filled.now.columns.starts.now c.args.j 0 + length c.loop-row.yielded) c.loop-row.invariant.0.low turn.0 in
    omega (arith, turn.1, row, c.requires.0, c.loop-row.invariant.0.long)

pub loop-row-preserved : goal.loop-row-preserved
loop-row-preserved c =
    let turn = slot_turn c.args.filled.now.columns.rows.now c.args.filled.now.values.now (get_or c.args.filled.now.columns.starts.now c.args.j 0) (get_or c.args.filled.now.columns.starts.now (c.args.j + 1) 0) c.loop-row.yielded c.into_iter-row-iterator.result c.loop-row.row-iterator c.next.new.self c.next.result (rows_begin (goal.at.loop-row-preserved c).After-into_iter-row-iterator) (values_begin (goal.at.loop-row-preserved c).After-into_iter-row-iterator) c.loop-row.yielded_by (c.in-Some.row, c.in-Some.value) c.in-Some.is c.next.ensures.steps in
    let on : get_or c.args.filled.now.columns.starts.now c.args.j 0 + length (c.loop-row.yielded ++ ((c.in-Some.row, c.in-Some.value) ∷ [])) ≡ get_or c.args.filled.now.columns.starts.now c.args.j 0 + length c.loop-row.yielded + 1 = omega (arith, length-append c.loop-row.yielded ((c.in-Some.row, c.in-Some.value) ∷ [])) in
    rw (on, turn.1, turn.2)
    (row-steps c.args.filled.now.nodes c.args.filled.now.columns.starts.now c.args.filled.now.columns.rows.now c.args.filled.now.filled.plan c.args.filled.now.values.now c.args.j c.requires.1 c.args.vector.now c.loop-row.vector (get_or c.args.filled.now.columns.starts.now c.args.j 0 + length c.loop-row.yielded) _ c.loop-row.invariant.0 c.loop-row.invariant.1 turn.0)

pub returns : goal.returns
unfolding forward_column slots_of
returns c =
    let places = slot_inside c.args.filled.now.nodes c.args.filled.now.columns.starts.now c.args.filled.now.columns.rows.now c.args.filled.now.filled.plan c.args.j c.requires.1 in
    turning_ends (less_row c.args.filled.now.columns.rows.now c.args.filled.now.values.now c.args.j) (get_or c.args.filled.now.columns.starts.now c.args.j 0) (get_or c.args.filled.now.columns.starts.now (c.args.j + 1) 0) c.args.vector.now (get_or c.args.filled.now.columns.starts.now c.args.j 0 + length c.loop-row.yielded) c.loop-row.vector c.loop-row.invariant.0
    (slots_end c.args.filled.now.columns.rows.now c.args.filled.now.values.now (get_or c.args.filled.now.columns.starts.now c.args.j 0) (get_or c.args.filled.now.columns.starts.now (c.args.j + 1) 0) c.loop-row.yielded c.into_iter-row-iterator.result c.loop-row.row-iterator c.next.new.self c.next.result (rows_begin (goal.at.returns c).After-into_iter-row-iterator) (values_begin (goal.at.returns c).After-into_iter-row-iterator) c.loop-row.yielded_by places.2 (omega (arith, places.2, c.args.filled.now.filled.slots)) c.in-None.is c.next.ensures.steps)
