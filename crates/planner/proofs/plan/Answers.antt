-- `planner::plan` meets its promise: checks 28 and 1 to 8, then what is left of planning.
use mathlib.Core.Path.{sym, ap, ◌∙◌}
use Rattle.std.proofs.Common.{rules}
use Rattle.plan.specs.Mesh.{Mesh}
use Rattle.plan.specs.Planning.{Buffers, buffers, buffers_too_short}
use Rattle.theory.proofs.Handed.{lengths_of}
use Rattle.mesh.specs.Lent.{lent_by}
use Rattle.planner.proofs.Planning.{early-passed, planned-refused, planned-checked}
use Rattle.planner.proofs.plan.Goals.{Start, After-check}
use Rattle.planner.proofs.plan.Goals as goal

-- the buffers as they are lent
abbrev found : (c : Start) → Buffers
found c = buffers c.args.order.now c.args.positions.now c.args.sizes.now c.args.parents.now c.args.column_starts.now c.args.rows.now

pub returns-in_err-checked : goal.returns-in_err-checked
returns-in_err-checked c =
    let refused = planned-refused c.args.unknowns (lent_by c.args.mesh.now) (found (goal.at.returns-in_err-checked c).Start) _ c.in_err-checked.ensures.fault in
    search rules

pub plan_checked-requires-clause-long_enough : goal.plan_checked-requires-clause-long_enough
plan_checked-requires-clause-long_enough c =
    let room = lengths_of (found (goal.at.plan_checked-requires-clause-long_enough c).Start) in
    ap (λ (m : Mesh). buffers_too_short m.nodes room) c.in_ok-checked.ensures.passed ∙ (early-passed c.args.unknowns (lent_by c.args.mesh.now) room (sym c.in_ok-checked.ensures.fault)).0

pub plan_checked-requires-clause-few_unknowns : goal.plan_checked-requires-clause-few_unknowns
plan_checked-requires-clause-few_unknowns c = (early-passed c.args.unknowns (lent_by c.args.mesh.now) (lengths_of (found (goal.at.plan_checked-requires-clause-few_unknowns c).Start)) (sym c.in_ok-checked.ensures.fault)).1

pub returns : goal.returns
returns c = planned-checked c.args.unknowns (lent_by c.args.mesh.now) c.plan_checked.result (found (goal.at.returns c).Start) _ (sym c.in_ok-checked.ensures.fault) (rw c.in_ok-checked.ensures.passed at c.plan_checked.ensures)
