-- `planner::check` meets its contract: what the mesh's checks refuse stands between checks 28 and 8.
use mathlib.Core.Path.{sym, ◌∙◌}
use Rattle.std.proofs.Common.{rules}
use Rattle.plan.specs.Planning.{lengths}
use Rattle.mesh.specs.Lent.{lent_by}
use Rattle.planner.proofs.Planning.{early-refused}
use Rattle.planner.proofs.check.Goals as goal

pub returns-in_err-checked-clause-fault : goal.returns-in_err-checked-clause-fault
returns-in_err-checked-clause-fault c =
    let room = lengths c.args.order c.args.positions c.args.sizes c.args.parents c.args.column_starts 0 in
    let first = early-refused c.args.unknowns (lent_by c.args.mesh.now) room _ (sym c.bad_unknowns.ensures ∙ c.if-bad_unknowns.false) c.in_err-checked.ensures.fault in
    search rules
