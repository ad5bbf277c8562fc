-- `factor::table::FilledColumns::rows_of` meets its contract: the column's slots are slots of the plan.
use Prim.Native.Nat.{◌+◌, ◌≤◌}
use native.Mathlib.Omega.{arith}
use borrow.Author.Rules.{rules}
use lib.ListN.{length, get_or}
use Rattle.theory.proofs.FactorPlaces.{slot_inside}
use Rattle.factor.proofs.table.FilledColumns.rows_of.Goals.{Start}
use Rattle.factor.proofs.table.FilledColumns.rows_of.Goals as goal

inside : (c : Start) → (get_or c.args.self.now.columns.starts.now c.args.j 0 ≤ get_or c.args.self.now.columns.starts.now (c.args.j + 1) 0) × (get_or c.args.self.now.columns.starts.now (c.args.j + 1) 0 ≤ length c.args.self.now.columns.rows.now)
inside c =
    let ends = slot_inside c.args.self.now.nodes c.args.self.now.columns.starts.now c.args.self.now.columns.rows.now c.args.self.now.filled.plan c.args.j c.requires in
    (ends.0, omega (arith, ends.2))

pub slice_bounds-result-count : goal.slice_bounds-result-count
slice_bounds-result-count c = search (rules, inside (goal.at.slice_bounds-result-count c).Start)

pub slice_bounds-result-start : goal.slice_bounds-result-start
slice_bounds-result-start c = search (rules, inside (goal.at.slice_bounds-result-start c).Start)

pub slice_bounds-result-end : goal.slice_bounds-result-end
slice_bounds-result-end c = search (rules, inside (goal.at.slice_bounds-result-end c).Start)
