-- `rowchecks::walks::walk_columns` meets its contract: column after column is added to what is carried.
use mathlib.Core.Path.{◌≡◌}
use native.Mathlib.Omega.{arith}
use borrow.Author.Rules.{rules}
use Rattle.theory.proofs.RowFaults.{carried_none}
use Rattle.rowchecks.specs.Rows.{parts_and_rows}
use Rattle.rowchecks.proofs.walks.walk_columns.Goals as goal

pub loop-j-init : goal.loop-j-init
loop-j-init g c = (
  omega arith,
  λ sizes parents h. rw (c.none-faults.ensures.0, c.none-faults.ensures.1) (carried_none (parts_and_rows c.args.ranges.now.n sizes parents c.args.column_starts.now (g.R.Rows.numbers c.args.rows))),
)

pub loop-j-preserved : goal.loop-j-preserved
loop-j-preserved g c = (search rules, λ sizes parents h. c.after_column-faults.ensures sizes parents h (c.loop-j.invariant.1 sizes parents h))

pub returns : goal.returns
returns g c sizes parents h =
    let e : c.loop-j.j ≡ c.args.ranges.now.n = omega arith in
    rw e at (c.loop-j.invariant.1 sizes parents h)
