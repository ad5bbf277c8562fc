-- `layout::checks::bad_columns` meets its contract: the loop tries each column.
use mathlib.Core.Path.{◌≡◌, sym, ◌∙◌}
use native.Mathlib.Omega.{arith}
use Rattle.plan.specs.File.{bad_columns}
use Rattle.theory.proofs.Scans.{clear_more, found_below, none_below}
use Rattle.mesh.proofs.Lists.{good-starts-within}
use Rattle.layout.proofs.checks.bad_columns.Invariants.{breaks}
use Rattle.layout.proofs.checks.bad_columns.Goals.{After-bad_column}
use Rattle.layout.proofs.checks.bad_columns.Goals as goal

-- what `bad_column` answers
answer : (c : After-bad_column) → (breaks c.args.n c.args.column_starts.now c.args.rows.now) c.loop-j.j ≡ c.bad_column.result
answer c = rw (c.bad_column.ensures, c.list.ensures)

pub list-requires : goal.list-requires
list-requires c = good-starts-within c.args.n c.args.column_starts.now c.args.rows.now c.requires.0 c.requires.1 c.loop-j.j c.loop-j-test.true

pub returns-then-bad_column : goal.returns-then-bad_column
unfolding bad_columns
returns-then-bad_column c = sym (found_below (breaks c.args.n c.args.column_starts.now c.args.rows.now) c.args.n c.loop-j.j (omega arith) (answer (goal.at.returns-then-bad_column c).After-bad_column ∙ c.if-bad_column.true))

pub loop-j-preserved : goal.loop-j-preserved
loop-j-preserved c = clear_more (breaks c.args.n c.args.column_starts.now c.args.rows.now) c.loop-j.j c.loop-j.invariant (answer (goal.at.loop-j-preserved c).After-bad_column ∙ c.if-bad_column.false)

pub returns : goal.returns
unfolding bad_columns
returns c = sym (none_below (breaks c.args.n c.args.column_starts.now c.args.rows.now) c.args.n c.loop-j.j (omega arith) c.loop-j.invariant)
