-- `rowchecks::walks::not_covered` meets its contract: the loop tries each column, and no mark is of a column to come.
use mathlib.Core.Path.{◌≡◌, refl, sym, ap, ◌∙◌}
use mathlib.Core.Bool.{not}
use native.Mathlib.Omega.{arith}
use Rattle.plan.specs.File.{not_covered}
use Rattle.theory.proofs.Scans.{clear_more, found_below, none_below}
use Rattle.rowchecks.proofs.Covering.{filled-unmarked, breaks}
use Rattle.rowchecks.proofs.walks.not_covered.Goals.{After-covered}
use Rattle.rowchecks.proofs.walks.not_covered.Given.{Over}
use Rattle.rowchecks.proofs.walks.not_covered.Goals as goal

-- what `covered` answers
answer : (g : Over) (c : After-covered g) → (breaks c.args.column_starts.now (g.R.Rows.numbers c.args.rows)) c.loop-j.j ≡ not c.covered.result
answer g c = ap not (sym c.covered.ensures.0)

pub loop-j-init : goal.loop-j-init
loop-j-init g c = (c.filled-marks.ensures.1, filled-unmarked c.args.n c.filled-marks.result c.requires.started.few c.filled-marks.ensures.0, refl)

pub covered-requires : goal.covered-requires
covered-requires g c = (c.requires, c.loop-j-test.true, omega (arith, c.requires.started.few, c.loop-j.invariant.0), c.loop-j.invariant.1)

pub returns-then-not-covered : goal.returns-then-not-covered
unfolding not_covered
returns-then-not-covered g c = sym (found_below (breaks c.args.column_starts.now (g.R.Rows.numbers c.args.rows)) c.args.n c.loop-j.j c.loop-j-test.true (answer g (goal.at.returns-then-not-covered g c).After-covered ∙ (ap not c.if-not-covered.true)))

pub loop-j-preserved : goal.loop-j-preserved
loop-j-preserved g c = (
  c.covered.auto.marks ∙ c.loop-j.invariant.0,
  c.covered.ensures.1,
  clear_more (breaks c.args.column_starts.now (g.R.Rows.numbers c.args.rows)) c.loop-j.j c.loop-j.invariant.2 (answer g (goal.at.loop-j-preserved g c).After-covered ∙ (ap not c.if-not-covered.false)),
)

pub returns : goal.returns
unfolding not_covered
returns g c = sym (none_below (breaks c.args.column_starts.now (g.R.Rows.numbers c.args.rows)) c.args.n c.loop-j.j (omega arith) c.loop-j.invariant.2)

pub slice_bounds-covered-end : goal.slice_bounds-covered-end
slice_bounds-covered-end g c = sym c.loop-j.invariant.0
