-- `factor::columns::factor_columns` meets its contract: the columns from j on give what all of them do.
use mathlib.Core.Path.{sym, ap, ◌∙◌}
use mathlib.Core.Bool.{not}
use native.Mathlib.Omega.{arith}
use borrow.Author.Rules.{rules}
use borrow.Author.Tests.{not-true, not-false}
use lib.ListN.{length}
use Rattle.theory.proofs.FactorPlaces.{slot_inside}
use Rattle.factor.proofs.ColumnSteps.{column_fits}
use Rattle.factor.proofs.AllColumns.{operations_few, columns-begin, columns_stop, columns-end, columns-next}
use Rattle.factor.proofs.columns.factor_columns.Goals as goal

pub loop-j-init : goal.loop-j-init
loop-j-init c = columns-begin c.args.columns.now.starts.now c.args.columns.now.rows.now c.args.diagonal.now c.args.values.now c.open-report.result _ _ _ (search rules) (search rules) (search rules) c.open-report.ensures

pub returns-then-not-is_pivot : goal.returns-then-not-is_pivot
returns-then-not-is_pivot c = columns_stop c.args.columns.now.starts.now c.args.columns.now.rows.now c.args.diagonal.now c.args.values.now c.open-report.result c.loop-j.diagonal c.loop-j.values c.loop-j.kept c.loop-j.lower c.loop-j.places c.loop-j.report c.loop-j.j c.loop-j.invariant c.open-report.ensures c.loop-j-test.true (sym c.is_pivot.ensures ∙ not-true c.is_pivot.result (ap not c.if-not-is_pivot.true))

pub factor_column-requires : goal.factor_column-requires
factor_column-requires c =
    record {
      plan = rw c.loop-j.invariant.long_diagonal c.requires.plan;
      column = omega (arith, c.loop-j-test.true, c.loop-j.invariant.long_diagonal);
      slots = c.requires.slots ∙ sym c.loop-j.invariant.long_values;
      few = c.requires.few_slots;
      room_kept = omega (arith, c.loop-j.invariant.long_diagonal, c.loop-j.invariant.long_kept, c.requires.few);
      room_lower = omega (arith, c.loop-j.invariant.long_diagonal, c.loop-j.invariant.long_lower, c.requires.few);
      room_places = omega (arith, c.loop-j.invariant.long_diagonal, c.loop-j.invariant.long_places, c.requires.few);
    }

pub operations-requires : goal.operations-requires
operations-requires c =
    let n = length c.args.diagonal.now in (
      omega (arith, c.requires.plan.starts.many, c.loop-j-test.true),
      (slot_inside n c.args.columns.now.starts.now c.args.columns.now.rows.now c.requires.plan c.loop-j.j c.loop-j-test.true).0,
      omega (arith, column_fits n c.args.columns.now.starts.now c.args.columns.now.rows.now c.requires.plan c.loop-j.j c.loop-j-test.true, c.requires.few),
    )

pub after-report-requires : goal.after-report-requires
after-report-requires c = omega (arith, c.loop-j.invariant.few, c.loop-j-test.true, c.requires.few, c.operations.ensures, operations_few (length c.args.diagonal.now) c.args.columns.now.starts.now c.args.columns.now.rows.now c.requires.plan c.requires.few c.loop-j.j c.loop-j-test.true)

pub loop-j-preserved : goal.loop-j-preserved
loop-j-preserved c =
    columns-next c.args.columns.now.starts.now c.args.columns.now.rows.now c.args.diagonal.now c.args.values.now c.open-report.result c.loop-j.diagonal c.loop-j.values c.loop-j.kept c.loop-j.lower c.loop-j.places c.loop-j.report c.loop-j.j c.loop-j.invariant
    c.requires.plan c.requires.few c.loop-j-test.true (sym c.is_pivot.ensures ∙ not-false c.is_pivot.result (ap not c.if-not-is_pivot.false))
    c.factor_column.new.diagonal c.factor_column.new.values c.factor_column.new.kept c.factor_column.new.lower c.factor_column.new.places c.after-report.result c.operations.result c.factor_column.ensures
    c.factor_column.auto.diagonal c.factor_column.auto.values c.factor_column.auto.kept c.factor_column.auto.lower c.factor_column.auto.places c.operations.ensures c.after-report.ensures

pub returns : goal.returns
returns c = columns-end c.args.columns.now.starts.now c.args.columns.now.rows.now c.args.diagonal.now c.args.values.now c.open-report.result c.loop-j.diagonal c.loop-j.values c.loop-j.kept c.loop-j.lower c.loop-j.places c.loop-j.report c.loop-j.j c.loop-j.invariant c.open-report.ensures c.loop-j-test.false

pub slice_bounds-factor_column-end : goal.slice_bounds-factor_column-end
slice_bounds-factor_column-end c = sym c.loop-j.invariant.long_kept

pub slice_bounds-factor_column-end-in-loop-j : goal.slice_bounds-factor_column-end-in-loop-j
slice_bounds-factor_column-end-in-loop-j c = sym c.loop-j.invariant.long_lower

pub slice_bounds-factor_column-end-in-loop-j-2 : goal.slice_bounds-factor_column-end-in-loop-j-2
slice_bounds-factor_column-end-in-loop-j-2 c = sym c.loop-j.invariant.long_places
