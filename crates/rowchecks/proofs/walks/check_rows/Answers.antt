-- `rowchecks::walks::check_rows` meets its contract: the walk's answer is that of 17 and 18, and where it is none 19 is left.
use mathlib.Core.Path.{sym, ◌∙◌}
use native.Mathlib.Omega.{arith}
use Rattle.std.proofs.lemmas.Result.{err_from_is_err_and}
use Rattle.theory.proofs.RowFaults.{carried_columns, answer-ordered}
use Rattle.theory.proofs.Refusals.{number-suc}
use Rattle.rowchecks.specs.Rows.{parts_and_rows}
use Rattle.rowchecks.proofs.RowChecks.{walk_refused, walk_passed, covered_rows}
use Rattle.rowchecks.proofs.walks.check_rows.Goals as goal

pub returns-in_err-answer : goal.returns-in_err-answer
returns-in_err-answer g c =
    let p = err_from_is_err_and c.from_residual.result c.from_residual.ensures.1 in
    rw (p.1, p.2) (walk_refused (parts_and_rows c.args.n c.args.sizes.now c.args.parents.now c.args.column_starts.now (g.R.Rows.numbers c.args.rows)) _ _ c.requires.1.starts c.requires.1.last c.walk.ensures _ (λ z. omega (arith, z, (number-suc c.in_err-answer.field-0.0).1)) c.in_err-answer.ensures)

pub not_covered-requires : goal.not_covered-requires
not_covered-requires g c = record {
  started = c.requires.1;
  good = sym (carried_columns (parts_and_rows c.args.n c.args.sizes.now c.args.parents.now c.args.column_starts.now (g.R.Rows.numbers c.args.rows)) _ _ c.walk.ensures) ∙ answer-ordered _ _ (sym c.in_ok-answer.ensures);
}

pub returns-then-not_covered : goal.returns-then-not_covered
returns-then-not_covered g c =
    rw (walk_passed (parts_and_rows c.args.n c.args.sizes.now c.args.parents.now c.args.column_starts.now (g.R.Rows.numbers c.args.rows)) _ _ c.requires.1.starts c.requires.1.last c.walk.ensures c.in_ok-answer.ensures, sym (covered_rows c.args.n c.args.sizes.now c.args.parents.now c.args.column_starts.now (g.R.Rows.numbers c.args.rows)) ∙ sym c.not_covered.ensures ∙ c.if-not_covered.true)

pub returns : goal.returns
returns g c =
    rw (walk_passed (parts_and_rows c.args.n c.args.sizes.now c.args.parents.now c.args.column_starts.now (g.R.Rows.numbers c.args.rows)) _ _ c.requires.1.starts c.requires.1.last c.walk.ensures c.in_ok-answer.ensures, sym (covered_rows c.args.n c.args.sizes.now c.args.parents.now c.args.column_starts.now (g.R.Rows.numbers c.args.rows)) ∙ sym c.not_covered.ensures ∙ c.if-not_covered.false)
