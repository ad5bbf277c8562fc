-- `planfile::file::HeadedFile::check_fields` meets its contract: its tests are checks 15 to 19 of the file, in their order.
use mathlib.Core.Path.{sym, ◌∙◌}
use native.Mathlib.Omega.{arith}
use Rattle.std.proofs.lemmas.Result.{err_from_is_err_and}
use Rattle.plan.specs.File.{parse}
use Rattle.theory.proofs.Refusals.{number-suc}
use Rattle.planfile.proofs.Passing.{order_refused, order_passed, rows_refused}
use Rattle.planfile.proofs.Headed.{headed_sizes, order-few, file-ordered, file-parts, starts-long, rows_apart, rows-started, file-looked}
use Rattle.planfile.proofs.file.HeadedFile.check_fields.Goals as goal

pub check_order_and_parts-requires : goal.check_order_and_parts-requires
check_order_and_parts-requires c = order-few _ _ c.args.self.now.headed _ _ _ _ c.requires

pub returns-in_err-check_order_and_parts : goal.returns-in_err-check_order_and_parts
returns-in_err-check_order_and_parts c =
    let p = err_from_is_err_and c.from_residual.result c.from_residual.ensures.1 in
    rw (p.1, p.2) (order_refused (parse c.args.self.now.bytes.now) _ (λ z. omega (arith, z, (number-suc c.in_err-check_order_and_parts.field-0.0).1))
    (c.in_err-check_order_and_parts.ensures ∙ file-ordered _ _ c.args.self.now.headed _ _ _ _ c.requires))

-- ---- 17
pub offset_bounds-column_starts-self : goal.offset_bounds-column_starts-self
offset_bounds-column_starts-self c = omega (arith, (headed_sizes _ _ c.args.self.now.headed).few)

pub bounds-column_starts-self : goal.bounds-column_starts-self
bounds-column_starts-self c = omega (arith, starts-long _ _ c.args.self.now.headed _ _ _ _ c.requires)

pub returns-then-column_starts-self : goal.returns-then-column_starts-self
returns-then-column_starts-self c =
    rows_refused (parse c.args.self.now.bytes.now) (c.in_ok-check_order_and_parts.ensures ∙ file-ordered _ _ c.args.self.now.headed _ _ _ _ c.requires)
    (rows_apart _ _ c.args.self.now.headed _ _ _ _ c.requires (λ z. c.if-column_starts-self.true z))

-- ---- 17 to 19
pub check_rows-requires : goal.check_rows-requires
check_rows-requires c = (
  file-parts _ _ c.args.self.now.headed _ _ _ _ c.requires (c.in_ok-check_order_and_parts.ensures ∙ file-ordered _ _ c.args.self.now.headed _ _ _ _ c.requires),
  rows-started _ _ c.args.self.now.headed _ _ _ _ c.requires _ c.rows.ensures c.if-column_starts-self.false,
)

pub returns : goal.returns
returns c =
    c.check_rows.ensures ∙ file-looked _ _ c.args.self.now.headed _ _ _ _ c.requires _ c.rows.ensures
    ∙ sym (order_passed (parse c.args.self.now.bytes.now) (c.in_ok-check_order_and_parts.ensures ∙ file-ordered _ _ c.args.self.now.headed _ _ _ _ c.requires))
