-- `ndplan::entries::ndp_rows` meets its contract: where the question is not refused, the column's two starts make up the span.
use Rattle.std.proofs.Common.{◌≡◌, sym, ap, ◌∙◌, ℕ, suc, ◌<◌, arith}
use Rattle.plan.specs.Mesh.{max_nodes}
use Rattle.plan.specs.Refusals.{number_of, fault_of}
use Rattle.plan.specs.Questions.{column_refusal}
use Rattle.mesh.specs.Lists.{ListWithin}
use Rattle.theory.proofs.Refusals.{number-suc}
use Rattle.layout.proofs.Answered.{column_there, span_refused, span_found_lem}
use Rattle.ndplan.proofs.entries.ndp_rows.Goals.{In-Ok, In-Err}
use Rattle.ndplan.proofs.entries.ndp_rows.Goals as goal

-- the question is not refused
answered : (c : In-Ok) → column_refusal c.args.n c.args.column_starts.now c.args.rows.now c.args.j ≡ 0
answered c = sym c.column_refusal.ensures ∙ ap fault_of c.in-Ok.is

-- so j is a small number, and column j lies within the rows
there : (c : In-Ok) → (c.args.j < max_nodes) × ListWithin c.args.column_starts.now c.args.rows.now c.args.j
there c = column_there c.args.n c.args.column_starts.now c.args.rows.now c.args.j (answered c)

pub offset_bounds-column_starts-j : goal.offset_bounds-column_starts-j
offset_bounds-column_starts-j c = omega (arith, (there (goal.at.offset_bounds-column_starts-j c).In-Ok).0)

pub offset_bounds-column_starts-j-in-Ok : goal.offset_bounds-column_starts-j-in-Ok
offset_bounds-column_starts-j-in-Ok c = omega (arith, (there (goal.at.offset_bounds-column_starts-j-in-Ok c).In-Ok).0)

pub offset_bounds-column_starts-j-in-Ok-2 : goal.offset_bounds-column_starts-j-in-Ok-2
offset_bounds-column_starts-j-in-Ok-2 c = omega (arith, (there (goal.at.offset_bounds-column_starts-j-in-Ok-2 c).In-Ok).0)

pub overflow_add-result : goal.overflow_add-result
overflow_add-result c = omega (arith, (there (goal.at.overflow_add-result c).In-Ok).0)

pub bounds-column_starts-j : goal.bounds-column_starts-j
bounds-column_starts-j c = omega (arith, (there (goal.at.bounds-column_starts-j c).In-Ok).1.started)

pub bounds-column_starts-j-in-Ok : goal.bounds-column_starts-j-in-Ok
bounds-column_starts-j-in-Ok c = (there (goal.at.bounds-column_starts-j-in-Ok c).In-Ok).1.started

pub bounds-column_starts-j-in-Ok-2 : goal.bounds-column_starts-j-in-Ok-2
bounds-column_starts-j-in-Ok-2 c = omega (arith, (there (goal.at.bounds-column_starts-j-in-Ok-2 c).In-Ok).1.started)

pub overflow_sub-result : goal.overflow_sub-result
overflow_sub-result c = (there (goal.at.overflow_sub-result c).In-Ok).1.ordered

pub returns-in-Ok : goal.returns-in-Ok
returns-in-Ok c = rw (answered (goal.at.returns-in-Ok c).In-Ok, span_found_lem c.args.n c.args.column_starts.now c.args.rows.now c.args.j (answered (goal.at.returns-in-Ok c).In-Ok))

-- the question is refused by this number, which is not 0
refused_by : (c : In-Err) → column_refusal c.args.n c.args.column_starts.now c.args.rows.now c.args.j ≡ number_of c.in-Err.refusal
refused_by c = sym c.column_refusal.ensures ∙ ap fault_of c.in-Err.is

pub returns-in-Err : goal.returns-in-Err
returns-in-Err c =
    let told = refused_by (goal.at.returns-in-Err c).In-Err in
    let some : (k : ℕ) × (number_of c.in-Err.refusal ≡ suc k) = number-suc c.in-Err.refusal in
    rw (c.number.ensures, span_refused c.args.n c.args.column_starts.now c.args.rows.now c.args.j (λ z. omega (arith, z, told, some.1)), told, c.default.ensures.1.0, c.default.ensures.1.1)
