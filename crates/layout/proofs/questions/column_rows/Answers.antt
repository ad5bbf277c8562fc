-- `layout::questions::column_rows` meets its contract: the span lies within the rows, refused or not.
use mathlib.Core.Path.{◌≡◌}
use Prim.Native.Nat.{◌+◌, ◌-◌, ◌≤◌}
use native.Mathlib.Omega.{arith}
use lib.ListN.{length}
use Rattle.plan.specs.Questions.{column_rows}
use Rattle.layout.proofs.Answered.{span_within}
use Rattle.layout.proofs.questions.column_rows.Goals.{After-struct_known-1}
use Rattle.layout.proofs.questions.column_rows.Goals as goal

-- the span lies within the rows
within : (c : After-struct_known-1) → c.column_span-span.result.start + c.column_span-span.result.count ≤ length c.args.rows.now
within c = rw c.column_span-span.ensures (span_within c.args.n c.args.column_starts.now c.args.rows.now c.args.j)

pub overflow_add-result : goal.overflow_add-result
overflow_add-result c = omega (arith, within (goal.at.overflow_add-result c).After-struct_known-1)

pub offset_bounds-rows-span : goal.offset_bounds-rows-span
offset_bounds-rows-span c = omega (arith, within (goal.at.offset_bounds-rows-span c).After-struct_known-1)

pub slice_bounds-result-end : goal.slice_bounds-result-end
slice_bounds-result-end c = omega (arith, within (goal.at.slice_bounds-result-end c).After-struct_known-1)

pub returns : goal.returns
unfolding column_rows
returns c =
    let whole : c.column_span-span.result.start + c.column_span-span.result.count - c.column_span-span.result.start ≡ c.column_span-span.result.count = omega arith in
    rw (whole, c.column_span-span.ensures)
