-- `layout::checked::CheckedLayout::span` meets its contract: a column of a layout without a fault lies within the rows.
use mathlib.Core.Path.{refl}
use native.Mathlib.Omega.{arith}
use Rattle.plan.specs.Questions.{span_found}
use Rattle.mesh.specs.Lists.{ListWithin}
use Rattle.layout.proofs.Answered.{known-within}
use Rattle.layout.proofs.checked.CheckedLayout.span.Goals.{Start}
use Rattle.layout.proofs.checked.CheckedLayout.span.Goals as goal

within : (c : Start) → ListWithin c.args.self.now.column_starts.now c.args.self.now.rows.now c.args.j
within c = known-within c.args.self.now c.args.j c.requires

pub offset_bounds-self-j : goal.offset_bounds-self-j
offset_bounds-self-j c = let w = within (goal.at.offset_bounds-self-j c).Start in omega (arith, w.started)

pub bounds-self-j : goal.bounds-self-j
bounds-self-j c = let w = within (goal.at.bounds-self-j c).Start in omega (arith, w.started)

pub offset_bounds-self-j-2 : goal.offset_bounds-self-j-2
offset_bounds-self-j-2 c = let w = within (goal.at.offset_bounds-self-j-2 c).Start in omega (arith, w.started)

pub bounds-self-j-2 : goal.bounds-self-j-2
bounds-self-j-2 c = (within (goal.at.bounds-self-j-2 c).Start).started

pub overflow_sub-result : goal.overflow_sub-result
overflow_sub-result c = (within (goal.at.overflow_sub-result c).Start).ordered

pub returns : goal.returns
unfolding span_found
returns c = refl
