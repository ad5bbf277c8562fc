-- The book's plan that a plan in slices is, in each of its states: its counts and its lists as lent.
use Rattle.std.specs.Prelude.{length}
use Rattle.plan.specs.Planning.{Contents, contents}
use Rattle.planfile.specs.declared.lent.LentPlan.{LentPlan}
use Rattle.planfile.specs.declared.lent.UsedPlan.{UsedPlan}

-- as it is lent
abbrev pub contents_of : LentPlan → Contents
contents_of p = contents p.unknowns p.nodes p.parts p.slots p.order.now p.sizes.now p.parents.now p.column_starts.now p.rows.now

-- behind check 13, its entries that the counts name: each list is as long as its count says
abbrev pub used_by : UsedPlan → Contents
used_by p = contents p.unknowns p.nodes (length p.sizes.now) (length p.rows.now) p.order.now p.sizes.now p.parents.now p.column_starts.now p.rows.now
