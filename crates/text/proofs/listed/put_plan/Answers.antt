-- `text::listed::put_plan` meets its contract.
use mathlib.Core.Path.{ap}
use mathlib.Core.List.{append_assoc}
use native.Mathlib.Omega.{arith}
use lib.ListN.{length, length-append}
use lib.Seq.{length-take-le}
use Rattle.text.proofs.Lines.{plan-parts, plan-length}
use Rattle.text.proofs.listed.put_plan.Goals as goal

pub head-requires : goal.head-requires
head-requires c = omega (arith, plan-length c.args.counts.nodes c.args.counts.parts c.args.counts.slots c.args.order.now c.args.sizes.now c.args.column_starts.now c.args.rows.now c.requires.plan_within.nodes)

pub put_lines-requires : goal.put_lines-requires
put_lines-requires c =
    record {
      by_index = λ j l. c.requires.plan_within.columns j (omega (arith, length-take-le c.args.counts.nodes c.args.order.now c.requires.plan_within.nodes));
      room = omega (arith, simp length-append at (ap length c.head.ensures), plan-length c.args.counts.nodes c.args.counts.parts c.args.counts.slots c.args.order.now c.args.sizes.now c.args.column_starts.now c.args.rows.now c.requires.plan_within.nodes, c.requires.room);
    }

pub returns : goal.returns
returns c = rw (c.put_lines.ensures, c.head.ensures, plan-parts c.args.counts.nodes c.args.counts.parts c.args.counts.slots c.args.order.now c.args.sizes.now c.args.column_starts.now c.args.rows.now c.requires.plan_within.nodes) (simp append_assoc)
