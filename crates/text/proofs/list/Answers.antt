-- `text::list` meets its promise: what check 20 refuses is listed as its refusal, and else the mesh is.
use mathlib.Core.Path.{sym, ap, ◌∙◌}
use native.Mathlib.Omega.{arith}
use lib.ListN.{length}
use Rattle.text.proofs.Bound.{refusal-fits}
use Rattle.text.proofs.Answers.{listing-refused, listing-mesh}
use Rattle.text.proofs.list.Goals as goal

pub refusal-requires : goal.refusal-requires
refusal-requires c = omega (arith, ap length c.new-text.ensures, refusal-fits 20 (omega arith))

pub returns-then-bad_input : goal.returns-then-bad_input
returns-then-bad_input c = rw (c.refusal.ensures, c.new-text.ensures) (sym (listing-refused c.args.input.now (sym c.bad_input.ensures ∙ c.if-bad_input.true)))

pub returns-else-bad_input : goal.returns-else-bad_input
returns-else-bad_input c = c.put_input.ensures ∙ sym (listing-mesh c.args.input.now (sym c.bad_input.ensures ∙ c.if-bad_input.false))
