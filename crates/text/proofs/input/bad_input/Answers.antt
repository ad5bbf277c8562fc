-- `text::input::bad_input` meets its contract.
use mathlib.Core.Path.{sym, ap, ◌∙◌}
use Prim.Native.Nat.{ℕ, ◌-◌, ◌%◌}
use native.Mathlib.Omega.{arith}
use lib.Dec.{eqb}
use lib.ListN.{length}
use Rattle.text.proofs.Inputs.{Passes, bad_short, bad_nodes, bad_end, bad_entries, bad_rest}
use Rattle.text.proofs.input.bad_input.Goals as goal

pub returns-then-input-lt2 : goal.returns-then-input-lt2
returns-then-input-lt2 c = sym (bad_short c.args.input.now c.if-input-lt2.true)

pub returns-then-node_count-gt-LISTED_NODES : goal.returns-then-node_count-gt-LISTED_NODES
returns-then-node_count-gt-LISTED_NODES c = sym (bad_nodes c.args.input.now (omega (arith, c.if-node_count-gt-LISTED_NODES.true, c.node_count.ensures.0)))

pub returns-then-input-neighbours_at : goal.returns-then-input-neighbours_at
returns-then-input-neighbours_at c = sym (bad_end c.args.input.now (omega (arith, c.if-input-neighbours_at.true, c.neighbours_at.ensures)))

pub returns-then-entry_count-gt-LISTED_ENTRIES : goal.returns-then-entry_count-gt-LISTED_ENTRIES
returns-then-entry_count-gt-LISTED_ENTRIES c = sym (bad_entries c.args.input.now (omega (arith, c.if-entry_count-gt-LISTED_ENTRIES.true, c.entry_count.ensures)))

pub returns : goal.returns
returns c =
    let passes : Passes c.args.input.now =
    record {
      long = omega (arith, c.if-input-neighbours_at.false, c.neighbours_at.ensures);
      nodes = omega (arith, c.if-node_count-gt-LISTED_NODES.false, c.node_count.ensures.0);
      entries = omega (arith, c.if-entry_count-gt-LISTED_ENTRIES.false, c.entry_count.ensures);
    } in
    ap (λ (k : ℕ). eqb ((length c.args.input.now - k) % 2) 1) c.neighbours_at-2.ensures ∙ sym (bad_rest c.args.input.now passes)
