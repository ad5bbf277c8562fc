-- `mesh::Listed::one_sided` meets its contract: the outer loop tries each node, the inner one each entry of its list, and the first entry that passes ends
-- both.
use Rattle.std.proofs.Common.{◌≡◌, sym, ap, ◌∙◌, true, not, get_or, rules, arith, ◌<◌}
use Rattle.plan.specs.Lists.{exists, is_in}
use Rattle.plan.specs.Mesh.{adjacent, one_sided}
use Rattle.theory.proofs.Lists.{is_in-get_or}
use Rattle.theory.proofs.Checked.{node_count, entry_inside}
use Rattle.theory.proofs.Scans.{clear_more, found_below, none_below, element_at, found_in, none_in}
use Rattle.mesh.specs.Lent.{listed_by}
use Rattle.mesh.proofs.listed.Listed.one_sided.Invariants.{lone, lone_in}
use Rattle.mesh.proofs.listed.Listed.one_sided.Goals.{At-loop-w, After-contains-missing}
use Rattle.mesh.proofs.listed.Listed.one_sided.Goals as goal

-- what `contains` answers
answer : (c : After-contains-missing) → element_at (lone (listed_by c.args.self.now) c.nodes.v) c.list-w-items.result.now c.loop-w.w-index ≡ not c.contains-missing.result
unfolding adjacent
answer c = ap not (sym (c.contains-missing.ensures ∙ ap (is_in c.nodes.v) c.list.ensures))

-- an entry is a node
pub list-requires : goal.list-requires
unfolding adjacent
list-requires c =
    let e : is_in (get_or c.list-w-items.result.now c.loop-w.w-index 0) c.list-w-items.result.now ≡ true = is_in-get_or c.list-w-items.result.now c.loop-w.w-index 0 c.loop-w-test.true in
    entry_inside (listed_by c.args.self.now) c.requires c.nodes.v (get_or c.list-w-items.result.now c.loop-w.w-index 0) (ap (is_in (get_or c.list-w-items.result.now c.loop-w.w-index 0)) (sym c.list-w-items.ensures) ∙ e)

-- a node is a number of 16 bits
pub overflow_cast-v : goal.overflow_cast-v
overflow_cast-v c =
    let most = (node_count c.args.self.now.nodes c.args.self.now.counted).1 in
    search rules

pub loop-w-preserved : goal.loop-w-preserved
loop-w-preserved c = ((ap not c.if-missing.false), clear_more (element_at (lone (listed_by c.args.self.now) c.nodes.v) c.list-w-items.result.now) c.loop-w.w-index c.loop-w.invariant.1 (answer (goal.at.loop-w-preserved c).After-contains-missing ∙ (ap not c.if-missing.false)))

pub nodes-preserved : goal.nodes-preserved
nodes-preserved c =
    let m = listed_by c.args.self.now in
    (c.loop-w.invariant.0, clear_more (lone_in m) c.nodes.v c.nodes.invariant.1 (ap (exists (lone m c.nodes.v)) (sym c.list-w-items.ensures) ∙ none_in (lone m c.nodes.v) c.list-w-items.result.now c.loop-w.w-index (omega arith) c.loop-w.invariant.1))

pub returns-after-nodes : goal.returns-after-nodes
unfolding one_sided
returns-after-nodes c = c.nodes.invariant.0 ∙ sym (none_below (lone_in (listed_by c.args.self.now)) c.args.self.now.nodes c.nodes.v (omega arith) c.nodes.invariant.1)

pub returns-then-missing : goal.returns-then-missing
unfolding one_sided
returns-then-missing c =
    let m = listed_by c.args.self.now in
    (ap not c.if-missing.true) ∙ sym (found_below (lone_in m) m.nodes c.nodes.v (omega arith) (ap (exists (lone m c.nodes.v)) (sym c.list-w-items.ensures) ∙ found_in (lone m c.nodes.v) c.list-w-items.result.now c.loop-w.w-index (omega arith) (answer (goal.at.returns-then-missing c).After-contains-missing ∙ (ap not c.if-missing.true))))
