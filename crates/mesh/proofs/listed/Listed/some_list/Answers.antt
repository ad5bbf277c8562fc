-- `mesh::Listed::some_list` meets its contract: the loop tries each node.
use Rattle.std.proofs.Common.{◌≡◌, Bool, List, ℕ, sym, ap, ◌∙◌, rules, arith}
use Rattle.plan.specs.Mesh.{neighbours_of}
use Rattle.theory.proofs.Checked.{node_count}
use Rattle.theory.proofs.Scans.{clear_more, found_below, none_below}
use Rattle.mesh.specs.Lent.{listed_by}
use Rattle.mesh.proofs.listed.Listed.some_list.Goals as goal

-- a node is a number of 16 bits
pub overflow_cast-v : goal.overflow_cast-v
overflow_cast-v g c =
    let most = (node_count c.args.self.now.nodes c.args.self.now.counted).1 in
    search rules

pub returns-then-breaks : goal.returns-then-breaks
returns-then-breaks g c = λ rule t.
    sym (found_below (λ v. rule v (neighbours_of (listed_by c.args.self.now) v)) c.args.self.now.nodes c.loop-v.v (omega arith)
    (sym (t c.loop-v.v c.list.result c.breaks.result c.breaks.ensures ∙ ap (rule c.loop-v.v) c.list.ensures) ∙ c.if-breaks.true))

pub loop-v-preserved : goal.loop-v-preserved
loop-v-preserved g c = λ rule t.
    clear_more (λ v. rule v (neighbours_of (listed_by c.args.self.now) v)) c.loop-v.v (c.loop-v.invariant rule t)
    (sym (t c.loop-v.v c.list.result c.breaks.result c.breaks.ensures ∙ ap (rule c.loop-v.v) c.list.ensures) ∙ c.if-breaks.false)

pub returns : goal.returns
returns g c = λ rule t. sym (none_below (λ v. rule v (neighbours_of (listed_by c.args.self.now) v)) c.args.self.now.nodes c.loop-v.v (omega arith) (c.loop-v.invariant rule t))
