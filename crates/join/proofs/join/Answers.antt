-- `join` meets its contract: each check tells that the next one is the first fault, and behind all the lists are merged.
use mathlib.Core.Path.{◌≡◌, sym, ◌∙◌}
use native.Mathlib.Omega.{arith}
use Rattle.std.proofs.lemmas.Result.{err_from_is_err_and}
use Rattle.plan.specs.Refusals.{first_fault}
use Rattle.plan.specs.Joining.{lent_checks}
use Rattle.plan.specs.Mesh.{mesh_checks}
use Rattle.plan.specs.MadeMesh.{mesh_buffers}
use Rattle.mesh.specs.Lent.{lent_by, as_lent}
use Rattle.join.specs.Pairings.{pairing_of}
use Rattle.join.proofs.Joined.{behind-second, refused_pairs, carried, carried_clear, passed, nodes_counted, refused_count, goes_once, goes_few, mergeable, handed_join}
use Rattle.join.proofs.join.Goals.{In_ok-second, In_ok-check}
use Rattle.join.proofs.join.Goals as goal

-- neither mesh has a fault
clear1 : (c : In_ok-second) → 0 ≡ first_fault (mesh_checks (as_lent c.in_ok-first.first))
clear1 c = carried_clear (lent_by c.args.a.now) (as_lent c.in_ok-first.first) c.in_ok-first.ensures.passed c.in_ok-first.ensures.fault

clear2 : (c : In_ok-second) → 0 ≡ first_fault (mesh_checks (as_lent c.in_ok-second.second))
clear2 c = carried_clear (lent_by c.args.b.now) (as_lent c.in_ok-second.second) c.in_ok-second.ensures.passed c.in_ok-second.ensures.fault

-- nor have the pairs
clear : (c : In_ok-check) → first_fault (lent_checks (as_lent c.in_ok-first.first) (as_lent c.in_ok-second.second) (pairing_of c.args.pairs.now)) ≡ 0
clear c =
    behind-second (as_lent c.in_ok-first.first) (as_lent c.in_ok-second.second) (pairing_of c.args.pairs.now)
    (carried_clear (lent_by c.args.a.now) (as_lent c.in_ok-first.first) c.in_ok-first.ensures.passed c.in_ok-first.ensures.fault)
    (carried_clear (lent_by c.args.b.now) (as_lent c.in_ok-second.second) c.in_ok-second.ensures.passed c.in_ok-second.ensures.fault)
    ∙ sym c.in_ok-check.ensures

pub returns-in_err-check : goal.returns-in_err-check
returns-in_err-check c =
    let o = (goal.at.returns-in_err-check c).In_ok-second in
    let q = err_from_is_err_and c.from_residual-in_err-check.result c.from_residual-in_err-check.ensures.1 in
    rw (q.1, q.2)
    (carried (lent_by c.args.a.now) (lent_by c.args.b.now) (as_lent c.in_ok-first.first) (as_lent c.in_ok-second.second) (pairing_of c.args.pairs.now) c.in_ok-first.ensures.passed c.in_ok-second.ensures.passed _ _ _
    (refused_pairs (as_lent c.in_ok-first.first) (as_lent c.in_ok-second.second) (pairing_of c.args.pairs.now) (mesh_buffers c.args.starts.now c.args.neighbours.now) c.in_err-check.field-0.0 (clear1 o) (clear2 o) c.in_err-check.ensures))

pub overflow_sub-nodes : goal.overflow_sub-nodes
overflow_sub-nodes c = (nodes_counted (as_lent c.in_ok-first.first) (as_lent c.in_ok-second.second) (pairing_of c.args.pairs.now) (clear (goal.at.overflow_sub-nodes c).In_ok-check)).0

pub returns-then-bad_node_count : goal.returns-then-bad_node_count
returns-then-bad_node_count c =
    carried (lent_by c.args.a.now) (lent_by c.args.b.now) (as_lent c.in_ok-first.first) (as_lent c.in_ok-second.second) (pairing_of c.args.pairs.now) c.in_ok-first.ensures.passed c.in_ok-second.ensures.passed _ _ _
    (refused_count (as_lent c.in_ok-first.first) (as_lent c.in_ok-second.second) (pairing_of c.args.pairs.now) (clear (goal.at.returns-then-bad_node_count c).In_ok-check) (mesh_buffers c.args.starts.now c.args.neighbours.now) (sym c.bad_node_count.ensures ∙ c.if-bad_node_count.true))

pub destinations-goes-requires : goal.destinations-goes-requires
destinations-goes-requires c =
    let h = passed (as_lent c.in_ok-first.first) (as_lent c.in_ok-second.second) (pairing_of c.args.pairs.now) (clear (goal.at.destinations-goes-requires c).In_ok-check) in
    (h.first.few, h.second.few, h.pairs)

pub origins-from-requires : goal.origins-from-requires
origins-from-requires c =
    let one = as_lent c.in_ok-first.first in
    let other = as_lent c.in_ok-second.second in
    let none = clear (goal.at.origins-from-requires c).In_ok-check in
    let good = sym c.bad_node_count.ensures ∙ c.if-bad_node_count.false in
    let few = c.in_ok-second.second.checked.few in (
      few,
      omega (arith, c.destinations-goes.ensures.long, few),
      goes_once one other (pairing_of c.args.pairs.now) none good c.destinations-goes.result c.destinations-goes.ensures,
      goes_few one other (pairing_of c.args.pairs.now) none good c.destinations-goes.result c.destinations-goes.ensures,
    )

pub invariant_of-merging : goal.invariant_of-merging
invariant_of-merging c = record {
  mergeable = mergeable (as_lent c.in_ok-first.first) (as_lent c.in_ok-second.second) (pairing_of c.args.pairs.now) (clear (goal.at.invariant_of-merging c).In_ok-check) (sym c.bad_node_count.ensures ∙ c.if-bad_node_count.false)
      c.destinations-goes.result c.destinations-goes.ensures c.origins-from.result c.origins-from.ensures.0 c.origins-from.ensures.1;
}

pub returns : goal.returns
returns c =
    carried (lent_by c.args.a.now) (lent_by c.args.b.now) (as_lent c.in_ok-first.first) (as_lent c.in_ok-second.second) (pairing_of c.args.pairs.now) c.in_ok-first.ensures.passed c.in_ok-second.ensures.passed _ _ _
    (handed_join (as_lent c.in_ok-first.first) (as_lent c.in_ok-second.second) (pairing_of c.args.pairs.now) (clear (goal.at.returns c).In_ok-check) (sym c.bad_node_count.ensures ∙ c.if-bad_node_count.false)
    c.destinations-goes.result c.destinations-goes.ensures c.origins-from.result c.origins-from.ensures.0 c.origins-from.ensures.1 _ _ _ c.hand_out.ensures)
