-- `join::lists::Merging::hand_out` meets its contract: the lengths of the lists tell what the checks of the joined mesh find.
use mathlib.Core.Path.{refl, sym, ap, ◌∙◌}
use mathlib.Core.List.{List}
use Prim.Native.Nat.{ℕ}
use native.Mathlib.Omega.{arith}
use Rattle.std.proofs.lemmas.Result.{err_from_is_err_and}
use Rattle.plan.specs.Lists.{written, running_sums}
use Rattle.plan.specs.Elimination.{starts_of}
use Rattle.plan.specs.MadeMesh.{mesh_of, mesh_buffers}
use Rattle.theory.proofs.HandedMesh.{accepted-mesh}
use Rattle.join.specs.Merged.{made_by}
use Rattle.join.proofs.Handed.{entries_summed, found_of_lists, lists_refused, lists_fit}
use Rattle.join.proofs.lists.Merging.hand_out.Goals as goal

pub returns-in_err-check_lists : goal.returns-in_err-check_lists
returns-in_err-check_lists c =
    let p = err_from_is_err_and c.from_residual.result c.from_residual.ensures.1 in
    rw (p.1, p.2) (lists_refused c.args.self.now (mesh_buffers c.args.starts.now c.args.neighbours.now) c.in_err-check_lists.field-0.0
    (found_of_lists c.args.self.now (mesh_buffers c.args.starts.now c.args.neighbours.now) c.count_entries-counts.result c.count_entries-counts.ensures.1 c.sum-entries.result.slots c.sum-entries.ensures.0 _ c.in_err-check_lists.ensures))

pub write_starts-requires : goal.write_starts-requires
write_starts-requires c =
    let none = found_of_lists c.args.self.now (mesh_buffers c.args.starts.now c.args.neighbours.now) c.count_entries-counts.result c.count_entries-counts.ensures.1 c.sum-entries.result.slots c.sum-entries.ensures.0 0 c.in_ok-check_lists.ensures in
    let few = c.args.self.now.mergeable.few in
    (few, omega (arith, c.count_entries-counts.ensures.0, few), (lists_fit c.args.self.now (mesh_buffers c.args.starts.now c.args.neighbours.now) none).0)

pub write_entries-requires : goal.write_entries-requires
unfolding mesh_of
write_entries-requires c =
    let none = found_of_lists c.args.self.now (mesh_buffers c.args.starts.now c.args.neighbours.now) c.count_entries-counts.result c.count_entries-counts.ensures.1 c.sum-entries.result.slots c.sum-entries.ensures.0 0 c.in_ok-check_lists.ensures in
    (lists_fit c.args.self.now (mesh_buffers c.args.starts.now c.args.neighbours.now) none).1

pub returns : goal.returns
unfolding mesh_of starts_of
returns c =
    let found = mesh_buffers c.args.starts.now c.args.neighbours.now in
    let none = found_of_lists c.args.self.now found c.count_entries-counts.result c.count_entries-counts.ensures.1 c.sum-entries.result.slots c.sum-entries.ensures.0 0 c.in_ok-check_lists.ensures in
    accepted-mesh (made_by c.args.self.now) found _ _ _ (sym none) refl (entries_summed c.args.self.now found c.count_entries-counts.result c.count_entries-counts.ensures.1 c.sum-entries.result.slots c.sum-entries.ensures.0)
    (c.write_starts.ensures ∙ ap (λ (l : List ℕ). written (running_sums 0 l) c.args.starts.now) c.count_entries-counts.ensures.1)
    c.write_entries.ensures
