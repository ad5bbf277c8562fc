-- `hand_out` meets its contract.
use mathlib.Core.Path.{◌≡◌, refl, ap, sym, ◌∙◌}
use native.Mathlib.Omega.{arith}
use lib.Dec.{ltb}
use Rattle.plan.specs.Lists.{exists}
use Rattle.plan.specs.Mesh.{max_neighbours, list_too_long}
use Rattle.plan.specs.MadeMesh.{mesh_of, mesh_buffers, mesh_capacity, mesh_buffers_too_short}
use Rattle.theory.proofs.HandedMesh.{mesh-fits}
use Rattle.matrix_market.specs.SortedPairs.{key_lists}
use Rattle.matrix_market.proofs.Reading.{lists_long, refused_26, refused_8, accepted_lists}
use Rattle.matrix_market.proofs.hand_out.Goals.{After-too_long, After-too_short}
use Rattle.matrix_market.proofs.hand_out.Goals as goal

-- 26 is told by the lengths of the lists
long : (c : After-too_long) → list_too_long (mesh_of c.args.pairs.now.nodes (key_lists c.args.pairs.now.nodes c.args.pairs.now.keys.now)) ≡ c.too_long.result
long c =
    lists_long c.args.pairs.now.nodes c.args.pairs.now.keys.now
    ∙ ap (exists (ltb max_neighbours)) (sym c.count_entries-counts.ensures.1)
    ∙ sym c.too_long.ensures

-- 8 by those of the buffers
short : (c : After-too_short) → mesh_buffers_too_short (mesh_of c.args.pairs.now.nodes (key_lists c.args.pairs.now.nodes c.args.pairs.now.keys.now)) (mesh_capacity (mesh_buffers c.args.starts.now c.args.neighbours.now)) ≡ c.too_short.result
unfolding mesh_of mesh_capacity
short c = sym (c.too_short.ensures (mesh_of c.args.pairs.now.nodes (key_lists c.args.pairs.now.nodes c.args.pairs.now.keys.now)) refl c.requires.1)

pub returns-then-too_long : goal.returns-then-too_long
returns-then-too_long c = refused_26 _ _ (long (goal.at.returns-then-too_long c).After-too_long ∙ c.if-too_long.true)

pub returns-then-too_short : goal.returns-then-too_short
returns-then-too_short c = refused_8 _ _ (long (goal.at.returns-then-too_short c).After-too_long ∙ c.if-too_long.false) (short (goal.at.returns-then-too_short c).After-too_short ∙ c.if-too_short.true)

pub write_lists-requires : goal.write_lists-requires
unfolding mesh_of
write_lists-requires c =
    record {
      counted = (omega (arith, c.count_entries-counts.ensures.0, c.args.pairs.now.sorted.few), c.count_entries-counts.ensures.1);
      fits = mesh-fits (mesh_of c.args.pairs.now.nodes (key_lists c.args.pairs.now.nodes c.args.pairs.now.keys.now)) (mesh_buffers c.args.starts.now c.args.neighbours.now) (short (goal.at.write_lists-requires c).After-too_short ∙ c.if-too_short.false);
    }

pub returns : goal.returns
unfolding mesh_of
returns c = accepted_lists (mesh_of c.args.pairs.now.nodes (key_lists c.args.pairs.now.nodes c.args.pairs.now.keys.now)) _ _ _ (long (goal.at.returns c).After-too_long ∙ c.if-too_long.false) (short (goal.at.returns c).After-too_short ∙ c.if-too_short.false) refl (sym c.requires.1) c.write_lists.ensures.starts_after c.write_lists.ensures.neighbours_after
