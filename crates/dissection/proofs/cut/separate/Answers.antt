-- `dissection::cut::separate` meets its contract: of the nodes passed, those of the separator are left out.
use mathlib.Core.Path.{refl, ◌∙◌}
use Prim.Native.Nat.{◌<◌}
use native.Mathlib.Omega.{arith}
use lib.ListN.{get_or}
use borrow.Author.Rules.{rules}
use Rattle.theory.proofs.Lists.{is_in-get_or}
use Rattle.mesh.specs.Lent.{as_lent}
use Rattle.dissection.proofs.Renumbering.{renumbering_none, renumbering_more, renumbering_all}
use Rattle.dissection.proofs.Cuts.{left_out_next}
use Rattle.dissection.proofs.cut.separate.Goals.{In-loop-v}
use Rattle.dissection.proofs.cut.separate.Goals as goal

-- a node of the list is a node of the mesh
inside : (c : In-loop-v) → get_or c.args.region.now.nodes.now c.loop-v.v-index 0 < c.args.region.now.mesh.nodes
inside c = (c.args.region.now.within.inside (get_or c.args.region.now.nodes.now c.loop-v.v-index 0) (is_in-get_or c.args.region.now.nodes.now c.loop-v.v-index 0 c.loop-v-test.true))

pub loop-v-init : goal.loop-v-init
loop-v-init c = renumbering_none _ _ _

pub separated-requires : goal.separated-requires
separated-requires c = let lt = inside (goal.at.separated-requires c).In-loop-v in search rules

pub offset_bounds-numbers-v : goal.offset_bounds-numbers-v
offset_bounds-numbers-v c = let lt = inside (goal.at.offset_bounds-numbers-v c).In-loop-v in search rules

pub bounds-numbers-v : goal.bounds-numbers-v
bounds-numbers-v c = let lt = inside (goal.at.bounds-numbers-v c).In-loop-v in search rules

pub loop-v-preserved : goal.loop-v-preserved
loop-v-preserved c =
    renumbering_more c.loop-v.invariant refl (omega arith) (λ v h. omega (arith, c.args.region.now.within.inside v h, c.requires.0)) c.separated.result
    (c.separated.ensures
    ∙ left_out_next (as_lent c.args.region.now.mesh) c.args.j (omega (arith, c.requires.1, c.args.region.now.mesh.checked.few)) c.loop-v.invariant (omega arith) c.args.region.now.within.ascends)

pub returns : goal.returns
returns c = renumbering_all c.loop-v.invariant (omega arith)
