-- `dissection::levels::label` meets its contract: the loop finds one component after the other.
use mathlib.Core.Path.{◌≡◌, refl, ◌∙◌}
use Prim.Native.Nat.{◌<◌}
use native.Mathlib.Omega.{arith}
use borrow.Author.Rules.{rules}
use lib.ListN.{length, get_or, length-set}
use Rattle.theory.proofs.Lists.{is_in-get_or}
use Rattle.dissection.proofs.Labels.{Labelable, labelling_none, labelling_room, labelling_end, labelling_more, labelling_all}
use Rattle.dissection.proofs.levels.label.Goals.{Start, At-loop-v}
use Rattle.dissection.proofs.levels.label.Goals as goal
use Rattle.dissection.proofs.levels.label.Given as given

-- what is asked of the nodes and the numbers
asked : (g : given.Over) (c : Start g) → Labelable c.args.region.now.mesh.nodes c.args.region.now.nodes.now c.args.numbers.now
asked g c = record { small = omega (arith, c.args.region.now.mesh.checked.few); within = c.args.region.now.within; whole = c.requires.listed.0; unlabelled = c.requires.listed.1 }

-- there is room for as many places as at the start
long : (g : given.Over) (c : At-loop-v g) → length c.loop-v.begins ≡ length c.args.begins.now
long g c = c.loop-v.invariant.2 ∙ length-set c.args.begins.now 0 c.args.at

pub loop-v-init : goal.loop-v-init
loop-v-init g c = (refl, refl, refl, labelling_none _ _ _ _ _ c.args.begins.now (omega arith))

pub component-count-requires : goal.component-count-requires
component-count-requires g c =
    let lt : c.loop-v.v-index < length c.args.region.now.nodes.now = omega arith in
    record {
      bounded = (
        c.args.region.now.within.inside (get_or c.args.region.now.nodes.now c.loop-v.v-index 0) (is_in-get_or c.args.region.now.nodes.now c.loop-v.v-index 0 lt),
        search rules,
        search rules,
        omega (arith, long g (goal.at.component-count-requires g c).At-loop-v),
      );
      count_lt_n = (labelling_room (asked g (goal.at.component-count-requires g c).Start) c.loop-v.invariant.3 lt, omega (arith, labelling_end (asked g (goal.at.component-count-requires g c).Start) c.loop-v.invariant.3));
    }

pub loop-v-preserved : goal.loop-v-preserved
loop-v-preserved g c = (
  search rules,
  search rules,
  search rules,
  labelling_more (asked g (goal.at.loop-v-preserved g c).Start) c.loop-v.invariant.3 _ _ _ (omega arith) (omega (arith, long g (goal.at.loop-v-preserved g c).At-loop-v)) c.component-count.ensures,
)

pub returns : goal.returns
returns g c = labelling_all (asked g (goal.at.returns g c).Start) c.loop-v.invariant.3 (omega arith)

pub shape_of-begins : goal.shape_of-begins
shape_of-begins g c = long g (goal.at.shape_of-begins g c).At-loop-v
