-- `dissection::levels::component` meets its contract: a walk from the node reaches its component.
use mathlib.Core.Path.{◌≡◌, refl}
use mathlib.Core.Logic.{inl, inr}
use Prim.Native.Nat.{◌+◌, ◌≤◌, ◌<◌}
use native.Mathlib.Omega.{arith}
use borrow.Author.Rules.{rules}
use borrow.Author.Tests.{ne_eqb}
use lib.ListN.{length, get_or}
use Rattle.plan.specs.Mesh.{adjacent}
use Rattle.mesh.specs.Lent.{as_lent}
use Rattle.dissection.specs.Numbers.{fresh}
use Rattle.dissection.proofs.Labels.{walked-inside, walked_taken}
use Rattle.dissection.proofs.levels.component.Goals.{Else-numbers-v, After-walk-reached}
use Rattle.dissection.proofs.levels.component.Goals as goal
use Rattle.dissection.proofs.levels.component.Given as given

-- behind the test the node is fresh
unreached : (g : given.Over) (c : Else-numbers-v g) → get_or c.args.numbers.now c.args.v 0 ≡ fresh
unreached g c = c.if-numbers-v.false

-- behind the test the node is fresh
unreached_at_after_walk_r : (g : given.Over) (c : After-walk-reached g) → get_or c.args.numbers.now c.args.v 0 ≡ fresh
unreached_at_after_walk_r g c = c.if-numbers-v.false

-- what bounds the numbers at hand
bounds : (g : given.Over) (c : After-walk-reached g) → (c.args.count < c.args.mesh.now.nodes) × (c.args.mesh.now.nodes ≤ 4096) × (c.args.mesh.now.nodes < length c.args.begins.now) × (get_or c.args.begins.now c.args.count 0 ≤ c.args.mesh.now.nodes + c.args.mesh.now.nodes) × (c.walk-reached.result.reached ≤ c.args.mesh.now.nodes)
bounds g c = (c.requires.count_lt_n.0 (unreached_at_after_walk_r g c), c.args.mesh.now.checked.few, c.requires.bounded.3, c.requires.count_lt_n.1, c.walk-reached.ensures.few)

pub returns-then-numbers-v : goal.returns-then-numbers-v
returns-then-numbers-v g c =
    inl record {
      reached = ne_eqb (get_or c.args.numbers.now c.args.v 0) fresh c.if-numbers-v.true;
      numbers = refl;
      begins = refl;
      total = refl;
    }

pub walk-reached-requires : goal.walk-reached-requires
walk-reached-requires g c = (c.requires.bounded.0, unreached g (goal.at.walk-reached-requires g c).Else-numbers-v, c.requires.bounded.1, c.requires.bounded.2)

pub fill-requires : goal.fill-requires
fill-requires g c v m =
    let lt : v < c.args.mesh.now.nodes = walked-inside c.walk-reached.ensures v m in
    search rules

pub returns : goal.returns
returns g c =
    let u = unreached g (goal.at.returns g c).Else-numbers-v in
    inr record {
      unreached = u;
      numbers = walked_taken {edge = (adjacent (as_lent c.args.mesh.now))} c.walk-reached.ensures c.args.count c.fill.new.numbers c.requires.bounded.0 u c.fill.ensures;
      begins = rw c.walk-reached.ensures.many;
      total = refl;
    }

pub bounds-numbers-v : goal.bounds-numbers-v
bounds-numbers-v g c = omega (arith, c.requires.bounded)

pub overflow_cast-count : goal.overflow_cast-count
overflow_cast-count g c = omega (arith, bounds g (goal.at.overflow_cast-count g c).After-walk-reached)

pub offset_bounds-begins-count : goal.offset_bounds-begins-count
offset_bounds-begins-count g c = omega (arith, bounds g (goal.at.offset_bounds-begins-count g c).After-walk-reached)

pub bounds-begins-count : goal.bounds-begins-count
bounds-begins-count g c = omega (arith, bounds g (goal.at.bounds-begins-count g c).After-walk-reached)

pub overflow_cast-begins : goal.overflow_cast-begins
overflow_cast-begins g c = omega (arith, bounds g (goal.at.overflow_cast-begins g c).After-walk-reached)

pub overflow_add-begins : goal.overflow_add-begins
overflow_add-begins g c = omega (arith, bounds g (goal.at.overflow_add-begins g c).After-walk-reached)

pub overflow_add-begins-2 : goal.overflow_add-begins-2
overflow_add-begins-2 g c = omega (arith, bounds g (goal.at.overflow_add-begins-2 g c).After-walk-reached)

pub offset_bounds-begins-count-2 : goal.offset_bounds-begins-count-2
offset_bounds-begins-count-2 g c = omega (arith, bounds g (goal.at.offset_bounds-begins-count-2 g c).After-walk-reached)

pub bounds-begins-count-2 : goal.bounds-begins-count-2
bounds-begins-count-2 g c = omega (arith, bounds g (goal.at.bounds-begins-count-2 g c).After-walk-reached)

pub overflow_add-result : goal.overflow_add-result
overflow_add-result g c = omega (arith, bounds g (goal.at.overflow_add-result g c).After-walk-reached)
