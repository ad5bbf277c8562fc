-- `dissection::degrees::degree` meets its contract: the entries of a node's list are nodes, and so have numbers.
use mathlib.Core.Path.{◌≡◌}
use Prim.Native.Nat.{◌<◌}
use native.Mathlib.Omega.{arith}
use lib.ListN.{length}
use Rattle.std.proofs.Common.{rules, tests, of_calls}
use Rattle.std.proofs.lemmas.List.{get_or_default}
use Rattle.std.proofs.lemmas.Iterator.{YieldsList-from_slice}
use Rattle.std.proofs.lemmas.Iterator.Adapters.{serves_from_places}
use Rattle.std.proofs.lemmas.Iterator.Consumers.{YieldsList-from_filter, count_from_yields_List}
use Rattle.mesh.specs.Lent.{as_lent}
use Rattle.mesh.proofs.Lists.{listed_node}
use Rattle.dissection.specs.Degrees.{is_inside, degree_by}
use Rattle.dissection.proofs.LeastDegrees.{degree_few}
use Rattle.dissection.proofs.degrees.degree.Goals.{After-count}
use Rattle.dissection.proofs.degrees.degree.Goals as goal

pub count-requires-clause-can : goal.count-requires-clause-can
count-requires-clause-can c = (
  tt,
  tt,
  serves_from_places (YieldsList-from_slice c.list.result.now (cc)) (search of_calls) (λ x k lt e.
      let inside : x.now < length c.args.numbers.now = omega (arith, e, get_or_default c.list.result.now k x.now 0 lt, listed_node (as_lent c.args.mesh.now) c.args.mesh.now.checked c.args.v c.list.result.now c.list.ensures k lt, c.requires.1) in
      search (rules, inside)),
)

-- the entries that are counted are those in the region
own : (c : After-count) → c.count.result ≡ degree_by (as_lent c.args.mesh.now) c.args.numbers.now c.args.v
own c = rw (← c.list.ensures) (count_from_yields_List c.filter.result c.count.result c.count.ensures.ran (YieldsList-from_filter _ (is_inside c.args.numbers.now) (YieldsList-from_slice c.list.result.now (cc)) c.filter.ensures.closure (λ x r q k. search (rules, tests))))

pub overflow_cast-result : goal.overflow_cast-result
overflow_cast-result c =
    let few = degree_few (as_lent c.args.mesh.now) c.args.mesh.now.checked c.args.numbers.now c.args.v in
    let is = own (goal.at.overflow_cast-result c).After-count in
    omega (arith, few, is)

pub returns : goal.returns
returns c = own (goal.at.returns c).After-count
