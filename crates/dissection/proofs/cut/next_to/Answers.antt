-- `dissection::cut::next_to` meets its contract: the entries of a node's list are nodes, and so have numbers.
use Prim.Native.Nat.{◌<◌}
use lib.Dec.{eqb}
use native.Mathlib.Omega.{arith}
use lib.ListN.{length, get_or}
use Rattle.std.proofs.lemmas.List.{get_or_default}
use Rattle.std.proofs.Common.{rules, tests, of_calls}
use Rattle.std.proofs.lemmas.Iterator.{YieldsList-from_slice}
use Rattle.std.proofs.lemmas.Iterator.Adapters.{serves_from_places}
use Rattle.std.proofs.lemmas.Iterator.Search.{any_from_yields_List}
use Rattle.mesh.specs.Lent.{as_lent}
use Rattle.mesh.proofs.Lists.{listed_node}
use Rattle.dissection.proofs.cut.next_to.Goals as goal

pub any-requires-clause-callable : goal.any-requires-clause-callable
any-requires-clause-callable c =
    serves_from_places (YieldsList-from_slice c.list.result.now c.iter.ensures.rest) (search of_calls) (λ x k lt e.
    let inside : x.now < length c.args.numbers.now = omega (arith, e, get_or_default c.list.result.now k x.now 0 lt, listed_node (as_lent c.args.mesh.now) c.args.mesh.now.checked c.args.v c.list.result.now c.list.ensures k lt, c.requires.1) in
    search (rules, inside))

pub returns : goal.returns
returns c = rw (← c.list.ensures) (any_from_yields_List (λ w. eqb (get_or c.args.numbers.now w 0) c.args.x) _ _ c.any.result c.any.ensures.ran (YieldsList-from_slice _ c.iter.ensures.rest) (λ x b q k. search (rules, tests)))
