-- `dissection::cut::choose` meets its contract.
use Prim.Native.Nat.{◌≤◌}
use native.Mathlib.Omega.{arith}
use borrow.Author.Rules.{rules}
use Rattle.mesh.specs.Lent.{as_lent}
use Rattle.dissection.specs.Changes.{rest_fresh}
use Rattle.dissection.proofs.Cuts.{last-few, parted-whole, parted_cut}
use Rattle.dissection.proofs.cut.choose.Goals.{Start}
use Rattle.dissection.proofs.cut.choose.Goals as goal

-- the number of the last level is at most the number of nodes
few : (c : Start) → c.args.last ≤ c.args.region.now.mesh.nodes
few c = last-few (as_lent c.args.region.now.mesh) c.args.region.now.nodes.now c.args.region.now.within c.args.last c.requires.rooted.0 c.args.numbers.now c.requires.rooted.1

pub fill-requires : goal.fill-requires
fill-requires c v h = omega (arith, c.args.region.now.within.inside v h, c.requires.long)

pub returns-then-last-le1 : goal.returns-then-last-le1
returns-then-last-le1 c = parted-whole (as_lent c.args.region.now.mesh) c.args.region.now.nodes.now c.args.region.now.within c.args.last c.requires.rooted.0 c.args.numbers.now c.requires.rooted.1 c.if-last-le1.true _ c.fill.ensures

pub overflow_add-last : goal.overflow_add-last
overflow_add-last c =
    let le = few (goal.at.overflow_add-last c).Start in
    search rules

pub separate-requires : goal.separate-requires
separate-requires c =
    let le = few (goal.at.separate-requires c).Start in
    (c.requires.long, omega arith)

pub renumber-requires-clause-within : goal.renumber-requires-clause-within
renumber-requires-clause-within c = record { ascends = c.args.region.now.within.ascends; inside = λ v h. let lt = c.args.region.now.within.inside v h in search rules }

pub returns : goal.returns
returns c = parted_cut (as_lent c.args.region.now.mesh) c.args.region.now.nodes.now c.args.region.now.within c.args.last c.requires.rooted.0 c.args.numbers.now c.requires.rooted.1 c.args.region.now.mesh.checked (omega (arith, c.if-last-le1.false)) c.separate.new.numbers _ c.separate.ensures (c.renumber.ensures rest_fresh (λ x r e. search (rules, e)))
