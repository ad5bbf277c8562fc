-- `dissection::degrees::compare` meets its contract: a degree that is less is stored with its node.
use mathlib.Core.Path.{◌≡◌, refl}
use native.Mathlib.Omega.{arith}
use Rattle.mesh.specs.Lent.{as_lent}
use Rattle.dissection.specs.Degrees.{degree_by}
use Rattle.dissection.proofs.LeastDegrees.{compared_not, compared_more, compared_less}
use Rattle.dissection.proofs.degrees.compare.Goals.{After-degree-d}
use Rattle.dissection.proofs.degrees.compare.Goals as goal

-- the degree is v's
own : (c : After-degree-d) → c.degree-d.result ≡ (degree_by (as_lent c.args.mesh.now) c.args.numbers.now) c.args.v
own c = c.degree-d.ensures

pub returns-then-c-count : goal.returns-then-c-count
returns-then-c-count c = compared_not (degree_by (as_lent c.args.mesh.now) c.args.numbers.now) c.args.v c.args.groups.now c.args.count c.args.best.now c.args.degrees.now (omega (arith, c.if-c-count.true))

pub degree-d-requires : goal.degree-d-requires
degree-d-requires c = (omega (arith, c.requires.0), c.requires.1)

pub returns-then-d-degrees : goal.returns-then-d-degrees
returns-then-d-degrees c =
    rw (own (goal.at.returns-then-d-degrees c).After-degree-d)
    (compared_less (degree_by (as_lent c.args.mesh.now) c.args.numbers.now) c.args.v c.args.groups.now c.args.count c.args.best.now c.args.degrees.now _ refl
    (omega arith) (omega arith) (omega (arith, own (goal.at.returns-then-d-degrees c).After-degree-d, c.if-d-degrees.true)))

pub returns-else-d-degrees : goal.returns-else-d-degrees
returns-else-d-degrees c =
    compared_more (degree_by (as_lent c.args.mesh.now) c.args.numbers.now) c.args.v c.args.groups.now c.args.count c.args.best.now c.args.degrees.now _ refl
    (omega (arith, own (goal.at.returns-else-d-degrees c).After-degree-d, c.if-d-degrees.false))
