-- `dissection::cut::divide` meets its contract.
use Prim.Native.Nat.{◌≤◌}
use native.Mathlib.Omega.{arith}
use borrow.Author.Rules.{rules}
use Rattle.mesh.specs.Lent.{as_lent}
use Rattle.dissection.specs.Changes.{part_numbered}
use Rattle.dissection.proofs.Cuts.{parted-fresh, parted-high, divided}
use Rattle.dissection.proofs.cut.divide.Goals.{After-label-count}
use Rattle.dissection.proofs.cut.divide.Goals as goal
use Rattle.dissection.proofs.cut.divide.Given as given

-- there are at most as many labels as nodes
few : (g : given.Over) (c : After-label-count g) → c.label-count.result ≤ c.args.region.now.mesh.nodes
few g c = c.label-count.ensures.few

pub choose-requires : goal.choose-requires
choose-requires g c =
    record {
      long = omega (arith, c.requires.0.numbers_long, c.search-last.auto.numbers);
      rooted = (c.search-last.ensures.0, c.search-last.ensures.1);
    }

pub label-count-requires : goal.label-count-requires
label-count-requires g c =
    record {
      listed = (λ v h. (parted-fresh (as_lent c.args.region.now.mesh) c.args.region.now.nodes.now c.choose.new.numbers c.choose.ensures v h).0, parted-high (as_lent c.args.region.now.mesh) c.args.region.now.nodes.now c.choose.new.numbers c.args.region.now.mesh.checked c.choose.ensures);
      at_le_n = (c.requires.4, omega (arith, c.requires.0.numbers_long, c.search-last.auto.numbers, c.choose.auto.numbers), omega (arith, c.requires.0.queue_long, c.search-last.auto.queue), omega (arith, c.requires.3, c.search-last.auto.found));
    }

pub overflow_cast-part : goal.overflow_cast-part
overflow_cast-part g c =
    let le = few g (goal.at.overflow_cast-part g c).After-label-count in
    search rules

pub renumber-requires-clause-within : goal.renumber-requires-clause-within
renumber-requires-clause-within g c = record { ascends = c.args.region.now.within.ascends; inside = λ v h. omega (arith, c.args.region.now.within.inside v h, c.requires.0.numbers_long, c.search-last.auto.numbers, c.choose.auto.numbers, c.label-count.auto.numbers) }

pub returns : goal.returns
returns g c = (
  divided (as_lent c.args.region.now.mesh) c.args.region.now.nodes.now c.args.at c.choose.new.numbers c.label-count.new.numbers c.renumber.new.numbers c.label-count.new.begins
      c.label-count.result (omega (arith, few g (goal.at.returns g c).After-label-count, c.args.region.now.mesh.checked.few)) c.choose.ensures c.label-count.ensures (c.renumber.ensures (part_numbered c.label-count.result) (λ x r e. search (rules, e))),
  c.search-last.ensures.2,
)
