-- `dissection::root::candidates` meets its contract: the root's levels are taken over, the last one alone is fresh then, its components are labelled,
-- and each one's node of least degree is a candidate.
use mathlib.Core.Path.{refl}
use Prim.Native.Nat.{◌≤◌}
use native.Mathlib.Omega.{arith}
use borrow.Author.Rules.{rules}
use Rattle.mesh.specs.Lent.{as_lent}
use Rattle.dissection.specs.Numbers.{Renumbered}
use Rattle.dissection.specs.Changes.{only_level}
use Rattle.dissection.specs.Standing.{Regional, Standing}
use Rattle.dissection.specs.Degrees.{degree_by}
use Rattle.dissection.proofs.LeastDegrees.{degree_in_lem}
use Rattle.dissection.proofs.Roots.{regional_again, standing_transferred, fresh-inside, level-high, candidates-only, candidates-found}
use Rattle.dissection.proofs.root.candidates.Goals.{After-transfer, After-renumber, After-label-count}
use Rattle.dissection.proofs.root.candidates.Goals as goal
use Rattle.dissection.proofs.root.candidates.Given as given

-- the root's levels stand there
standing : (g : given.Over) (c : After-transfer g) → Standing (as_lent c.args.region.now.mesh) c.args.region.now.nodes.now c.args.root.node c.transfer.new.numbers
standing g c = standing_transferred (as_lent c.args.region.now.mesh) c.args.region.now.nodes.now c.args.levels.now c.args.trial.now c.transfer.new.numbers c.requires.rooted.0.inside c.requires.rooted.1 c.requires.regional.0.only c.transfer.ensures

-- so it is a region over them
regional : (g : given.Over) (c : After-transfer g) → Regional (as_lent c.args.region.now.mesh) c.args.region.now.nodes.now c.transfer.new.numbers c.args.queue.now
regional g c = regional_again (as_lent c.args.region.now.mesh) c.args.region.now.nodes.now c.requires.regional.0 (standing g c).only c.transfer.auto.numbers refl

pub transfer-requires : goal.transfer-requires
transfer-requires g c v t =
    let lt = c.args.region.now.within.inside v t in
    (omega (arith, lt, c.requires.regional.1), omega (arith, lt, c.requires.regional.0.numbers_long))

pub renumber-requires-clause-within : goal.renumber-requires-clause-within
renumber-requires-clause-within g c =
    let h = regional g (goal.at.renumber-requires-clause-within g c).After-transfer in
    record { ascends = c.args.region.now.within.ascends; inside = λ v t. omega (arith, c.args.region.now.within.inside v t, h.numbers_long) }

-- only the nodes of the last level stay fresh
only_last : (g : given.Over) (c : After-renumber g) → Renumbered (only_level c.args.root.last) c.args.region.now.nodes.now c.transfer.new.numbers c.renumber.new.numbers
only_last g c = c.renumber.ensures (only_level c.args.root.last) (λ x r e. search (rules, e))

pub label-count-requires : goal.label-count-requires
label-count-requires g c =
    let h = regional g (goal.at.label-count-requires g c).After-transfer in
    record {
      listed = (fresh-inside (as_lent c.args.region.now.mesh) c.args.region.now.nodes.now c.args.region.now.within h c.requires.rooted.0 c.args.region.now.mesh.checked (standing g (goal.at.label-count-requires g c).After-transfer) c.renumber.new.numbers (only_last g (goal.at.label-count-requires g c).After-renumber), level-high c.args.root.last c.args.region.now.mesh.nodes c.args.region.now.nodes.now c.transfer.new.numbers c.renumber.new.numbers c.args.region.now.mesh.checked.few (only_last g (goal.at.label-count-requires g c).After-renumber));
      at_le_n = (omega arith, omega (arith, h.numbers_long, c.renumber.auto.numbers), h.queue_long, c.requires.regional.2);
    }

-- there are at most n candidates
few : (g : given.Over) (c : After-label-count g) → c.label-count.result ≤ c.args.region.now.mesh.nodes
few g c = c.label-count.ensures.few

pub least-requires : goal.least-requires
least-requires g c =
    let h = regional g (goal.at.least-requires g c).After-transfer in (
      c.requires.regional.1,
      omega (arith, h.numbers_long, c.renumber.auto.numbers, c.label-count.auto.numbers),
      omega (arith, few g (goal.at.least-requires g c).After-label-count, c.label-count.auto.begins, c.requires.regional.2),
      omega (arith, few g (goal.at.least-requires g c).After-label-count, c.label-count.auto.queue, h.queue_long),
    )

pub returns : goal.returns
returns g c =
    let h = regional g (goal.at.returns g c).After-transfer in (
      candidates-found (as_lent c.args.region.now.mesh) c.args.region.now.nodes.now c.args.region.now.within h c.requires.rooted.0 c.args.region.now.mesh.checked (standing g (goal.at.returns g c).After-transfer) c.renumber.new.numbers (only_last g (goal.at.returns g c).After-renumber) c.label-count.ensures
          (degree_by (as_lent c.args.region.now.mesh) c.args.levels.now) (degree_in_lem (as_lent c.args.region.now.mesh) c.args.region.now.nodes.now c.args.region.now.within c.args.root.node c.args.region.now.mesh.checked c.args.levels.now c.requires.rooted.1)
          c.least.new.best c.least.new.degrees (omega (arith, few g (goal.at.returns g c).After-label-count, c.least.auto.best, c.label-count.auto.begins, c.requires.regional.2)) c.least.ensures,
      few g (goal.at.returns g c).After-label-count,
      candidates-only (as_lent c.args.region.now.mesh) c.args.region.now.nodes.now c.args.region.now.within h c.requires.rooted.0 c.args.region.now.mesh.checked (standing g (goal.at.returns g c).After-transfer) c.renumber.new.numbers (only_last g (goal.at.returns g c).After-renumber) c.label-count.ensures,
    )
