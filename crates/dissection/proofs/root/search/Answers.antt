-- `dissection::root::search` meets its contract: what is found from the root at hand is the region's root, and the search ends at it.
use mathlib.Core.Path.{◌≡◌, refl, ap, subst, ◌∙◌}
use Prim.Native.Nat.{ℕ, ◌≤◌}
use native.Mathlib.Omega.{arith}
use lib.ListN.{length}
use Rattle.plan.specs.Choice.{root_of}
use Rattle.theory.proofs.Lists.{is_in-get_or}
use Rattle.theory.proofs.RootSearch.{improves_itself}
use Rattle.mesh.specs.Lent.{as_lent}
use Rattle.dissection.specs.Standing.{Standing}
use Rattle.dissection.specs.Rooted.{Rooted}
use Rattle.dissection.proofs.Roots.{regional_over, regional_again, standing_transferred, found_from, found_first, found-next, found_fewer, found_back, found-last}
use Rattle.dissection.proofs.States.{all-outside}
use Rattle.dissection.proofs.root.search.Goals.{After-improve-next, Then-next-root}
use Rattle.dissection.proofs.root.search.Goals as goal
use Rattle.dissection.proofs.root.search.Given as given

-- have a place for each node
trial_long : (g : given.Over) (c : After-improve-next g) → c.args.region.now.mesh.nodes ≤ length c.improve-next.new.trial
trial_long g c = omega (arith, c.improve-next.auto.trial, c.loop-root.invariant.1, c.requires.2)

pub levels_from-root-requires : goal.levels_from-root-requires
levels_from-root-requires g c = (c.requires.0, is_in-get_or c.args.region.now.nodes.now 0 0 c.requires.0.some)

pub loop-root-init : goal.loop-root-init
loop-root-init g c = (
  refl,
  refl,
  refl,
  refl,
  record {
    regional = regional_again (as_lent c.args.region.now.mesh) c.args.region.now.nodes.now c.requires.0 c.levels_from-root.ensures.2.only c.levels_from-root.auto.numbers c.levels_from-root.auto.queue;
    tried = λ v lt o. c.requires.1 v lt refl;
    measured = rw c.levels_from-root.ensures.0 c.levels_from-root.ensures.1;
    standing = rw c.levels_from-root.ensures.0 c.levels_from-root.ensures.2;
    behind = improves_itself (as_lent c.args.region.now.mesh) c.args.region.now.nodes.now c.levels_from-root.result.node;
    found = ap (found_from (as_lent c.args.region.now.mesh) c.args.region.now.nodes.now) c.levels_from-root.ensures.0 ∙ found_first (as_lent c.args.region.now.mesh) c.args.region.now.nodes.now;
  },
)

pub improve-next-requires : goal.improve-next-requires
improve-next-requires g c =
    record {
      regional = (regional_over (as_lent c.args.region.now.mesh) c.args.region.now.nodes.now c.loop-root.invariant.4.regional c.loop-root.invariant.4.tried (omega (arith, c.loop-root.invariant.1, c.requires.2)) refl, c.loop-root.invariant.4.regional.numbers_long, omega (arith, c.loop-root.invariant.3, c.requires.3));
      measured = (c.loop-root.invariant.4.measured, c.loop-root.invariant.4.standing, c.loop-root.invariant.4.behind);
    }

pub transfer-requires : goal.transfer-requires
transfer-requires g c v h =
    let lt = c.args.region.now.within.inside v h in
    (omega (arith, lt, trial_long g (goal.at.transfer-requires g c).After-improve-next), omega (arith, lt, c.loop-root.invariant.4.regional.numbers_long))

pub loop-root-smaller : goal.loop-root-smaller
loop-root-smaller g c = found_fewer (as_lent c.args.region.now.mesh) c.args.region.now.nodes.now c.improve-next.ensures.0 c.loop-root.invariant.4.measured.rooted.inside c.if-next-root.false

pub loop-root-preserved : goal.loop-root-preserved
loop-root-preserved g c =
    let standing = standing_transferred (as_lent c.args.region.now.mesh) c.args.region.now.nodes.now c.improve-next.new.trial c.loop-root.numbers c.transfer.new.numbers c.improve-next.ensures.1.measured.rooted.inside (c.improve-next.ensures.1.standing c.if-next-root.false) c.loop-root.invariant.4.regional.only c.transfer.ensures in (
      c.transfer.auto.numbers ∙ c.loop-root.invariant.0,
      c.improve-next.auto.trial ∙ c.loop-root.invariant.1,
      c.improve-next.auto.queue ∙ c.loop-root.invariant.2,
      c.improve-next.auto.found ∙ c.loop-root.invariant.3,
      record {
        regional = regional_again (as_lent c.args.region.now.mesh) c.args.region.now.nodes.now c.loop-root.invariant.4.regional standing.only c.transfer.auto.numbers c.improve-next.auto.queue;
        tried = c.improve-next.ensures.1.only;
        measured = c.improve-next.ensures.1.measured;
        standing = standing;
        behind = found_back (as_lent c.args.region.now.mesh) c.args.region.now.nodes.now c.improve-next.ensures.0 c.if-next-root.false;
        found = found-next (as_lent c.args.region.now.mesh) c.args.region.now.nodes.now c.improve-next.ensures.0 c.loop-root.invariant.4.measured.rooted.inside c.if-next-root.false ∙ c.loop-root.invariant.4.found;
      },
    )

-- the root that stays is the region's
ended : (g : given.Over) (c : Then-next-root g) → c.loop-root.root.node ≡ root_of (as_lent c.args.region.now.mesh) c.args.region.now.nodes.now
ended g c = found-last (as_lent c.args.region.now.mesh) c.args.region.now.nodes.now c.improve-next.ensures.0 c.if-next-root.true ∙ c.loop-root.invariant.4.found

pub fill-requires : goal.fill-requires
fill-requires g c v h = omega (arith, c.args.region.now.within.inside v h, trial_long g (goal.at.fill-requires g c).After-improve-next)

pub shape_of-numbers : goal.shape_of-numbers
shape_of-numbers g c = omega (arith, c.loop-root.invariant.0, c.levels_from-root.auto.numbers)

pub shape_of-trial : goal.shape_of-trial
shape_of-trial g c = omega (arith, c.fill.auto.numbers, c.improve-next.auto.trial, c.loop-root.invariant.1)

pub shape_of-queue : goal.shape_of-queue
shape_of-queue g c = omega (arith, c.improve-next.auto.queue, c.loop-root.invariant.2, c.levels_from-root.auto.queue)

pub shape_of-found : goal.shape_of-found
shape_of-found g c = omega (arith, c.improve-next.auto.found, c.loop-root.invariant.3)

pub returns : goal.returns
returns g c =
    let same = ended g (goal.at.returns g c).Then-next-root in (
      subst (λ (r : ℕ). Rooted (as_lent c.args.region.now.mesh) c.args.region.now.nodes.now r c.loop-root.root.last) same c.loop-root.invariant.4.measured.rooted,
      subst (λ (r : ℕ). Standing (as_lent c.args.region.now.mesh) c.args.region.now.nodes.now r c.loop-root.numbers) same c.loop-root.invariant.4.standing,
      all-outside {n = c.args.region.now.mesh.nodes} {nodes = c.args.region.now.nodes.now} {region = c.args.region.now.nodes.now} c.improve-next.new.trial c.fill.new.numbers refl c.improve-next.ensures.1.only c.fill.ensures,
    )
