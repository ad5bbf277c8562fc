-- `dissection::root::first_better` meets its contract: no candidate passed improves.
use mathlib.Core.Path.{◌≡◌, refl, sym, ap, ◌∙◌}
use native.Mathlib.Omega.{arith}
use lib.ListN.{length, get_or}
use Rattle.plan.specs.Choice.{improves}
use Rattle.theory.proofs.Lists.{is_in-get_or}
use Rattle.theory.proofs.Scans.{scan_miss, scan_hit, scan_none}
use Rattle.mesh.specs.Lent.{as_lent}
use Rattle.dissection.proofs.Roots.{regional_again, better_walked, better_same, improves_is}
use Rattle.dissection.proofs.root.first_better.Goals as goal

pub levels_from-next-requires : goal.levels_from-next-requires
levels_from-next-requires g c =
    (c.loop-candidate.invariant.2, c.requires.inside (get_or c.args.found.now c.loop-candidate.candidate-index 0) (is_in-get_or c.args.found.now c.loop-candidate.candidate-index 0 (omega arith)))

-- the former root is passed over
pub loop-candidate-preserved-then-candidate-former : goal.loop-candidate-preserved-then-candidate-former
loop-candidate-preserved-then-candidate-former g c = (
  c.loop-candidate.invariant.0,
  c.loop-candidate.invariant.1,
  c.loop-candidate.invariant.2,
  scan_miss (improves (as_lent c.args.region.now.mesh) c.args.region.now.nodes.now c.args.root.node) c.args.found.now c.loop-candidate.candidate-index (omega arith) c.loop-candidate.invariant.3 (ap (improves (as_lent c.args.region.now.mesh) c.args.region.now.nodes.now c.args.root.node) c.if-candidate-former.true ∙ c.requires.regional.2),
)

pub returns-then-replaces : goal.returns-then-replaces
returns-then-replaces g c = (
  c.levels_from-next.ensures.0
      ∙ sym (scan_hit (improves (as_lent c.args.region.now.mesh) c.args.region.now.nodes.now c.args.root.node) c.args.found.now c.loop-candidate.candidate-index c.args.root.node (omega arith) c.loop-candidate.invariant.3
      (improves_is (as_lent c.args.region.now.mesh) c.args.region.now.nodes.now c.requires.regional.1 c.levels_from-next.ensures.1 ∙ sym c.replaces.ensures ∙ c.if-replaces.true)),
  better_walked (as_lent c.args.region.now.mesh) c.args.region.now.nodes.now c.levels_from-next.ensures.0 c.levels_from-next.ensures.1 c.levels_from-next.ensures.2,
)

pub loop-candidate-preserved : goal.loop-candidate-preserved
loop-candidate-preserved g c =
    let new : length c.levels_from-next.new.numbers ≡ length c.loop-candidate.numbers = c.levels_from-next.auto.numbers in
    let after : length c.levels_from-next.new.queue ≡ length c.loop-candidate.queue = c.levels_from-next.auto.queue in (
      new ∙ c.loop-candidate.invariant.0,
      after ∙ c.loop-candidate.invariant.1,
      regional_again (as_lent c.args.region.now.mesh) c.args.region.now.nodes.now c.loop-candidate.invariant.2 c.levels_from-next.ensures.2.only new after,
      scan_miss (improves (as_lent c.args.region.now.mesh) c.args.region.now.nodes.now c.args.root.node) c.args.found.now c.loop-candidate.candidate-index (omega arith) c.loop-candidate.invariant.3
          (improves_is (as_lent c.args.region.now.mesh) c.args.region.now.nodes.now c.requires.regional.1 c.levels_from-next.ensures.1 ∙ sym c.replaces.ensures ∙ c.if-replaces.false),
    )

pub returns : goal.returns
returns g c = (
  sym (scan_none (improves (as_lent c.args.region.now.mesh) c.args.region.now.nodes.now c.args.root.node) c.args.found.now c.loop-candidate.candidate-index c.args.root.node (omega arith) c.loop-candidate.invariant.3),
  better_same (as_lent c.args.region.now.mesh) c.args.region.now.nodes.now c.requires.regional.1 c.loop-candidate.invariant.2.only,
)

pub loop-candidate-init : goal.loop-candidate-init
loop-candidate-init g c = (refl, refl, c.requires.regional.0, refl)
