-- `dissection::root::improve` meets its contract: the first of the candidates that improves is the next root.
use mathlib.Core.Path.{sym, ap, ◌∙◌}
use mathlib.Core.List.{List, head_d}
use Prim.Native.Nat.{ℕ}
use Rattle.plan.specs.Lists.{is_in, keep}
use Rattle.plan.specs.Choice.{improves, next_root}
use Rattle.theory.proofs.RootInside.{candidate_inside}
use Rattle.mesh.specs.Lent.{as_lent}
use Rattle.dissection.proofs.Roots.{regional_again}
use Rattle.dissection.proofs.root.improve.Goals as goal

pub first_better-requires : goal.first_better-requires
first_better-requires g c =
    record {
      regional = (regional_again (as_lent c.args.region.now.mesh) c.args.region.now.nodes.now c.requires.regional.0 c.candidates-count.ensures.2 c.candidates-count.auto.trial c.candidates-count.auto.queue, c.requires.measured.0, c.requires.measured.2);
      inside = (
          λ x t. candidate_inside (as_lent c.args.region.now.mesh) c.args.region.now.nodes.now c.args.root.node c.requires.measured.0.rooted.inside x (ap (is_in x) (sym c.candidates-count.ensures.0) ∙ t)
          );
    }

pub returns : goal.returns
unfolding next_root
returns g c = (c.first_better.ensures.0 ∙ ap (λ (l : List ℕ). head_d (keep (improves (as_lent c.args.region.now.mesh) c.args.region.now.nodes.now c.args.root.node) l) c.args.root.node) c.candidates-count.ensures.0, c.first_better.ensures.1)
