-- `dissection::levels::advance` meets its contract: the lists of the nodes passed have been visited, from the places behind place hi on.
use mathlib.Core.Path.{◌≡◌, sym, ap, ◌∙◌}
use mathlib.Core.List.{List}
use Prim.Native.Nat.{ℕ}
use native.Mathlib.Omega.{arith}
use lib.ListN.{length, take}
use lib.Seq.{take-take, take_all}
use Rattle.plan.specs.Lists.{exists, segment}
use Rattle.plan.specs.Mesh.{adjacent}
use Rattle.theory.proofs.Lists.{exists_more}
use Rattle.theory.proofs.Segments.{segment-front}
use Rattle.mesh.specs.Lent.{as_lent}
use Rattle.dissection.specs.Spread.{Spread}
use Rattle.dissection.proofs.Spreads.{spread_as, spread_both, spread_behind}
use Rattle.dissection.proofs.levels.advance.Goals as goal

pub loop-u-preserved : goal.loop-u-preserved
loop-u-preserved g c =
    spread_as (λ v. sym (exists_more (λ u. adjacent (as_lent c.args.mesh.now) u v) _ c.loop-u.u-index c.loop-u-test.true))
    (spread_both c.requires.0 c.loop-u.invariant c.visit-end.ensures)

pub returns : goal.returns
returns g c =
    let q : List ℕ = c.args.queue.now in
    let reached : List ℕ = c.split_at_mut-reached.result.0.now in
    let level : List ℕ = segment reached c.args.lo (length reached) in
    let same : take c.loop-u.u-index level ≡ segment q c.args.lo c.args.hi =
    take_all c.loop-u.u-index level c.loop-u-test.false
    ∙ ap (segment reached c.args.lo) c.split_at_mut-reached.ensures.front_len
    ∙ segment-front reached q c.args.lo c.args.hi c.args.hi c.requires.1 (omega arith) (ap (take c.args.hi) c.split_at_mut-reached.ensures.front ∙ take-take c.args.hi c.args.hi q (omega arith)) in
    let visited : Spread c.args.mesh.now.nodes c.args.x 0 c.args.numbers.now c.split_at_mut-reached.result.1.now (λ v. exists (λ u. adjacent (as_lent c.args.mesh.now) u v) (take c.loop-u.u-index level)) c.loop-u.numbers c.loop-u.places c.loop-u.end =
    c.loop-u.invariant in
    let here = spread_as (λ v. ap (exists (λ u. adjacent (as_lent c.args.mesh.now) u v)) same) visited in
    rw c.split_at_mut-reached.ensures.front (spread_behind (omega (arith, c.requires.2.room)) (rw c.split_at_mut-reached.ensures.back at here))
