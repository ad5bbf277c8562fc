-- `join::numbers::destinations` meets its contract: the paired nodes go from an array in which all wait, and the others follow.
use mathlib.Core.Path.{◌≡◌, ap, ◌∙◌}
use mathlib.Core.Bool.{cond}
use mathlib.Core.List.{List}
use Prim.Native.Nat.{ℕ, ◌<◌}
use native.Mathlib.Omega.{arith}
use lib.ListN.{get_or}
use Rattle.plan.specs.Lists.{is_in, index_of}
use Rattle.plan.specs.Joining.{pairing}
use Rattle.mesh.specs.Lists.{none}
use Rattle.mesh.proofs.Lists.{filled_at}
use Rattle.join.proofs.Following.{following_goes}
use Rattle.join.proofs.numbers.destinations.Goals as goal

pub returns : goal.returns
returns c =
    let first : List ℕ = c.args.pairs.now.first.now in
    let second : List ℕ = c.args.pairs.now.second.now in
    let goes : List ℕ = c.put_paired.new.goes in
    let paired : (w : ℕ) → w < c.args.n2 → get_or goes w 0 ≡ cond (is_in w second) (get_or first (index_of w second) 0) none =
    λ w lt. c.put_paired.ensures.1 w
    ∙ ap (λ (x : ℕ). cond (is_in w second) (get_or first (index_of w second) 0) x) (ap (λ (l : List ℕ). get_or l w 0) c.filled-goes.ensures.0 ∙ filled_at none w (omega arith)) in
    record {
      long = c.put_unpaired.ensures.0 ∙ c.put_paired.ensures.0 ∙ c.filled-goes.ensures.1;
      each = λ w lt. c.put_unpaired.ensures.1 w lt ∙ following_goes c.args.n1 c.args.n2 (pairing first second) c.requires.2 c.requires.0 goes paired w lt;
    }
