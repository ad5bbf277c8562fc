-- `join::pairing::Pairing::check` meets its contract: behind check 32 the pairs name nodes that there are.
use mathlib.Core.Path.{sym, ◌∙◌}
use native.Mathlib.Omega.{arith}
use Rattle.theory.proofs.JoinedNodes.{pairs-inside}
use Rattle.join.specs.Pairings.{pairing_of}
use Rattle.join.proofs.pairing.Pairing.check.Goals as goal

pub paired_twice-requires : goal.paired_twice-requires
paired_twice-requires c =
    let inside = pairs-inside c.args.n1 c.args.n2 (pairing_of c.args.self.now) (sym c.is_bad.ensures ∙ c.if-is_bad.false) in
    (λ v t. omega (arith, inside.1 v t), λ w t. omega (arith, inside.2 w t))
