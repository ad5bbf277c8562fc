-- `coding::write16` meets its contract: one byte after the other.
use mathlib.Core.Path.{ap, ◌∙◌}
use mathlib.Core.List.{List, [], ◌∷◌}
use Prim.Native.Nat.{ℕ, ◌%◌, ◌/◌}
use native.Mathlib.Omega.{arith}
use lib.ListN.{set}
use Rattle.plan.specs.File.{encode16}
use Rattle.theory.proofs.Written.{written_push}
use Rattle.coding.proofs.write16.Goals as goal

pub returns : goal.returns
unfolding encode16
returns c =
    let found : List ℕ = c.args.bytes.now in
    let low : ℕ = c.args.x % 256 in
    let high : ℕ = c.args.x / 256 % 256 in
    rw c.to_le_bytes.ensures
    (ap (λ (buffer : List ℕ). set buffer 1 high) (written_push [] found 0 low (omega arith) (omega (arith, c.requires)))
    ∙ written_push (low ∷ []) found 1 high (omega arith) (omega (arith, c.requires)))
