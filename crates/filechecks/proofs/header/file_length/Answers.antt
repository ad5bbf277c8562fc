-- `filechecks::header::file_length` meets its contract: by check 13 the length is small.
use mathlib.Core.Path.{refl}
use Prim.Native.Nat.{◌≤◌}
use native.Mathlib.Omega.{arith}
use Rattle.plan.specs.Mesh.{max_nodes}
use Rattle.theory.proofs.Fitting.{counts-few}
use Rattle.filechecks.specs.Fields.{counts_only}
use Rattle.filechecks.proofs.header.file_length.Goals.{Start}
use Rattle.filechecks.proofs.header.file_length.Goals as goal

-- the counts are small
few : (c : Start) → (c.args.n ≤ max_nodes) × (c.args.p ≤ max_nodes) × (c.args.s ≤ 8386560)
few c = counts-few (counts_only c.args.n c.args.p c.args.s) c.requires.1

pub returns : goal.returns
returns c = refl

pub overflow_mul-result : goal.overflow_mul-result
overflow_mul-result c = omega (arith, few (goal.at.overflow_mul-result c).Start)

pub overflow_add-result : goal.overflow_add-result
overflow_add-result c = omega (arith, few (goal.at.overflow_add-result c).Start)

pub overflow_mul-result-2 : goal.overflow_mul-result-2
overflow_mul-result-2 c = omega (arith, few (goal.at.overflow_mul-result-2 c).Start)

pub overflow_add-result-2 : goal.overflow_add-result-2
overflow_add-result-2 c = omega (arith, few (goal.at.overflow_add-result-2 c).Start)

pub overflow_mul-result-3 : goal.overflow_mul-result-3
overflow_mul-result-3 c = omega (arith, few (goal.at.overflow_mul-result-3 c).Start)

pub overflow_add-result-3 : goal.overflow_add-result-3
overflow_add-result-3 c = omega (arith, few (goal.at.overflow_add-result-3 c).Start)
