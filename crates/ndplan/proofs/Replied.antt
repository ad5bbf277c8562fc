-- A reply of the C interface tells its answer: no refusal is numbered 0, and each is the one that its number stands for.
use Rattle.std.proofs.Common.{◌≡◌, refl, ℕ, suc, Bool, false, eqb, arith, Result, Ok, Err}
use borrow.Author.Tests.{ne_eqb}
use Rattle.plan.specs.declared.Plan.{Plan}
use Rattle.plan.specs.declared.MeshCounts.{MeshCounts}
use Rattle.plan.specs.declared.refusal.Refusal.{Refusal}
use Rattle.plan.specs.Refusals.{number_of}
use Rattle.plan.specs.Answers.{plan_reply, write_reply, mesh_reply}
use Rattle.theory.proofs.Refusals.{number-suc, refusal-of_number}
use Rattle.ndplan.specs.Replies.{ndp_plan, ndp_written, ndp_mesh, plan_answer_of, write_answer_of, mesh_answer_of}

-- a refusal's number is not 0
above_zero : (r : Refusal) → eqb (number_of r) 0 ≡ false
above_zero r = ne_eqb (number_of r) 0 (λ e. (let n : (k : ℕ) × (number_of r ≡ suc k) = number-suc r in omega (arith, n.1)))

pub plan-told : (answer : Result Plan Refusal) → plan_answer_of (ndp_plan (plan_reply answer)) ≡ answer
plan-told (Ok p) = refl
plan-told (Err r) = rw (above_zero r, refusal-of_number r)

pub write_told : (answer : Result ℕ Refusal) → write_answer_of (ndp_written (write_reply answer)) ≡ answer
write_told (Ok length) = refl
write_told (Err r) = rw (above_zero r, refusal-of_number r)

pub mesh-told : (answer : Result MeshCounts Refusal) → mesh_answer_of (ndp_mesh (mesh_reply answer)) ≡ answer
mesh-told (Ok m) = refl
mesh-told (Err r) = rw (above_zero r, refusal-of_number r)
