-- What planning owes once checks 28 and 1 to 8 are passed.
use Rattle.std.specs.Prelude.{[], ◌∷◌, ◌++◌, ℕ, Result}
use Rattle.plan.specs.declared.Plan.{Plan}
use Rattle.plan.specs.declared.refusal.Refusal.{Refusal}
use Rattle.plan.specs.Refusals.{Checks, first_fault}
use Rattle.plan.specs.Mesh.{Mesh, mesh_checks}
use Rattle.plan.specs.Planning.{Buffers, Capacity, Outcome, Filled, plan_of, bad_unknowns, buffers_too_short, rows_too_short, capacity, hand_out}

-- checks 28 and 1 to 8
abbrev pub early_checks : ℕ → Mesh → Capacity → Checks
early_checks unknowns m room = (28, bad_unknowns unknowns) ∷ (mesh_checks m ++ ((8, buffers_too_short m.nodes room) ∷ []))

-- planning where they find no fault: check 9 is left
unfoldable pub planning_checked : ℕ → Mesh → Capacity → Outcome
planning_checked unknowns m room = hand_out (first_fault ((9, rows_too_short (plan_of unknowns m) room) ∷ [])) (plan_of unknowns m)

-- an answer and buffers that agree with it
abbrev pub FilledChecked : ℕ → Mesh → Result Plan Refusal → Buffers → Buffers → Type 0
FilledChecked unknowns m answer found left = Filled (planning_checked unknowns m (capacity found)) answer found left
