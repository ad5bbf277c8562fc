-- The checks before the solution, one by one, and what follows where none finds a fault.
use mathlib.Core.Path.{◌≡◌, refl, sym, ap, ◌∙◌}
use mathlib.Core.List.{List, [], ◌∷◌}
use Prim.Native.Nat.{ℕ}
use native.Mathlib.Omega.{arith}
use lib.ListN.{length}
use lib.Ieee.{Float}
use Rattle.plan.specs.declared.refusal.Refusal.{Refusal}
use Rattle.plan.specs.Refusals.{number_of, Checks, first_fault}
use Rattle.plan.specs.Planning.{Contents}
use Rattle.plan.specs.File.{contents_checks}
use Rattle.plan.specs.Writing.{used, supplied_checks}
use Rattle.plan.specs.Filling.{Filling}
use Rattle.plan.specs.Factoring.{factor_checks}
use Rattle.plan.specs.Solving.{forward, scaled, backward, solved, bad_vector, bad_pivot, solve_checks, solve_out, solving, Solved}
use Rattle.theory.proofs.Refusals.{number-suc, no_fault_first, first_some, first-none}
use Rattle.theory.proofs.Factoring.{factor_passed}
use Rattle.theory.proofs.Solving.{forward-length, scaled-length}
use Rattle.theory.proofs.SolveEntries.{SolvePassed, solve_passed}
use Rattle.factor.specs.Passing.{Filled}
use Rattle.factor.proofs.Checks.{slots-few, rows_long}

module _ (c : Contents) (f : Filling) (y : List Float) where
  abbrev later : Checks
  later = (30, bad_vector c.nodes y) ∷ (31, bad_pivot f.diagonal) ∷ []

  -- a fault of factoring's checks
  pub factor_refused_first : (r : Refusal) → number_of r ≡ first_fault (factor_checks c f) → number_of r ≡ first_fault (solve_checks c f y)
  unfolding solve_checks
  factor_refused_first r e = let one = number-suc r in e ∙ sym (first_some (factor_checks c f) later (λ z. omega (arith, e, z, one.1)))

  -- none of them: the vector's length and the pivots are left
  pub factor_passed_first : 0 ≡ first_fault (factor_checks c f) → first_fault (solve_checks c f y) ≡ first_fault later
  unfolding solve_checks factor_checks supplied_checks contents_checks
  factor_passed_first passed = first-none (factor_checks c f) later refl (sym passed)

  -- a refusal leaves the vector as found
  pub solve_refused : (r : Refusal) → number_of r ≡ first_fault (solve_checks c f y) → Solved c f (number_of r) y y
  unfolding solving solve_out
  solve_refused r e =
      let one = number-suc r in
      record { number = e; vector = sym (ap (λ (i : ℕ). solve_out i c f y) (sym e ∙ one.1)) }

  -- no fault: what the passes ask, and what they leave
  module _ (none : 0 ≡ first_fault (solve_checks c f y)) where
    pub factor_none : 0 ≡ first_fault (factor_checks c f)
    unfolding solve_checks
    factor_none = sym (no_fault_first (factor_checks c f) later (sym none))

    passed : SolvePassed c y
    passed = solve_passed c f y (sym none)

    -- the columns and their values can be passed through
    pub filled : Filled (used c).column_starts (used c).rows (length f.values) c.nodes
    filled = record {
      plan = passed.plan;
      slots = rows_long c f factor_none ∙ sym (factor_passed c f (sym factor_none)).values;
      few = omega (arith, rows_long c f factor_none, slots-few c f factor_none);
    }

    -- the vector has an entry for each node
    pub vector_long : length y ≡ c.nodes
    vector_long = passed.vector

    -- and each entry has a pivot
    pub pivots-long : length f.diagonal ≡ length y
    pivots-long = (factor_passed c f (sym factor_none)).diagonal ∙ sym passed.vector

    pub solve_reached : (y₁ y₂ y₃ : List Float)
        → y₁ ≡ forward (length y) (used c).column_starts (used c).rows f.values y
        → y₂ ≡ scaled (length y₁) f.diagonal y₁
        → y₃ ≡ backward (length y₂) (used c).column_starts (used c).rows f.values y₂
        → Solved c f 0 y y₃
    unfolding solving solve_out solved
    solve_reached y₁ y₂ y₃ e₁ e₂ e₃ =
        let l₁ : length y₁ ≡ c.nodes = ap length e₁ ∙ forward-length (length y) (used c).column_starts (used c).rows f.values y ∙ passed.vector in
        let l₂ : length y₂ ≡ c.nodes = ap length e₂ ∙ scaled-length (length y₁) f.diagonal y₁ ∙ l₁ in
        let whole : solving c f y ≡ solved c.nodes (used c).column_starts (used c).rows f y = ap (λ (k : ℕ). solve_out k c f y) (sym none) in
        record { number = none; vector = e₃ ∙ rw (l₂, e₂, l₁, e₁, passed.vector) (sym whole) }
