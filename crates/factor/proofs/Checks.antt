-- The checks before the first column, one by one, and what follows where none finds a fault.
use mathlib.Core.Path.{◌≡◌, refl, sym, ap, ◌∙◌}
use mathlib.Core.List.{[], ◌∷◌}
use Prim.Native.Nat.{ℕ, ◌+◌, ◌≤◌}
use native.Mathlib.Omega.{arith}
use lib.ListN.{length}
use Rattle.std.specs.Prelude.{Result, Err}
use Rattle.plan.specs.declared.Report.{Report}
use Rattle.plan.specs.declared.refusal.Refusal.{Refusal}
use Rattle.plan.specs.Refusals.{number_of, Checks, first_fault}
use Rattle.plan.specs.Mesh.{max_nodes}
use Rattle.plan.specs.Planning.{Contents}
use Rattle.plan.specs.File.{contents_checks}
use Rattle.plan.specs.Writing.{used, supplied_checks}
use Rattle.plan.specs.Filling.{Filling}
use Rattle.plan.specs.Factoring.{open_report, FactorOutcome, not_factored, factor_from, many_unknowns, bad_filling, factor_checks, factor_out, factoring, Factored}
use Rattle.theory.proofs.Refusals.{number-suc, first_some, first-none}
use Rattle.theory.proofs.Fitting.{counts-few}
use Rattle.theory.proofs.RoundTrips.{supplied_sound}
use Rattle.theory.proofs.Factoring.{supplied_covering, FactorPassed, factor_passed}
use Rattle.factor.specs.Working.{Lent, Reached}

module _ (c : Contents) (f : Filling) where
  abbrev later : Checks
  later = (29, many_unknowns c.unknowns) ∷ (30, bad_filling c.nodes c.slots f) ∷ []

  -- a fault of the plan's own checks
  pub plan_refused : (r : Refusal) → number_of r ≡ first_fault (supplied_checks c) → number_of r ≡ first_fault (factor_checks c f)
  unfolding factor_checks
  plan_refused r e = let one = number-suc r in e ∙ sym (first_some (supplied_checks c) later (λ z. omega (arith, e, z, one.1)))

  -- none of them: 29 and 30 are left
  pub plan_passed : 0 ≡ first_fault (supplied_checks c) → first_fault (factor_checks c f) ≡ first_fault later
  unfolding factor_checks supplied_checks contents_checks
  plan_passed passed = first-none (supplied_checks c) later refl (sym passed)

  -- a refusal leaves both buffers as found
  pub factor_refused : (r : Refusal) → number_of r ≡ first_fault (factor_checks c f) → Factored c (Err r) f f
  unfolding factoring factor_out
  factor_refused r e =
      let one = number-suc r in
      let whole : factoring c f ≡ not_factored (number_of r) f = ap (λ (i : ℕ). factor_out i c f) (sym e ∙ one.1) ∙ ap (λ (i : ℕ). not_factored i f) (sym one.1) in
      record {
        reply = sym (ap (λ (o : FactorOutcome). o.answer) whole);
        diagonal = sym (ap (λ (o : FactorOutcome). o.filling.diagonal) whole);
        values = sym (ap (λ (o : FactorOutcome). o.filling.values) whole);
      }

  -- no fault: what the columns ask, and what they reach
  module _ (none : 0 ≡ first_fault (factor_checks c f)) where
    passed : FactorPassed c f
    passed = factor_passed c f (sym none)

    pub nodes-few : c.nodes ≤ max_nodes
    unfolding used
    nodes-few = (counts-few (used c) (supplied_sound c passed.supplied).header).0

    pub slots-few : c.slots ≤ 8386560
    unfolding used
    slots-few = (counts-few (used c) (supplied_sound c passed.supplied).header).2

    pub starts-long : length (used c).column_starts ≡ c.nodes + 1
    unfolding used
    starts-long = (supplied_sound c passed.supplied).whole.column_starts

    pub rows_long : length (used c).rows ≡ c.slots
    unfolding used
    rows_long = (supplied_sound c passed.supplied).whole.rows

    pub factor_lent : Lent (used c).column_starts (used c).rows f.diagonal f.values
    factor_lent = record {
      plan = rw passed.diagonal (supplied_covering c passed.supplied);
      few = omega (arith, passed.diagonal, nodes-few);
      few_slots = omega (arith, rows_long, slots-few);
      slots = rows_long ∙ sym passed.values;
    }

    pub factor_reached : (answer : Result Report Refusal) (g : Filling)
        → Reached (factor_from (used c).column_starts (used c).rows 0 (length f.diagonal) open_report f) answer g.diagonal g.values → Factored c answer f g
    unfolding factoring factor_out
    factor_reached answer g r =
        let whole : factoring c f ≡ factor_from (used c).column_starts (used c).rows 0 (length f.diagonal) open_report f =
        ap (λ (i : ℕ). factor_out i c f) (sym none) ∙ ap (λ (n : ℕ). factor_from (used c).column_starts (used c).rows 0 n open_report f) (sym passed.diagonal) in
        record {
          reply = r.reply ∙ sym (ap (λ (o : FactorOutcome). o.answer) whole);
          diagonal = r.diagonal_left ∙ sym (ap (λ (o : FactorOutcome). o.filling.diagonal) whole);
          values = r.values_left ∙ sym (ap (λ (o : FactorOutcome). o.filling.values) whole);
        }
