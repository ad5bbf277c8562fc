-- E9: reading the factor at a pair. The order of the pair does not matter, and document 01's question finds the same place.
use mathlib.Core.Path.{◌≡◌, refl, sym, ap, ◌∙◌}
use mathlib.Core.Logic.{inl, inr}
use mathlib.Core.Bool.{Bool, true, false, ◌||◌}
use mathlib.Core.List.{List, [], ◌∷◌}
use Prim.Native.Nat.{ℕ, zero, suc, min, max}
use native.Mathlib.Omega.{arith}
use lib.Dec.{leb, eqb}
use lib.ListN.{get_or}
use borrow.Author.Tests.{ne_eqb}
use Rattle.plan.specs.Refusals.{Checks, first_fault}
use Rattle.plan.specs.Questions.{layout_checks, position_outside, position_checks, question_checks, pair_found, pair_question}
use Rattle.plan.specs.Filling.{Filling, place_of}
use Rattle.plan.specs.Factoring.{bad_filling}
use Rattle.plan.specs.Held.{held_checks, held_found, held_question}
use Rattle.plan.specs.SolveStatements.{HeldEitherOrder, HeldWhereFound}
use Rattle.theory.proofs.Bools.{eq_or_ne}
use Rattle.theory.proofs.Refusals.{no_fault, no_fault_first, first-none}
use Rattle.theory.proofs.FactorHeld.{question_finds_place}

-- a pair has one place
place_either : (starts rows : List ℕ) (a b : ℕ) → place_of starts rows a b ≡ place_of starts rows b a
unfolding place_of
place_either starts rows a b = elim (eq_or_ne a b) [
  | inl e ↦ rw e
  | inr ne ↦
      let there : eqb a b ≡ false = ne_eqb a b ne in
      let back : eqb b a ≡ false = ne_eqb b a (λ e. ne (sym e)) in
      let hi : max a b ≡ max b a = omega arith in
      let lo : min a b ≡ min b a = omega arith in
      rw (there, back, hi, lo)
]

outside_either : (n a b : ℕ) → position_outside n (a ∷ b ∷ []) ≡ position_outside n (b ∷ a ∷ [])
unfolding position_outside
outside_either n a b = go (leb n a) (leb n b)
  where
    go : (x y : Bool) → (x || (y || false)) ≡ (y || (x || false))
    go true true = refl
    go true false = refl
    go false true = refl
    go false false = refl

-- "at a pair, in either order"
pub held_either_order : HeldEitherOrder
unfolding held_question held_checks position_checks
held_either_order n starts rows f a b = rw (outside_either n a b, place_either starts rows a b)

-- ---- document 01's question

-- where no check finds a fault, none of that question does: its checks are among these
checks_shared : (n : ℕ) (starts rows : List ℕ) (f : Filling) (a b : ℕ)
    → first_fault (held_checks n starts rows f a b) ≡ 0 → first_fault (question_checks n starts rows (a ∷ b ∷ [])) ≡ 0
unfolding held_checks question_checks layout_checks
checks_shared n starts rows f a b h =
    let bad : Bool = bad_filling n (get_or starts n 0) f in
    let asked : Checks = position_checks n (a ∷ b ∷ []) in
    let clear : first_fault (layout_checks n starts rows) ≡ 0 = no_fault_first (layout_checks n starts rows) ((30, bad) ∷ asked) h in
    let left : first_fault ((30, bad) ∷ asked) ≡ 0 = sym (first-none (layout_checks n starts rows) ((30, bad) ∷ asked) refl clear) ∙ h in
    first-none (layout_checks n starts rows) asked refl clear ∙ (no_fault 30 bad asked (omega arith) left).1

-- 0 is answered where no check finds a fault
held-passed : (n : ℕ) (starts rows : List ℕ) (f : Filling) (a b : ℕ) → (held_question n starts rows f a b).number ≡ 0 → first_fault (held_checks n starts rows f a b) ≡ 0
unfolding held_question held_found
held-passed n starts rows f a b h = go (first_fault (held_checks n starts rows f a b)) h
  where
    go : (k : ℕ) → (held_found k (place_of starts rows a b) f).number ≡ 0 → k ≡ 0
    go zero e = refl
    go (suc k) e = absurd (omega (arith, e))

-- so it finds the place whose number is answered
pub held_where_found : HeldWhereFound
unfolding held_question held_found pair_question
held_where_found n starts rows f a b h =
    let none : first_fault (held_checks n starts rows f a b) ≡ 0 = held-passed n starts rows f a b h in
    let clear : first_fault (question_checks n starts rows (a ∷ b ∷ [])) ≡ 0 = checks_shared n starts rows f a b none in
    (ap (λ (k : ℕ). pair_found k starts rows a b) clear ∙ question_finds_place starts rows a b, rw none)
