-- The order of the tree: `Under parents p q` says that part q is part p or an ancestor of it; and ancestors end.
use mathlib.Core.Path.{◌≡◌, refl, sym, ap, subst, ◌∙◌}
use mathlib.Core.Logic.{inl, inr, ◌≢◌}
use mathlib.Core.Bool.{true, false, ◌||◌, false≢true}
use mathlib.Core.List.{List, [], ◌∷◌, get_last_d}
use Prim.Native.Nat.{ℕ, zero, suc, ◌+◌, ◌≤◌, ◌<◌}
use native.Mathlib.Omega.{arith}
use lib.Dec.{eqb}
use lib.ListN.{length}
use borrow.Author.Tests.{eqb-true, eqb-false, eq-eqb, ne_eqb}
use Rattle.plan.specs.Lists.{is_in}
use Rattle.plan.specs.Mesh.{no_parent}
use Rattle.plan.specs.Parts.{parent_of, ancestors_up_to, ancestors, at_or_above}
use Rattle.theory.proofs.Bools.{or_cases, or_left, or_right, tested, cond_true, cond_false, eqb_same, eq_or_ne}

pub data Under (parents : List ℕ) : ℕ → ℕ → Type 0 where
  here : {p : ℕ} → Under parents p p
  up : {p q : ℕ} → parent_of parents p ≢ no_parent → Under parents (parent_of parents p) q → Under parents p q

pub under_trans : {parents : List ℕ} {p q r : ℕ} → Under parents p q → Under parents q r → Under parents p r
under_trans here v = v
under_trans (up h u) v = up h (under_trans u v)

-- the test's list, opened one step
chain-end : (parents : List ℕ) (k p : ℕ) → eqb (parent_of parents p) no_parent ≡ true → ancestors_up_to (suc k) parents p ≡ []
unfolding ancestors_up_to
chain-end parents k p e = cond_true (eqb (parent_of parents p) no_parent) [] (parent_of parents p ∷ ancestors_up_to k parents (parent_of parents p)) e

chain-step : (parents : List ℕ) (k p : ℕ) → eqb (parent_of parents p) no_parent ≡ false → ancestors_up_to (suc k) parents p ≡ parent_of parents p ∷ ancestors_up_to k parents (parent_of parents p)
unfolding ancestors_up_to
chain-step parents k p e = cond_false (eqb (parent_of parents p) no_parent) [] (parent_of parents p ∷ ancestors_up_to k parents (parent_of parents p)) e

-- from the test to the relation
under_of_list : (parents : List ℕ) (q k p : ℕ) → is_in q (ancestors_up_to k parents p) ≡ true → Under parents p q
under_of_list parents q zero p h = absurd (false≢true (unfold ancestors_up_to in h))
under_of_list parents q (suc k) p h = elim (tested (eqb (parent_of parents p) no_parent)) [
  | inl e ↦ absurd (false≢true (rw (chain-end parents k p e) at h))
  | inr e ↦ up {q = q} (eqb-false (parent_of parents p) no_parent e)
      (elim (or_cases (eqb q (parent_of parents p)) _ (rw (chain-step parents k p e) at h)) [
        | inl z ↦ subst (λ (x : ℕ). Under parents (parent_of parents p) x) (sym (eqb-true q (parent_of parents p) z)) here
        | inr m ↦ under_of_list parents q k (parent_of parents p) m
      ])
]

pub under_of_test : (parents : List ℕ) (p q : ℕ) → at_or_above parents p q ≡ true → Under parents p q
unfolding at_or_above ancestors
under_of_test parents p q h = elim (or_cases (eqb p q) (is_in q (ancestors parents p)) h) [
  | inl e ↦ subst (λ (x : ℕ). Under parents p x) (eqb-true p q e) here
  | inr m ↦ under_of_list parents q (length parents) p m
]

module _ (parents : List ℕ) (later : (p : ℕ) → parent_of parents p ≢ no_parent → p < parent_of parents p) where
  pub under_le : {p q : ℕ} → Under parents p q → p ≤ q
  under_le here = omega arith
  under_le (up {p = p} h u) = omega (arith, later p h, under_le u)

  -- ancestors of one part stand on one chain
  pub under_chain : {p q r : ℕ} → Under parents p q → Under parents p r → q ≤ r → Under parents q r
  under_chain here v l = v
  under_chain (up {p = p} {q = q} h u) here l = absurd (omega (arith, later p h, under_le u))
  under_chain (up h u) (up k v) l = under_chain u v l

  module _ (known : (p : ℕ) → parent_of parents p ≢ no_parent → parent_of parents p < length parents) where
    list_of_under : {p q : ℕ} (k : ℕ) → length parents ≤ p + k → Under parents p q → (eqb p q || is_in q (ancestors_up_to k parents p)) ≡ true
    list_of_under {p} k l here = or_left (eqb p p) _ (eqb_same p)
    list_of_under {q = q} zero l (up {p = p} h u) = absurd (omega (arith, later p h, known p h))
    list_of_under {q = q} (suc k) l (up {p = p} h u) =
        let f : ℕ = parent_of parents p in
        let e : eqb f no_parent ≡ false = ne_eqb f no_parent h in
        or_right (eqb p q) (is_in q (ancestors_up_to (suc k) parents p)) (rw (chain-step parents k p e)
        (elim (or_cases (eqb f q) (is_in q (ancestors_up_to k parents f)) (list_of_under k (omega (arith, later p h)) u)) [
          | inl z ↦ or_left (eqb q f) _ (eq-eqb q f (sym (eqb-true f q z)))
          | inr m ↦ or_right (eqb q f) _ m
        ]))

    pub test_of_under : (p q : ℕ) → Under parents p q → at_or_above parents p q ≡ true
    unfolding at_or_above ancestors
    test_of_under p q u = list_of_under (length parents) (omega arith) u

    -- a part with no room for a later one has no parent
    no_later : (p : ℕ) → length parents ≤ p + 0 → parent_of parents p ≡ no_parent
    no_later p l = elim (eq_or_ne (parent_of parents p) no_parent) [
      | inl e ↦ e
      | inr h ↦ absurd (omega (arith, later p h, known p h))
    ]

    -- the last of enough ancestors has no parent
    pub last_ancestor : (k p d : ℕ) → length parents ≤ p + k → parent_of parents (get_last_d (p ∷ ancestors_up_to k parents p) d) ≡ no_parent
    unfolding get_last_d
    last_ancestor zero p d l = unfold ancestors_up_to in no_later p l
    last_ancestor (suc k) p d l = elim (tested (eqb (parent_of parents p) no_parent)) [
      | inl e ↦ rw (chain-end parents k p e) (eqb-true (parent_of parents p) no_parent e)
      | inr e ↦ rw (chain-step parents k p e)
          (last_ancestor k (parent_of parents p) d (omega (arith, later p (eqb-false (parent_of parents p) no_parent e))))
    ]

    -- two counts that are large enough give the same ancestors
    same-ancestors : (k m p : ℕ) → length parents ≤ p + k → length parents ≤ p + m → ancestors_up_to k parents p ≡ ancestors_up_to m parents p
    same-ancestors zero zero p l h = refl
    same-ancestors zero (suc m) p l h = unfold ancestors_up_to in sym (chain-end parents m p (eq-eqb _ _ (no_later p l)))
    same-ancestors (suc k) zero p l h = unfold ancestors_up_to in chain-end parents k p (eq-eqb _ _ (no_later p h))
    same-ancestors (suc k) (suc m) p l h = elim (tested (eqb (parent_of parents p) no_parent)) [
      | inl e ↦ chain-end parents k p e ∙ sym (chain-end parents m p e)
      | inr e ↦
          let f : ℕ = parent_of parents p in
          let up : p < f = later p (eqb-false f no_parent e) in
          chain-step parents k p e ∙ ap (λ (fs : List ℕ). f ∷ fs) (same-ancestors k m f (omega arith) (omega arith)) ∙ sym (chain-step parents m p e)
    ]

    -- any count from the number of parts on gives the same ancestors
    pub ancestors-same : (k p : ℕ) → length parents ≤ k → ancestors_up_to k parents p ≡ ancestors parents p
    unfolding ancestors
    ancestors-same k p l = same-ancestors k (length parents) p (omega arith) (omega arith)
