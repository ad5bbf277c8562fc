-- Numbers that stand twice in a list, and lists in which none does.
use mathlib.Core.Path.{◌≡◌, refl, sym, ap, ◌∙◌}
use mathlib.Core.Logic.{inl, inr}
use mathlib.Core.Bool.{true, false, ◌||◌, false≢true}
use mathlib.Core.List.{List, [], ◌∷◌, map}
use Prim.Native.Nat.{ℕ, ◌+◌, ◌≤◌, ◌<◌}
use native.Mathlib.Omega.{arith}
use lib.Dec.{eqb}
use lib.ListN.{length, take, get_or}
use borrow.Author.Tests.{eq-eqb, ne_eqb, eqb-true}
use Rattle.plan.specs.Lists.{is_in, twice, index_of, ascending}
use Rattle.theory.specs.Counting.{count}
use Rattle.theory.proofs.Bools.{or_cases, or_left, or_right, or_neither, or_false_left, or_false_right, clash, refuted, iff_eq, eqb_same, eq_or_ne}
use Rattle.theory.proofs.Lists.{is_in-head, is_in_tail, exists-map, none-exists, index_of_le, get_or-index_of}
use Rattle.theory.proofs.Counting.{unit, count_cons, count_more, count-front, exists-count, count-exists, count-ascending, count-twice}

-- such a number is counted more than once
pub twice_counted : (l : List ℕ) → twice l ≡ true → (x : ℕ) × (1 < count (eqb x) l)
twice_counted [] h = absurd (false≢true h)
twice_counted (y ∷ l) h = elim (or_cases (is_in y l) (twice l) h) [
  | inl t ↦ (y, omega (arith, count_cons (eqb y) y l, ap unit (eqb_same y), exists-count (eqb y) l t))
  | inr t ↦ (let r = twice_counted l t in (r.0, omega (arith, count_cons (eqb r.0) y l, r.1)))
]

pub counted_twice : (l : List ℕ) (x : ℕ) → 1 < count (eqb x) l → twice l ≡ true
counted_twice [] x h = absurd (omega arith)
counted_twice (y ∷ l) x h = elim (eq_or_ne x y) [
  | inl e ↦ or_left (is_in y l) _
      (ap (λ (z : ℕ). is_in z l) (sym e) ∙ count-exists (eqb x) l (omega (arith, h, count_cons (eqb x) y l, ap unit (eq-eqb x y e))))
  | inr e ↦ or_right (is_in y l) _ (counted_twice l x (omega (arith, h, count_cons (eqb x) y l, ap unit (ne_eqb x y e))))
]

-- one element more
pub twice_more : (l : List ℕ) (i : ℕ) → i < length l → twice (take (i + 1) l) ≡ (twice (take i l) || is_in (get_or l i 0) (take i l))
twice_more l i lt = iff_eq (twice (take (i + 1) l)) (twice (take i l) || is_in (get_or l i 0) (take i l)) there back
  where
    more : (x : ℕ) → count (eqb x) (take (i + 1) l) ≡ count (eqb x) (take i l) + unit (eqb x (get_or l i 0))
    more x = count_more (eqb x) l i lt

    there : twice (take (i + 1) l) ≡ true → (twice (take i l) || is_in (get_or l i 0) (take i l)) ≡ true
    there h =
        let r = twice_counted (take (i + 1) l) h in
        elim (eq_or_ne r.0 (get_or l i 0)) [
          | inl e ↦ or_right (twice (take i l)) _ (ap (λ (x : ℕ). is_in x (take i l)) (sym e) ∙ count-exists (eqb r.0) (take i l) (omega (arith, r.1, more r.0, ap unit (eq-eqb r.0 (get_or l i 0) e))))
          | inr e ↦ or_left (twice (take i l)) _ (counted_twice (take i l) r.0 (omega (arith, r.1, more r.0, ap unit (ne_eqb r.0 (get_or l i 0) e))))
        ]

    back : (twice (take i l) || is_in (get_or l i 0) (take i l)) ≡ true → twice (take (i + 1) l) ≡ true
    back h = elim (or_cases (twice (take i l)) _ h) [
      | inl t ↦ (let r = twice_counted (take i l) t in counted_twice (take (i + 1) l) r.0 (omega (arith, r.1, more r.0)))
      | inr t ↦ counted_twice (take (i + 1) l) (get_or l i 0) (omega (arith, more (get_or l i 0), ap unit (eqb_same (get_or l i 0)), exists-count (eqb (get_or l i 0)) (take i l) t))
    ]

-- what stands twice in a front of a list stands twice in it
pub twice-front : (l : List ℕ) (i : ℕ) → twice (take i l) ≡ true → twice l ≡ true
twice-front l i h = let r = twice_counted (take i l) h in counted_twice l r.0 (omega (arith, r.1, count-front (eqb r.0) l i))

-- ---- lists in which no number stands twice

-- each is found at its own place
pub once_index : (l : List ℕ) → twice l ≡ false → (i : ℕ) → i < length l → index_of (get_or l i 0) l ≡ i
once_index l once i lt =
    let j : ℕ = index_of (get_or l i 0) l in
    let le : j ≤ i = index_of_le l i 0 lt in
    elim (eq_or_ne j i) [
      | inl e ↦ e
      | inr e ↦ clash (twice l) (counted_twice l (get_or l i 0) (count-twice l j i 0 (omega (arith, le, e)) lt (get_or-index_of l (get_or l i 0) 0 (omega (arith, le, lt))))) once
    ]

-- in an ascending list none does
pub once-ascending : (l : List ℕ) → ascending l ≡ true → twice l ≡ false
once-ascending l up = refuted (twice l) (λ t. let r = twice_counted l t in omega (arith, r.1, count-ascending r.0 l up (count-exists (eqb r.0) l (omega (arith, r.1)))))

-- nor among what a map makes of them, if it keeps them apart
pub once-map : (f : ℕ → ℕ) (l : List ℕ) → ((x y : ℕ) → is_in x l ≡ true → is_in y l ≡ true → f x ≡ f y → x ≡ y) → twice l ≡ false → twice (map f l) ≡ false
once-map f [] apart once = refl
once-map f (x ∷ l) apart once =
    or_neither (is_in (f x) (map f l)) (twice (map f l))
    (exists-map (eqb (f x)) f l ∙ none-exists (λ y. eqb (f x) (f y)) l (λ y t. refuted (eqb (f x) (f y)) (λ e.
    clash (is_in x l) (ap (λ (z : ℕ). is_in z l) (apart x y (is_in-head x l) (is_in_tail y x l t) (eqb-true (f x) (f y) e)) ∙ t) (or_false_left (is_in x l) (twice l) once))))
    (once-map f l (λ y z s t. apart y z (is_in_tail y x l s) (is_in_tail z x l t)) (or_false_right (is_in x l) (twice l) once))
