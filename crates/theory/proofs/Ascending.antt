-- Ascending lists: a set of numbers has one of them.
use mathlib.Core.Path.{◌≡◌, refl, sym, ap, ap₂, ◌∙◌}
use mathlib.Core.Logic.{inl, inr}
use mathlib.Core.Bool.{Bool, true, false, cond, false≢true}
use mathlib.Core.List.{List, [], ◌∷◌, head_d}
use Prim.Native.Nat.{ℕ, zero, suc, ◌-◌, ◌≤◌, ◌<◌}
use native.Mathlib.Omega.{arith}
use lib.Dec.{eqb, ltb}
use lib.ListN.{length, get_or, take, drop}
use borrow.Author.Tests.{eq-eqb, ltb-true, lt-ltb, ltb-false}
use Rattle.plan.specs.Lists.{falls, keep, up_from, below, is_in, index_of, ascending}
use Rattle.theory.proofs.Bools.{or_false_left, or_false_right, and_left, and_right, and_both, clash, iff_eq, lt_or_le}
use Rattle.theory.proofs.Lists.{is_in-head, is_in_tail, is_in_cons, is_in-get_or, of_keep, get_or-index_of, index_of_le}
use Rattle.theory.proofs.Ranges.{is_in-up_from}

pub ascending_tail : (x : ℕ) (l : List ℕ) → ascending (x ∷ l) ≡ true → ascending l ≡ true
ascending_tail x [] h = refl
ascending_tail x (y ∷ ys) h = and_right (ltb x y) _ h

-- the first of an ascending list is below the others
pub ascending_lt : (x : ℕ) (l : List ℕ) → ascending (x ∷ l) ≡ true → (y : ℕ) → is_in y l ≡ true → x < y
ascending_lt x [] h y t = absurd (false≢true t)
ascending_lt x (z ∷ zs) h y t =
    let lt : x < z = ltb-true x z (and_left (ltb x z) _ h) in
    elim (is_in_cons y z zs t) [
      | inl e ↦ omega arith
      | inr u ↦ omega (arith, ascending_lt z zs (and_right (ltb x z) _ h) y u)
    ]

-- an ascending list stays so behind a number that is below all of it
pub ascending_cons : (x : ℕ) (l : List ℕ) → ascending l ≡ true → ((y : ℕ) → is_in y l ≡ true → x < y) → ascending (x ∷ l) ≡ true
ascending_cons x [] h f = refl
ascending_cons x (y ∷ ys) h f = and_both (ltb x y) _ (lt-ltb x y (f y (is_in-head y ys))) h

pub ascending-up_from : (k a : ℕ) → ascending (up_from a k) ≡ true
ascending-up_from zero a = refl
ascending-up_from (suc k) a = ascending_cons a (up_from (suc a) k) (ascending-up_from k (suc a)) (λ y t. (is_in-up_from k (suc a) y t).0)

pub ascending-keep : (p : ℕ → Bool) (l : List ℕ) → ascending l ≡ true → ascending (keep p l) ≡ true
ascending-keep p [] h = refl
ascending-keep p (x ∷ xs) h = go (p x) (ascending-keep p xs (ascending_tail x xs h))
  where
    go : (b : Bool) → ascending (keep p xs) ≡ true → ascending (cond b (x ∷ keep p xs) (keep p xs)) ≡ true
    go true ih = ascending_cons x (keep p xs) ih (λ y t. ascending_lt x xs h y (of_keep p xs y t).0)
    go false ih = ih

-- what is kept from a range is ascending
pub ascending-kept : (p : ℕ → Bool) (n : ℕ) → ascending (keep p (below n)) ≡ true
ascending-kept p n = ascending-keep p (below n) (ascending-up_from n 0)

-- the first of a list with a member is a member
pub head_or-is_in : (d : ℕ) (l : List ℕ) (x : ℕ) → is_in x l ≡ true → is_in (head_d l d) l ≡ true
unfolding head_d
head_or-is_in d [] x h = absurd (false≢true h)
head_or-is_in d (y ∷ ys) x h = is_in-head y ys

-- and of an ascending list the least
pub head_or_least : (d : ℕ) (l : List ℕ) → ascending l ≡ true → (x : ℕ) → is_in x l ≡ true → head_d l d ≤ x
unfolding head_d
head_or_least d [] h x t = absurd (false≢true t)
head_or_least d (y ∷ ys) h x t = elim (is_in_cons x y ys t) [
  | inl e ↦ omega arith
  | inr u ↦ omega (arith, ascending_lt y ys h x u)
]

-- an ascending list begins with its least element
pub first_least : (l : List ℕ) (x : ℕ) → ascending l ≡ true → is_in x l ≡ true → ((y : ℕ) → is_in y l ≡ true → x ≤ y) → l ≡ x ∷ drop 1 l
first_least [] x h m f = absurd (false≢true m)
first_least (y ∷ l) x h m f = elim (is_in_cons x y l m) [
  | inl e ↦ ap (λ (z : ℕ). z ∷ l) (sym e)
  | inr t ↦ absurd (omega (arith, ascending_lt y l h x t, f y (is_in-head y l)))
]

-- an ascending list of numbers from a on and below n has no more of them than there are
pub ascending-few : (l : List ℕ) (a n : ℕ) → ascending l ≡ true → ((x : ℕ) → is_in x l ≡ true → (a ≤ x) × (x < n)) → length l ≤ n - a
ascending-few [] a n h f = omega arith
ascending-few (x ∷ l) a n h f =
    omega (arith, f x (is_in-head x l), ascending-few l (suc x) n (ascending_tail x l h) (λ y m. (ascending_lt x l h y m, (f y (is_in_tail y x l m)).1)))

-- in an ascending list the elements in front of a place are less than the one at it
pub front_less : (l : List ℕ) → ascending l ≡ true → (i x : ℕ) → i < length l → is_in x (take i l) ≡ true → x < get_or l i 0
front_less [] h i x lt m = absurd (omega arith)
front_less (y ∷ l) h zero x lt m = absurd (false≢true m)
front_less (y ∷ l) h (suc i) x lt m = elim (is_in_cons x y (take i l) m) [
  | inl e ↦ omega (arith, e, ascending_lt y l h (get_or l i 0) (is_in-get_or l i 0 (omega arith)))
  | inr t ↦ front_less l (ascending_tail y l h) i x (omega arith) t
]

-- and the others are not
pub back_least : (l : List ℕ) → ascending l ≡ true → (i x : ℕ) → i < length l → is_in x l ≡ true → is_in x (take i l) ≡ false → get_or l i 0 ≤ x
back_least [] h i x lt m f = absurd (omega arith)
back_least (y ∷ l) h zero x lt m f = elim (is_in_cons x y l m) [
  | inl e ↦ omega arith
  | inr t ↦ omega (arith, ascending_lt y l h x t)
]
back_least (y ∷ l) h (suc i) x lt m f = elim (is_in_cons x y l m) [
  | inl e ↦ clash (eqb x y) (eq-eqb x y e) (or_false_left (eqb x y) (is_in x (take i l)) f)
  | inr t ↦ back_least l (ascending_tail y l h) i x (omega arith) t (or_false_right (eqb x y) (is_in x (take i l)) f)
]

-- two ascending lists with the same elements are equal
pub ascending_ext : (l r : List ℕ) → ascending l ≡ true → ascending r ≡ true → ((x : ℕ) → is_in x l ≡ is_in x r) → l ≡ r
ascending_ext [] [] h k f = refl
ascending_ext [] (y ∷ ys) h k f = absurd (false≢true (f y ∙ is_in-head y ys))
ascending_ext (x ∷ xs) [] h k f = absurd (false≢true (sym (f x) ∙ is_in-head x xs))
ascending_ext (x ∷ xs) (y ∷ ys) h k f =
    ap₂ (λ (a : ℕ) (b : List ℕ). a ∷ b) heads
    (ascending_ext xs ys (ascending_tail x xs h) (ascending_tail y ys k) (λ z. iff_eq _ _ (right z) (left z)))
  where
    le : y ≤ x
    le = unfold head_d in head_or_least 0 (y ∷ ys) k x (sym (f x) ∙ is_in-head x xs)

    ge : x ≤ y
    ge = unfold head_d in head_or_least 0 (x ∷ xs) h y (f y ∙ is_in-head y ys)

    heads : x ≡ y
    heads = omega (arith, le, ge)

    right : (z : ℕ) → is_in z xs ≡ true → is_in z ys ≡ true
    right z t = elim (is_in_cons z y ys (sym (f z) ∙ is_in_tail z x xs t)) [
      | inl e ↦ absurd (omega (arith, le, ge, e, ascending_lt x xs h z t))
      | inr u ↦ u
    ]

    left : (z : ℕ) → is_in z ys ≡ true → is_in z xs ≡ true
    left z t = elim (is_in_cons z x xs (f z ∙ is_in_tail z y ys t)) [
      | inl e ↦ absurd (omega (arith, le, ge, e, ascending_lt y ys k z t))
      | inr u ↦ u
    ]

-- an earlier place of an ascending list holds a lesser number
pub ascending-get_or : (l : List ℕ) → ascending l ≡ true → (i j : ℕ) → i < j → j < length l → get_or l i 0 < get_or l j 0
ascending-get_or [] h i j lt le = absurd (omega arith)
ascending-get_or (x ∷ l) h i zero lt le = absurd (omega arith)
ascending-get_or (x ∷ l) h zero (suc j) lt le = ascending_lt x l h (get_or l j 0) (is_in-get_or l j 0 (omega arith))
ascending-get_or (x ∷ l) h (suc i) (suc j) lt le = ascending-get_or l (ascending_tail x l h) i j (omega arith) (omega arith)

-- so each element of an ascending list stands at one place only
pub ascending-index_of : (l : List ℕ) → ascending l ≡ true → (k : ℕ) → k < length l → index_of (get_or l k 0) l ≡ k
ascending-index_of l h k lt =
    let i : ℕ = index_of (get_or l k 0) l in
    let le : i ≤ k = index_of_le l k 0 lt in
    elim (lt_or_le i k) [
      | inl s ↦ absurd (omega (arith, ascending-get_or l h i k s lt, get_or-index_of l (get_or l k 0) 0 (omega arith)))
      | inr s ↦ omega arith
    ]

-- an earlier place of a list that does not fall holds no greater number
pub falls-get_or : (l : List ℕ) → falls l ≡ false → (i j : ℕ) → i ≤ j → j < length l → get_or l i 0 ≤ get_or l j 0
falls-get_or [] h i j le lt = absurd (omega arith)
falls-get_or (x ∷ l) h (suc i) zero le lt = absurd (omega arith)
falls-get_or (x ∷ l) h zero zero le lt = omega arith
falls-get_or (x ∷ []) h i (suc j) le lt = absurd (omega arith)
falls-get_or (x ∷ (y ∷ ys)) h zero (suc j) le lt =
    omega (arith, ltb-false y x (or_false_left (ltb y x) _ h), falls-get_or (y ∷ ys) (or_false_right (ltb y x) _ h) zero j (omega arith) (omega arith))
falls-get_or (x ∷ (y ∷ ys)) h (suc i) (suc j) le lt = falls-get_or (y ∷ ys) (or_false_right (ltb y x) _ h) i j (omega arith) (omega arith)
