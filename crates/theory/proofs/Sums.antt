-- Sums of lists of numbers, and the triangle.
use mathlib.Core.Path.{◌≡◌, refl, sym, ◌∙◌, ap}
use mathlib.Core.Logic.{inl, inr}
use mathlib.Core.Bool.{true, false, false≢true}
use mathlib.Core.List.{List, [], ◌∷◌, ◌++◌, map}
use Prim.Native.Nat.{ℕ, ◌+◌, ◌<◌, ◌≤◌, zero, suc, ◌-◌, ◌*◌, ◌/◌}
use native.Mathlib.Nat.{add-zero, suc-add, add-suc}
use native.Mathlib.Omega.{arith}
use lib.ListN.{length, get_or, take}
use Rattle.plan.specs.Lists.{up_from, total, is_in}
use Rattle.theory.proofs.Bools.{clash, refuted, eq_or_ne}
use Rattle.theory.proofs.Lists.{take_more, is_in_cons, is_in-get_or, get_or-index_of, index_of_lt}

pub total-append : (xs ys : List ℕ) → total (xs ++ ys) ≡ total xs + total ys
total-append [] ys = omega arith
total-append (x ∷ xs) ys = omega (arith, total-append xs ys)

-- one more of a list's numbers
pub total_more : (l : List ℕ) (i : ℕ) → i < length l → total (take (i + 1) l) ≡ total (take i l) + get_or l i 0
total_more l i h = let t = total-append (take i l) (get_or l i 0 ∷ []) in rw (take_more l i 0 h) (omega arith)

-- no more than all of them together
pub total-within : (l : List ℕ) (i : ℕ) → i < length l → total (take i l) + get_or l i 0 ≤ total l
total-within [] i h = absurd (omega arith)
total-within (x ∷ l) zero h = omega arith
total-within (x ∷ l) (suc i) h = omega (arith, total-within l i (omega arith))

-- no element of a list of positive numbers is 0
pub no_zero : (l : List ℕ) → ((q : ℕ) → q < length l → 0 < get_or l q 0) → is_in 0 l ≡ false
no_zero l f = refuted (is_in 0 l) (λ h. let lt = index_of_lt l 0 h in omega (arith, f _ lt, get_or-index_of l 0 0 lt))

-- where 0 is no element, each is positive
pub zero_none : (l : List ℕ) → is_in 0 l ≡ false → (q : ℕ) → q < length l → 0 < get_or l q 0
zero_none l h q lt = elim (eq_or_ne (get_or l q 0) 0) [
  | inl e ↦ clash (is_in 0 l) (ap (λ (x : ℕ). is_in x l) (sym e) ∙ is_in-get_or l q 0 lt) h
  | inr e ↦ omega arith
]

-- a list with a sum has an element
pub total-some : (l : List ℕ) → 0 < total l → 0 < length l
total-some [] h = absurd (omega arith)
total-some (x ∷ l) h = omega arith

-- no element is above the sum
pub is_in-total : (l : List ℕ) (x : ℕ) → is_in x l ≡ true → x ≤ total l
is_in-total [] x h = absurd (false≢true h)
is_in-total (y ∷ l) x h = elim (is_in_cons x y l h) [ inl e ↦ omega arith | inr m ↦ omega (arith, is_in-total l x m) ]

-- positive numbers, place by place
pub positive-append : (xs ys : List ℕ) → ((p : ℕ) → p < length xs → 0 < get_or xs p 0) → ((p : ℕ) → p < length ys → 0 < get_or ys p 0)
    → (p : ℕ) → p < length (xs ++ ys) → 0 < get_or (xs ++ ys) p 0
positive-append [] ys f g p h = g p h
positive-append (x ∷ xs) ys f g zero h = f 0 (omega arith)
positive-append (x ∷ xs) ys f g (suc p) h = positive-append xs ys (λ q l. f (suc q) (omega arith)) g p (omega arith)

pub positive_cons : (x : ℕ) (xs : List ℕ) → 0 < x → ((p : ℕ) → p < length xs → 0 < get_or xs p 0) → (p : ℕ) → p < length (x ∷ xs) → 0 < get_or (x ∷ xs) p 0
positive_cons x xs h f zero l = h
positive_cons x xs h f (suc p) l = f p (omega arith)

-- positive numbers are no more than their sum
pub positive-few : (l : List ℕ) → ((p : ℕ) → p < length l → 0 < get_or l p 0) → length l ≤ total l
positive-few [] f = omega arith
positive-few (x ∷ l) f = omega (arith, f 0 (omega arith), positive-few l (λ p h. f (suc p) (omega arith)))

-- ---- numbers of which none is above 1

module _ (f : ℕ → ℕ) where
  -- their sum is at most how many they are
  total-few : (k a : ℕ) → ((v : ℕ) → a ≤ v → v < a + k → f v ≤ 1) → total (map f (up_from a k)) ≤ k
  total-few zero a h = omega arith
  total-few (suc k) a h = omega (arith, h a (omega arith) (omega arith), total-few k (suc a) (λ v l m. h v (omega arith) (omega arith)))

  -- and it is less where any of them is 0
  pub total-less : (k a : ℕ) → ((v : ℕ) → a ≤ v → v < a + k → f v ≤ 1) → (v : ℕ) → a ≤ v → v < a + k → total (map f (up_from a k)) < f v + k
  total-less zero a h v l m = absurd (omega arith)
  total-less (suc k) a h v l m =
      let later : (w : ℕ) → suc a ≤ w → w < suc a + k → f w ≤ 1 = λ w l m. h w (omega arith) (omega arith) in
      elim (eq_or_ne v a) [
        | inl e ↦ omega (arith, ap f e, total-few k (suc a) later)
        | inr e ↦ omega (arith, e, h a (omega arith) (omega arith), total-less k (suc a) later v (omega arith) (omega arith))
      ]

-- ---- the triangle

one_less : (m : ℕ) → suc m - 1 ≡ m
one_less m = omega arith

triangle : (m : ℕ) → suc m * (suc m - 1) ≡ m * (m - 1) + 2 * m
triangle zero = refl
triangle (suc m) = rw (one_less (suc m), one_less m) (omega arith)

-- at most B + (m - 1), .., B + 1, B + 0: twice their sum
pub block : (B : ℕ) (f : ℕ → ℕ) (m base : ℕ) → ((t : ℕ) → t < m → f (base + t) ≤ B + (m - suc t))
    → 2 * total (map f (up_from base m)) ≤ 2 * (m * B) + m * (m - 1)
block B f zero base h = omega arith
block B f (suc m) base h =
    let first : f base ≤ B + (suc m - 1) = rw add-zero at (h 0 (omega arith)) in
    let others : (t : ℕ) → t < m → f (suc base + t) ≤ B + (m - suc t) =
    λ t l. rw (suc-add, ← add-suc base t) (omega (arith, h (suc t) (omega arith))) in
    omega (arith, first, block B f m (suc base) others, triangle m)

pub half : (x y z : ℕ) → 2 * x ≤ 2 * y + z → x ≤ y + z / 2
half x y z h = omega arith
