-- Ranges: a, a + 1, .., and what is mapped from them.
use mathlib.Core.Path.{◌≡◌, refl, sym, ap, ◌∙◌, ap₂}
use mathlib.Core.Logic.{inl, inr}
use mathlib.Core.Bool.{true, false≢true}
use mathlib.Core.List.{List, [], ◌∷◌, ◌++◌, map, map-id}
use Prim.Native.Nat.{ℕ, ◌+◌, ◌<◌, ◌≤◌, zero, suc}
use native.Mathlib.Nat.{zero-add, add-zero, suc-add, add-suc}
use native.Mathlib.Omega.{arith}
use lib.Dec.{eqb}
use lib.ListN.{length, get_or, length-map}
use lib.Seq.{ext_get_or}
use borrow.Author.Tests.{eq-eqb}
use Rattle.plan.specs.Lists.{below, up_from, is_in}
use Rattle.theory.proofs.Bools.{or_left, eq_or_ne}
use Rattle.theory.proofs.Lists.{is_in_tail, is_in_cons}

pub is_in-up_from : (k a x : ℕ) → is_in x (up_from a k) ≡ true → (a ≤ x) × (x < a + k)
is_in-up_from zero a x h = absurd (false≢true h)
is_in-up_from (suc k) a x h = elim (is_in_cons x a (up_from (suc a) k) h) [
  | inl e ↦ omega arith
  | inr t ↦ omega (arith, is_in-up_from k (suc a) x t)
]

pub up_from-is_in : (k a x : ℕ) → a ≤ x → x < a + k → is_in x (up_from a k) ≡ true
up_from-is_in zero a x le lt = absurd (omega arith)
up_from-is_in (suc k) a x le lt = elim (eq_or_ne x a) [
  | inl s ↦ or_left (eqb x a) _ (eq-eqb x a s)
  | inr s ↦ is_in_tail x a (up_from (suc a) k) (up_from-is_in k (suc a) x (omega arith) (omega arith))
]

pub is_in-below : (n x : ℕ) → is_in x (below n) ≡ true → x < n
is_in-below n x h = let p = is_in-up_from n 0 x h in omega arith

pub below-is_in : (n x : ℕ) → x < n → is_in x (below n) ≡ true
below-is_in n x lt = up_from-is_in n 0 x (omega arith) (omega arith)

pub length-up_from : (k a : ℕ) → length (up_from a k) ≡ k
length-up_from zero a = refl
length-up_from (suc k) a = ap suc (length-up_from k (suc a))

pub up_from_add : (a k m : ℕ) → up_from a (k + m) ≡ up_from a k ++ up_from (a + k) m
up_from_add a zero m = simp (zero-add, add-zero)
up_from_add a (suc k) m = rw (suc-add, add-suc) (ap (λ (l : List ℕ). a ∷ l) (up_from_add (suc a) k m ∙ simp suc-add))

-- one more at the end
pub up_from_snoc : (a k : ℕ) → up_from a (suc k) ≡ up_from a k ++ ((a + k) ∷ [])
up_from_snoc a zero = rw add-zero
up_from_snoc a (suc k) = ap (λ (l : List ℕ). a ∷ l) (up_from_snoc (suc a) k ∙ simp (suc-add, add-suc))

module _ {A : Type 0} where
  pub get_or-map-up_from : (h : ℕ → A) (d : A) (k a i : ℕ) → i < k → get_or (map h (up_from a k)) i d ≡ h (a + i)
  get_or-map-up_from h d zero a i lt = absurd (omega arith)
  get_or-map-up_from h d (suc k) a zero lt = ap h (omega arith)
  get_or-map-up_from h d (suc k) a (suc i) lt = get_or-map-up_from h d k (suc a) i (omega arith) ∙ ap h (omega arith)

  pub get_or-map-below : (h : ℕ → A) (d : A) (n i : ℕ) → i < n → get_or (map h (below n)) i d ≡ h i
  get_or-map-below h d n i lt = get_or-map-up_from h d n 0 i lt ∙ ap h (omega arith)

  pub length-map-up_from : (h : ℕ → A) (k a : ℕ) → length (map h (up_from a k)) ≡ k
  length-map-up_from h k a = length-map (up_from a k) h ∙ length-up_from k a

  pub map_ext_up_from : (f g : ℕ → A) (k a : ℕ) → ((i : ℕ) → a ≤ i → i < a + k → f i ≡ g i) → map f (up_from a k) ≡ map g (up_from a k)
  map_ext_up_from f g zero a h = refl
  map_ext_up_from f g (suc k) a h = ap₂ (λ (x : A) (l : List A). x ∷ l) (h a (omega arith) (omega arith)) (map_ext_up_from f g k (suc a) (λ i l m. h i (omega arith) (omega arith)))

  -- what is mapped from a range one further on
  pub map-up_from_suc : (f : ℕ → A) (k a : ℕ) → map f (up_from (suc a) k) ≡ map (λ i. f (suc i)) (up_from a k)
  map-up_from_suc f zero a = refl
  map-up_from_suc f (suc k) a = ap (λ (l : List A). f (suc a) ∷ l) (map-up_from_suc f k (suc a))

-- number i of 0, 1, .. is i
pub get_or-below : (n i : ℕ) → i < n → get_or (below n) i 0 ≡ i
get_or-below n i lt = ap (λ (l : List ℕ). get_or l i 0) (sym (map-id (below n))) ∙ get_or-map-below (λ k. k) 0 n i lt

-- a list is its elements place by place
pub map-get_or : (l : List ℕ) → map (λ i. get_or l i 0) (below (length l)) ≡ l
map-get_or l = ext_get_or 0 (map (λ i. get_or l i 0) (below (length l))) l (length-map-up_from (λ i. get_or l i 0) (length l) 0)
    (λ i h. get_or-map-below (λ i. get_or l i 0) 0 (length l) i (omega (arith, length-map-up_from (λ i. get_or l i 0) (length l) 0)))
