-- Tests over lists of any elements, one list behind the other or one element more.
use mathlib.Core.Path.{◌≡◌, refl, sym, ap}
use mathlib.Core.Bool.{Bool, true, false, not, cond, ◌&&◌, ◌||◌, false≢true, or_assoc}
use mathlib.Core.List.{List, [], ◌∷◌, ◌++◌, map}
use Prim.Native.Nat.{ℕ, zero, suc, ◌+◌, ◌<◌}
use native.Mathlib.Omega.{arith}
use lib.ListN.{length, get_or}
use Rattle.plan.specs.Lists.{exists, every, keep}
use Rattle.theory.proofs.Bools.{or_left, or_right, or_false_left, or_false_right, or_neither}

module _ {A : Type 0} where
  pub some-append : (p : A → Bool) (xs ys : List A) → exists p (xs ++ ys) ≡ (exists p xs || exists p ys)
  some-append p [] ys = refl
  some-append p (x ∷ xs) ys = rw (some-append p xs ys) (sym (or_assoc (p x) (exists p xs) (exists p ys)))

  pub all_append : (p : A → Bool) (xs ys : List A) → every p (xs ++ ys) ≡ (every p xs && every p ys)
  all_append p [] ys = refl
  all_append p (x ∷ xs) ys = go (p x) (all_append p xs ys)
    where
      go : (b : Bool) → every p (xs ++ ys) ≡ (every p xs && every p ys) → (b && every p (xs ++ ys)) ≡ ((b && every p xs) && every p ys)
      go true e = e
      go false e = refl

  pub kept_append : (p : A → Bool) (xs ys : List A) → keep p (xs ++ ys) ≡ keep p xs ++ keep p ys
  kept_append p [] ys = refl
  kept_append p (x ∷ xs) ys = go (p x) (kept_append p xs ys)
    where
      go : (b : Bool) → keep p (xs ++ ys) ≡ keep p xs ++ keep p ys → cond b (x ∷ keep p (xs ++ ys)) (keep p (xs ++ ys)) ≡ cond b (x ∷ keep p xs) (keep p xs) ++ keep p ys
      go true e = ap (λ (l : List A). x ∷ l) e
      go false e = e

  -- no element of the front passes, and none of the rest
  pub none-front : (p : A → Bool) (x : A) (xs : List A) → exists p (x ∷ xs) ≡ false → p x ≡ false
  none-front p x xs h = or_false_left (p x) _ h

  pub none_rest : (p : A → Bool) (x : A) (xs : List A) → exists p (x ∷ xs) ≡ false → exists p xs ≡ false
  none_rest p x xs h = or_false_right (p x) _ h

  -- an element by its place
  pub some_at : (p : A → Bool) (l : List A) (d : A) (i : ℕ) → i < length l → p (get_or l i d) ≡ true → exists p l ≡ true
  some_at p [] d i lt h = absurd (omega arith)
  some_at p (x ∷ xs) d zero lt h = or_left (p x) _ h
  some_at p (x ∷ xs) d (suc i) lt h = or_right (p x) _ (some_at p xs d i (omega arith) h)

  pub none_at : (p : A → Bool) (l : List A) (d : A) → ((i : ℕ) → i < length l → p (get_or l i d) ≡ false) → exists p l ≡ false
  none_at p [] d h = refl
  none_at p (x ∷ xs) d h = or_neither (p x) _ (h 0 (omega arith)) (none_at p xs d (λ i lt. h (suc i) (omega arith)))

  -- a test of mapped elements
  pub some-map : {B : Type 0} (p : B → Bool) (f : A → B) (l : List A) → exists p (map f l) ≡ exists (λ x. p (f x)) l
  some-map p f [] = refl
  some-map p f (x ∷ l) = ap (λ (b : Bool). p (f x) || b) (some-map p f l)

  -- something passes exactly where some are kept
  pub some-kept : (p : A → Bool) (l : List A) → exists p l ≡ true → 0 < length (keep p l)
  some-kept p [] h = absurd (false≢true h)
  some-kept p (x ∷ l) h = go (p x) h (some-kept p l)
    where
      go : (b : Bool) → (b || exists p l) ≡ true → (exists p l ≡ true → 0 < length (keep p l)) → 0 < length (cond b (x ∷ keep p l) (keep p l))
      go true h ih = omega arith
      go false h ih = ih h

  pub kept-some : (p : A → Bool) (l : List A) → 0 < length (keep p l) → exists p l ≡ true
  kept-some p [] h = absurd (omega arith)
  kept-some p (x ∷ l) h = go (p x) h (kept-some p l)
    where
      go : (b : Bool) → 0 < length (cond b (x ∷ keep p l) (keep p l)) → (0 < length (keep p l) → exists p l ≡ true) → (b || exists p l) ≡ true
      go true h ih = refl
      go false h ih = ih h

  -- nothing that passes is kept where nothing passes
  pub none_kept : (p q : A → Bool) (l : List A) → exists p l ≡ false → exists p (keep q l) ≡ false
  none_kept p q [] h = refl
  none_kept p q (x ∷ l) h = go (q x) (none_kept p q l (none_rest p x l h))
    where
      go : (b : Bool) → exists p (keep q l) ≡ false → exists p (cond b (x ∷ keep q l) (keep q l)) ≡ false
      go true e = rw (none-front p x l h) e
      go false e = e

  -- those that pass and those that do not are all
  pub kept-apart : (p : A → Bool) (l : List A) → length l ≡ length (keep p l) + length (keep (λ x. not (p x)) l)
  kept-apart p [] = refl
  kept-apart p (x ∷ l) = go (p x) (kept-apart p l)
    where
      go : (b : Bool) → length l ≡ length (keep p l) + length (keep (λ x. not (p x)) l)
          → length (x ∷ l) ≡ length (cond b (x ∷ keep p l) (keep p l)) + length (cond (not b) (x ∷ keep (λ x. not (p x)) l) (keep (λ x. not (p x)) l))
      go true e = omega (arith, e)
      go false e = omega (arith, e)
