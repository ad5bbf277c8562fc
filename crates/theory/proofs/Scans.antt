-- Scans: loops that try places 0, 1, .. in turn and end at the first that passes a test.
use mathlib.Core.Path.{◌≡◌, refl, sym, ap, ◌∙◌}
use mathlib.Core.Logic.{inl, inr}
use mathlib.Core.Bool.{Bool, true, false, not, ◌&&◌, ◌||◌}
use mathlib.Core.List.{List, [], ◌∷◌, head_d}
use Prim.Native.Nat.{ℕ, zero, suc, ◌+◌, ◌-◌, ◌≤◌, ◌<◌}
use native.Mathlib.Nat.{zero-add}
use native.Mathlib.Numerals.{add-one}
use native.Mathlib.Omega.{arith}
use lib.Dec.{ltb}
use lib.ListN.{length, get_or, drop, drop_of_length-le}
use lib.Seq.{drop-cons}
use borrow.Author.Tests.{not-false}
use Rattle.plan.specs.Lists.{exists, every, keep, up_from, below, is_in, ascending, falls}
use Rattle.theory.proofs.Bools.{clash, refuted, eq_or_ne, cond_true, cond_false}
use Rattle.theory.proofs.Lists.{every-is_in, is_in-every, is_in-exists, exists-none, none-exists, exists-append, exists-map, is_in-get_or}
use Rattle.theory.proofs.Ranges.{up_from_snoc, is_in-below, below-is_in, map-get_or}

-- no place below i passes
abbrev pub Clear : (ℕ → Bool) → ℕ → Type 0
Clear p i = exists p (below i) ≡ false

module _ (p : ℕ → Bool) where
  -- one place more
  pub exists-next : (i : ℕ) → exists p (below (i + 1)) ≡ (exists p (below i) || p i)
  exists-next i =
      ap (exists p) (ap below (add-one i) ∙ up_from_snoc 0 i)
      ∙ exists-append p (below i) ((0 + i) ∷ [])
      ∙ ap (λ (b : Bool). exists p (below i) || b) (or_none (p (0 + i)) ∙ ap p (zero-add i))
    where
      or_none : (b : Bool) → (b || false) ≡ b
      or_none true = refl
      or_none false = refl

  -- one more place that does not pass
  pub clear_more : (i : ℕ) → Clear p i → p i ≡ false → Clear p (i + 1)
  clear_more i h t = none-exists p (below (i + 1)) each
    where
      each : (x : ℕ) → is_in x (below (i + 1)) ≡ true → p x ≡ false
      each x m = elim (eq_or_ne x i) [
        | inl e ↦ ap p e ∙ t
        | inr e ↦ exists-none p (below i) h x (below-is_in i x (omega (arith, e, is_in-below (i + 1) x m)))
      ]

  -- a place that passes
  pub found_below : (n i : ℕ) → i < n → p i ≡ true → exists p (below n) ≡ true
  found_below n i lt t = is_in-exists p (below n) i (below-is_in n i lt) t

  -- all places were tried
  pub none_below : (n i : ℕ) → n ≤ i → Clear p i → exists p (below n) ≡ false
  none_below n i le h = none-exists p (below n) (λ x m. exists-none p (below i) h x (below-is_in i x (omega (arith, is_in-below n x m))))

-- ---- the elements of a list

-- whether the element at place i passes
abbrev pub element_at : (ℕ → Bool) → List ℕ → ℕ → Bool
element_at p l i = p (get_or l i 0)

-- an element passes where some place's element does
elements : (p : ℕ → Bool) (l : List ℕ) → exists p l ≡ exists (element_at p l) (below (length l))
elements p l = ap (exists p) (sym (map-get_or l)) ∙ exists-map p (λ i. get_or l i 0) (below (length l))

module _ (p : ℕ → Bool) (l : List ℕ) where
  -- an element that passes
  pub found_in : (i : ℕ) → i < length l → element_at p l i ≡ true → exists p l ≡ true
  found_in i lt t = is_in-exists p l (get_or l i 0) (is_in-get_or l i 0 lt) t

  -- all were tried
  pub none_in : (i : ℕ) → length l ≤ i → Clear (element_at p l) i → exists p l ≡ false
  none_in i le h = elements p l ∙ none_below (element_at p l) (length l) i le h

  -- an element that fails
  pub one_fails : (i : ℕ) → i < length l → element_at p l i ≡ false → every p l ≡ false
  one_fails i lt f = refuted (every p l) (λ h. clash (element_at p l i) (every-is_in p l h (get_or l i 0) (is_in-get_or l i 0 lt)) f)

-- whether x fails
abbrev pub fails : (ℕ → Bool) → ℕ → Bool
fails p x = not (p x)

-- all were tried, and none fails
pub none_fails : (p : ℕ → Bool) (l : List ℕ) (i : ℕ) → length l ≤ i → Clear (element_at (fails p) l) i → every p l ≡ true
none_fails p l i le h = is_in-every p l (λ x m. not-false (p x) (exists-none (fails p) l (none_in (fails p) l i le h) x m))

-- ---- the pairs of an element and the one before it

-- whether the element at place i passes with the one before it
abbrev pub pair_at : (ℕ → ℕ → Bool) → List ℕ → ℕ → Bool
pair_at r l zero = false
pair_at r l (suc i) = r (get_or l i 0) (get_or l (suc i) 0)

-- behind the first place it is the test of the two elements
pub pair_at_is : (r : ℕ → ℕ → Bool) (l : List ℕ) (i : ℕ) → 1 ≤ i → pair_at r l i ≡ r (get_or l (i - 1) 0) (get_or l i 0)
pair_at_is r l zero le = absurd (omega arith)
pair_at_is r l (suc i) le =
    let e : suc i - 1 ≡ i = omega arith in
    rw e

-- a range that starts one later, the test made one earlier
shifted : (p : ℕ → Bool) (k a : ℕ) → exists p (up_from (suc a) k) ≡ exists (λ i. p (suc i)) (up_from a k)
shifted p zero a = refl
shifted p (suc k) a = ap (λ (b : Bool). p (suc a) || b) (shifted p k (suc a))

-- a test of lists that a list passes where one of its pairs does
record OfPairs (f : List ℕ → Bool) (r : ℕ → ℕ → Bool) : Type 0 where
  none : f [] ≡ false
  one : (x : ℕ) → f (x ∷ []) ≡ false
  more : (x y : ℕ) (l : List ℕ) → f (x ∷ (y ∷ l)) ≡ (r x y || f (y ∷ l))

-- such a test by the places
pairs : (f : List ℕ → Bool) (r : ℕ → ℕ → Bool) → OfPairs f r → (l : List ℕ) → f l ≡ exists (pair_at r l) (below (length l))
pairs f r h [] = h.none
pairs f r h (x ∷ []) = h.one x
pairs f r h (x ∷ (y ∷ l)) =
    h.more x y l
    ∙ ap (λ (b : Bool). r x y || b)
    (pairs f r h (y ∷ l)
    ∙ shifted (pair_at r (y ∷ l)) (length l) 0
    ∙ sym (shifted (pair_at r (x ∷ (y ∷ l))) (length l) 1 ∙ shifted (λ i. pair_at r (x ∷ (y ∷ l)) (suc i)) (length l) 0))

-- a list falls where an element is less than the one before it
abbrev pub less : ℕ → ℕ → Bool
less x y = ltb y x

pub falls-pairs : (l : List ℕ) → falls l ≡ exists (pair_at less l) (below (length l))
falls-pairs l = pairs falls less (record { none = refl; one = λ x. refl; more = λ x y l. refl }) l

-- a list is not ascending where an element is not greater than the one before it
abbrev pub not_greater : ℕ → ℕ → Bool
not_greater x y = not (ltb x y)

not_and : (a b : Bool) → not (a && b) ≡ (not a || not b)
not_and true b = refl
not_and false b = refl

pub ascending-pairs : (l : List ℕ) → not (ascending l) ≡ exists (pair_at not_greater l) (below (length l))
ascending-pairs l = pairs (λ l. not (ascending l)) not_greater (record { none = refl; one = λ x. refl; more = λ x y l. not_and (ltb x y) (ascending (y ∷ l)) }) l

-- ---- a scan for the first element that passes, where those before place i fail

-- the element at place i fails too
pub scan_miss : (p : ℕ → Bool) (l : List ℕ) (i : ℕ) → i < length l → keep p l ≡ keep p (drop i l) → p (get_or l i 0) ≡ false → keep p l ≡ keep p (drop (i + 1) l)
scan_miss p l i h e t =
    e ∙ ap (keep p) (drop-cons l i 0 h) ∙ cond_false (p (get_or l i 0)) (get_or l i 0 ∷ keep p (drop (suc i) l)) (keep p (drop (suc i) l)) t
    ∙ ap (λ (k : ℕ). keep p (drop k l)) (sym (add-one i))

-- or it is the first that passes
pub scan_hit : (p : ℕ → Bool) (l : List ℕ) (i d : ℕ) → i < length l → keep p l ≡ keep p (drop i l) → p (get_or l i 0) ≡ true → head_d (keep p l) d ≡ get_or l i 0
unfolding head_d
scan_hit p l i d h e t =
    ap (λ (k : List ℕ). head_d k d)
    (e ∙ ap (keep p) (drop-cons l i 0 h) ∙ cond_true (p (get_or l i 0)) (get_or l i 0 ∷ keep p (drop (suc i) l)) (keep p (drop (suc i) l)) t)

-- or none is left, so that none passes
pub scan_none : (p : ℕ → Bool) (l : List ℕ) (i d : ℕ) → length l ≤ i → keep p l ≡ keep p (drop i l) → head_d (keep p l) d ≡ d
unfolding head_d
scan_none p l i d h e = ap (λ (k : List ℕ). head_d k d) (e ∙ ap (keep p) (drop_of_length-le l h))
