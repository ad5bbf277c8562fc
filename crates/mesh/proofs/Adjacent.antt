-- What the library's tests of each number with the next say of lists that fall or ascend.
use Rattle.std.proofs.Common.{◌≡◌, ◌∙◌, sym, refl, ap, ℕ, zero, suc, ◌+◌, ◌<◌, Bool, true, false, not, List, length, get_or, ltb, arith}
use Rattle.std.proofs.Math.Numerals.{add-one}
use Rattle.std.specs.Bool.{MatchBool}
use Rattle.std.specs.List.{IsAllAdjacentAnswer}
use Rattle.std.specs.List.Sorted.{IsNonDecreasing}
use borrow.Author.Tests.{lt-ltb, le-ltb, not-true, not-false}
use Rattle.plan.specs.Lists.{below, ascending, falls}
use Rattle.theory.proofs.Lists.{none-exists}
use Rattle.theory.proofs.Ranges.{is_in-below}
use Rattle.theory.proofs.Scans.{pair_at, found_below, less, falls-pairs, not_greater, ascending-pairs}

module _ (r : ℕ → ℕ → Bool) (l : List ℕ) where
  -- no pair of neighbours passes a test, or one does
  no_pair : ((k : ℕ) → suc k < length l → r (get_or l k 0) (get_or l (suc k) 0) ≡ false) → (i : ℕ) → i < length l → pair_at r l i ≡ false
  no_pair h zero lt = refl
  no_pair h (suc i) lt = h i lt

  a_pair : (k : ℕ) → k + 1 < length l → r (get_or l k 0) (get_or l (k + 1) 0) ≡ true → pair_at r l (k + 1) ≡ true
  a_pair k lt h = rw add-one (rw add-one at h)

-- a list that is not sorted falls
pub falls_unsorted : (l : List ℕ) (r : Bool) → MatchBool r (IsNonDecreasing l) ((k : ℕ) × (k + 1 < length l) × ((d : ℕ) → get_or l (k + 1) d < get_or l k d)) → falls l ≡ not r
falls_unsorted l true h =
    falls-pairs l ∙ none-exists (pair_at less l) (below (length l)) (λ i m. no_pair less l (λ k lt. le-ltb _ _ (h k (suc k) 0 (omega arith) lt)) i (is_in-below (length l) i m))
falls_unsorted l false (k, lt, h) = falls-pairs l ∙ found_below (pair_at less l) (length l) (k + 1) lt (a_pair less l k lt (lt-ltb _ _ (h 0)))

-- and one ascends exactly where each number is less than the next
pub ascending_sorted : (l : List ℕ) (r : Bool) → IsAllAdjacentAnswer (λ x y b. b ≡ ltb x y) l r → ascending l ≡ r
ascending_sorted l true h =
    let told : (k : ℕ) → suc k < length l → not_greater (get_or l k 0) (get_or l (suc k) 0) ≡ false = λ k lt. (let e : k + 1 < length l = omega arith in rw add-one at (ap not (sym (h k 0 e)))) in
    not-false (ascending l) (ascending-pairs l ∙ none-exists (pair_at not_greater l) (below (length l)) (λ i m. no_pair not_greater l told i (is_in-below (length l) i m)))
ascending_sorted l false (k, lt, h) = not-true (ascending l) (ascending-pairs l ∙ found_below (pair_at not_greater l) (length l) (k + 1) lt (a_pair not_greater l k lt (ap not (sym (h 0)))))
