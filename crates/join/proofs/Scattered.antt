-- Numbers stored at the places that a list names, none of them twice: what an array holds after some of the stores, and after all.
use mathlib.Core.Path.{◌≡◌, refl, sym, ap, ◌∙◌}
use mathlib.Core.Logic.{◌≢◌, inl, inr}
use mathlib.Core.Bool.{false, cond, ◌||◌, or-false}
use mathlib.Core.List.{List}
use Prim.Native.Nat.{ℕ, ◌+◌, ◌≤◌, ◌<◌}
use native.Mathlib.Omega.{arith}
use lib.Dec.{eqb}
use lib.ListN.{length, take, get_or, set, length-set}
use lib.Seq.{take_all}
use borrow.Author.Tests.{eq-eqb, ne_eqb}
use Rattle.plan.specs.Lists.{is_in, index_of, twice}
use Rattle.theory.proofs.Bools.{or_right, tested, cond_true, cond_false}
use Rattle.theory.proofs.Lists.{exists_more, index_of_out}
use Rattle.theory.proofs.Twice.{once_index}
use Rattle.layout.proofs.Stores.{get_or-set_cases}

-- at each of the first k places stands its value, and what is at no such place is as found
pub record Scattered (places : List ℕ) (value : ℕ → ℕ) (found : List ℕ) (k : ℕ) (left : List ℕ) : Type 0 where
  pub long : length left ≡ length found
  pub each : (x : ℕ) → get_or left x 0 ≡ cond (is_in x (take k places)) (value (index_of x places)) (get_or found x 0)

-- before the first store
pub scattered_none : (places : List ℕ) (value : ℕ → ℕ) (found : List ℕ) → Scattered places value found 0 found
scattered_none places value found = record { long = refl; each = λ x. refl }

module _ {places : List ℕ} {value : ℕ → ℕ} {found : List ℕ} {k : ℕ} {left : List ℕ} (h : Scattered places value found k left) where
  -- one store more
  pub scattered_more : twice places ≡ false → (place v : ℕ) → k < length places → place ≡ get_or places k 0 → place < length found → v ≡ value k
      → Scattered places value found (k + 1) (set left place v)
  scattered_more once place v more own inside is = record {
    long = length-set left place v ∙ h.long;
    each = λ x. get_or-set_cases (λ y. y ≡ cond (is_in x (take (k + 1) places)) (value (index_of x places)) (get_or found x 0)) left place v x (omega (arith, h.long))
        (λ e. here x (e ∙ own))
        (λ e. there x (λ q. e (q ∙ sym own)));
  }
    where
      split : (x : ℕ) → is_in x (take (k + 1) places) ≡ (is_in x (take k places) || eqb x (get_or places k 0))
      split x = exists_more (eqb x) places k more

      here : (x : ℕ) → x ≡ get_or places k 0 → v ≡ cond (is_in x (take (k + 1) places)) (value (index_of x places)) (get_or found x 0)
      here x e =
          let stored = split x ∙ or_right (is_in x (take k places)) _ (eq-eqb x (get_or places k 0) e) in
          let at : index_of x places ≡ k = ap (λ (y : ℕ). index_of y places) e ∙ once_index places once k more in
          is ∙ sym (cond_true (is_in x (take (k + 1) places)) _ _ stored ∙ ap value at)

      there : (x : ℕ) → x ≢ get_or places k 0 → get_or left x 0 ≡ cond (is_in x (take (k + 1) places)) (value (index_of x places)) (get_or found x 0)
      there x ne = rw (split x, ne_eqb x (get_or places k 0) ne, or-false (is_in x (take k places))) (h.each x)

  -- after the last
  pub scattered_all : length places ≤ k → (x : ℕ) → get_or left x 0 ≡ cond (is_in x places) (value (index_of x places)) (get_or found x 0)
  scattered_all end x = rw (take_all k places end) at (h.each x)

-- after the index of each entry of a list has been stored where the entry says, over the length of the list, the array tells the index of a number
pub scattered_indices : {l found left : List ℕ} {k : ℕ} → Scattered l (λ i. i) found k left → length l ≤ k → (x : ℕ) → get_or found x 0 ≡ length l → get_or left x 0 ≡ index_of x l
scattered_indices {l} h end x out = scattered_all h end x ∙ elim (tested (is_in x l)) [
  | inl t ↦ cond_true (is_in x l) _ _ t
  | inr f ↦ cond_false (is_in x l) _ _ f ∙ out ∙ sym (index_of_out l x f)
]
