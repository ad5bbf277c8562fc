-- The decimal digits of a number: those of its tenth and its last, how many there are, and numbers behind spaces.
use mathlib.Core.Path.{◌≡◌, refl, sym, ap, ◌∙◌}
use mathlib.Core.Logic.{inl, inr}
use mathlib.Core.Bool.{true}
use mathlib.Core.List.{List, [], ◌∷◌, ◌++◌}
use Prim.Native.Nat.{ℕ, suc, ◌+◌, ◌*◌, ◌/◌, ◌%◌, ◌^◌, ◌≤◌, ◌<◌}
use native.Mathlib.Omega.{arith}
use lib.Dec.{ltb}
use lib.ListN.{length, length-append}
use borrow.Author.Tests.{lt-ltb, le-ltb}
use Rattle.plan.specs.Lists.{is_in}
use Rattle.plan.specs.Listing.{decimal_up_to, decimal, spaced}
use Rattle.theory.proofs.Bools.{cond_true, cond_false, lt_or_le}
use Rattle.theory.proofs.Lists.{is_in-head, is_in_tail}
use Rattle.theory.proofs.Decimal.{decimal-whole}
use Rattle.std.specs.Fmt.{decimal as printed}
use Rattle.std.proofs.lemmas.Fmt.{decimal_by_steps}
use Rattle.text.proofs.Sequences.{texts, texts-none, texts_one, texts-append}

-- a number below 10 is a digit
pub decimal_one : (x : ℕ) → x < 10 → decimal x ≡ (48 + x) ∷ []
unfolding decimal_up_to
decimal_one x h =
    sym (decimal-whole x (suc x) (omega arith))
    ∙ cond_true (ltb x 10) ((48 + x) ∷ []) (decimal_up_to x (x / 10) ++ ((48 + x % 10) ∷ [])) (lt-ltb x 10 h)

-- and every other has the digits of its tenth before its last
pub decimal_more : (x : ℕ) → 10 ≤ x → decimal x ≡ decimal (x / 10) ++ ((48 + x % 10) ∷ [])
unfolding decimal_up_to
decimal_more x h =
    sym (decimal-whole x (suc x) (omega arith))
    ∙ cond_false (ltb x 10) ((48 + x) ∷ []) (decimal_up_to x (x / 10) ++ ((48 + x % 10) ∷ [])) (le-ltb x 10 h)
    ∙ ap (λ (l : List ℕ). l ++ ((48 + x % 10) ∷ [])) (decimal-whole (x / 10) x (omega arith))

-- one more than its tenth
pub decimal-length : (x : ℕ) → 10 ≤ x → length (decimal x) ≡ length (decimal (x / 10)) + 1
decimal-length x h = ap length (decimal_more x h) ∙ length-append (decimal (x / 10)) ((48 + x % 10) ∷ [])

-- it is what a number prints
pub decimal_printed : (x : ℕ) → x < 2 ^ 64 → printed x ≡ decimal x
decimal_printed = decimal_by_steps (λ x digits. digits ≡ decimal x) (λ x h. sym (decimal_one x h)) (λ x digits h same. rw same (sym (decimal_more x h)))

-- ---- at most how many

-- numbers below b have at most k digits
abbrev Digits : ℕ → ℕ → Type 0
Digits b k = (x : ℕ) → x < b → length (decimal x) ≤ k

-- those below ten times b then have at most one more
digits_more : (b k : ℕ) → Digits b k → Digits (10 * b) (suc k)
digits_more b k h x lt = elim (lt_or_le x 10) [
  | inl l ↦ omega (arith, ap length (decimal_one x l))
  | inr l ↦ omega (arith, decimal-length x l, h (x / 10) (omega arith))
]

digits_one : Digits 10 1
digits_one x lt = omega (arith, ap length (decimal_one x lt))

pub digits_three : (x : ℕ) → x < 1000 → length (decimal x) ≤ 3
digits_three = digits_more 100 2 (digits_more 10 1 digits_one)

pub digits_five : (x : ℕ) → x < 100000 → length (decimal x) ≤ 5
digits_five = digits_more 10000 4 (digits_more 1000 3 digits_three)

-- ---- behind spaces

-- a number behind a space
abbrev pub spaced_one : ℕ → List ℕ
spaced_one x = 32 ∷ decimal x

pub spaced_one_lem : (x : ℕ) → spaced (x ∷ []) ≡ spaced_one x
unfolding spaced
spaced_one_lem x = texts_one spaced_one x

-- numbers, each behind a space
pub spaced-texts : (l : List ℕ) → texts spaced_one l ≡ spaced l
unfolding spaced
spaced-texts l = refl

-- of numbers below 1,000, at most four bytes each
pub spaced-few : (l : List ℕ) → ((x : ℕ) → is_in x l ≡ true → x < 1000) → length (spaced l) ≤ 4 * length l
unfolding spaced
spaced-few [] h = omega (arith, ap length (texts-none spaced_one))
spaced-few (x ∷ l) h =
    omega (
      arith,
      ap length (texts-append spaced_one (x ∷ []) l),
      length-append (texts spaced_one (x ∷ [])) (texts spaced_one l),
      ap length (texts_one spaced_one x),
      digits_three x (h x (is_in-head x l)),
      spaced-few l (λ y m. h y (is_in_tail y x l m)),
    )
