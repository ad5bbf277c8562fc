-- Numbers of a text: the value of digits as they are read, and whether the next word is a number.
use mathlib.Core.Path.{◌≡◌, refl, sym, ap, ◌∙◌}
use mathlib.Core.Logic.{inl, inr}
use mathlib.Core.Bool.{Bool, true, false, not, cond, ◌&&◌}
use mathlib.Core.List.{List, [], ◌∷◌, ◌++◌}
use Prim.Native.Nat.{ℕ, ◌+◌, ◌-◌, ◌*◌, ◌≤◌, ◌<◌, min}
use native.Mathlib.Omega.{arith}
use lib.Dec.{leb, eqb}
use lib.ListN.{length, length-drop, get_or, take, drop}
use lib.Seq.{get_or-drop}
use borrow.Author.Tests.{eqb-true, eqb-false, not-true, not-false}
use Rattle.plan.specs.Lists.{every, segment}
use Rattle.plan.specs.MatrixMarket.{is_blank, words_of, Line, is_digit, is_number, max_number, value_from, value_of, number_at}
use Rattle.theory.proofs.Bools.{or_right, or_neither, tested, clash, refuted, cond_true, cond_false}
use Rattle.theory.proofs.Lists.{take_more}
use Rattle.lexer.specs.Suffixes.{starts, line_ends, word_ends, up_to, from, rest_of_line, not_digit, behind_blanks, behind_letters, behind_digits, words_at, At, first_is_number}
use Rattle.lexer.proofs.Cuts.{from_here, from-from, up_to-segment}
use Rattle.lexer.proofs.Words.{digit_inside}
use Rattle.lexer.proofs.Suffixes.{words_at_lem, not_blank_at}

-- ---- the value of digits

value_more : (v : ℕ) (a : List ℕ) (d : ℕ) → value_from v (a ++ (d ∷ [])) ≡ 10 * value_from v a + (d - 48)
value_more v [] d = refl
value_more v (x ∷ a) d = value_more (10 * v + (x - 48)) a d

-- one digit more, counted up to a limit
pub value-next : (limit : ℕ) (text : List ℕ) (at i v : ℕ) → at ≤ i → i < length text → v ≡ min limit (value_of (segment text at i))
    → min limit (10 * v + (get_or text i 0 - 48)) ≡ min limit (value_of (segment text at (i + 1)))
value-next limit text at i v le lt e =
    let z : i + 1 - at ≡ i - at + 1 = omega arith in
    let y : at + (i - at) ≡ i = omega arith in
    let more : value_of (segment text at (i + 1)) ≡ 10 * value_of (segment text at i) + (get_or text i 0 - 48) =
    ap (λ (k : ℕ). value_of (take k (drop at text))) z
    ∙ ap value_of (take_more (drop at text) (i - at) 0 (omega (arith, length-drop at text)))
    ∙ value_more 0 (segment text at i) (get_or (drop at text) (i - at) 0)
    ∙ ap (λ (d : ℕ). 10 * value_of (segment text at i) + (d - 48)) (get_or-drop at text (i - at) 0 ∙ ap (λ (k : ℕ). get_or text k 0) y) in
    rw more (omega (arith, e))

-- ---- whether the next word is a number

-- where a word ends there is no digit
ends_digits : (t : List ℕ) → word_ends t ≡ true → not_digit t ≡ true
ends_digits [] h = refl
ends_digits (b ∷ t) h = ap not (refuted (is_digit b) (λ d. clash (word_ends (b ∷ t)) h (digit_inside b t d)))

-- a word is of digits where it ends behind the digits in front
digits_only : (t : List ℕ) → every is_digit (up_to word_ends t) ≡ word_ends (from not_digit t)
digits_only [] = refl
digits_only (b ∷ t) = go (is_digit b) refl (digits_only t)
  where
    go : (d : Bool) → is_digit b ≡ d → every is_digit (up_to word_ends t) ≡ word_ends (from not_digit t) → every is_digit (up_to word_ends (b ∷ t)) ≡ word_ends (cond (not d) (b ∷ t) (from not_digit t))
    go true e ih = rw (digit_inside b t e, e) ih
    go false e ih = elim (tested (word_ends (b ∷ t))) [ inl w ↦ rw w | inr w ↦ rw (w, e) ]

-- by the place i behind blanks and e behind digits
module _ (text : List ℕ) (at i e : ℕ) (blanks : At text i (behind_blanks (drop at text))) (digits : At text e (behind_digits (drop i text))) where
  -- where a word ends behind the digits, they are the word
  pub digits_end : word_ends (drop e text) ≡ true → At text e (behind_letters (drop i text))
  digits_end w =
      (digits.0, sym (from_here word_ends (drop e text) w) ∙ ap (from word_ends) digits.1 ∙ from-from word_ends not_digit (λ b u h. digit_inside b u (not-false _ h)) (drop i text))

  digits_word : word_ends (drop e text) ≡ true → segment text i e ≡ up_to word_ends (drop i text)
  digits_word w = up_to-segment word_ends text i e blanks.0 (digits_end w)

  is_number_lem : is_number (up_to word_ends (drop i text)) ≡ (word_ends (drop e text) && leb (value_of (segment text i e)) max_number)
  unfolding is_number
  is_number_lem =
      ap (λ (b : Bool). b && leb (value_of (up_to word_ends (drop i text))) max_number) (digits_only (drop i text) ∙ ap word_ends (sym digits.1))
      ∙ elim (tested (word_ends (drop e text))) [
        | inl w ↦ ap (λ (l : List ℕ). word_ends (drop e text) && leb (value_of l) max_number) (sym (digits_word w))
        | inr w ↦ rw w
      ]

  -- there is a digit where the word's place and the place behind digits differ, and the line goes on there
  goes_on : eqb e i ≡ false → line_ends (drop i text) ≡ false
  goes_on h = refuted (line_ends (drop i text)) (λ l.
      let same = digits.1 ∙ from_here not_digit (drop i text) (ends_digits (drop i text) (or_right (starts is_blank (drop i text)) _ l)) in
      eqb-false e i h (omega (arith, blanks.0, digits.0, ap length same, length-drop e text, length-drop i text)))

  -- the first word where the line goes on
  word_first : line_ends (drop i text) ≡ false → words_at text at ≡ up_to word_ends (drop i text) ∷ words_of (rest_of_line (behind_letters (drop i text)))
  word_first f = words_at_lem text at i blanks ∙ cond_false (line_ends (drop i text)) [] _ f

  -- with no digit in front there is no number
  no_digit : e ≡ i → first_is_number (words_at text at) ≡ false
  no_digit s = elim (tested (line_ends (drop i text))) [
    | inl f ↦ ap first_is_number (words_at_lem text at i blanks ∙ cond_true (line_ends (drop i text)) [] _ f)
    | inr f ↦ (let word : word_ends (drop i text) ≡ false = or_neither (starts is_blank (drop i text)) _ (not-true _ (not_blank_at text at i blanks)) f in
        ap first_is_number (word_first f) ∙ is_number_lem ∙ rw (s, word))
  ]

  pub number-found : first_is_number (words_at text at) ≡ (not (eqb e i) && (word_ends (drop e text) && leb (value_of (segment text i e)) max_number))
  number-found = elim (tested (eqb e i)) [
    | inl s ↦ rw s (no_digit (eqb-true e i s))
    | inr s ↦ rw s (ap first_is_number (word_first (goes_on s)) ∙ is_number_lem)
  ]

  pub number-value : eqb e i ≡ false → word_ends (drop e text) ≡ true → number_at (words_at text at) 0 ≡ value_of (segment text i e)
  number-value s w = ap (λ (ws : Line). number_at ws 0) (word_first (goes_on s)) ∙ ap value_of (sym (digits_word w))
