-- The words of the rest of a line, by the bytes: what stands behind spaces and tabs is a word or the line's end.
use mathlib.Core.Path.{◌≡◌, refl, sym, ap, ◌∙◌}
use mathlib.Core.Logic.{inl, inr}
use mathlib.Core.Bool.{Bool, true, false, not, cond, false≢true}
use mathlib.Core.List.{List, [], ◌∷◌, map}
use Prim.Native.Nat.{ℕ, ◌≤◌, ◌<◌}
use native.Mathlib.Omega.{arith}
use lib.Dec.{eqb}
use lib.ListN.{length, drop}
use borrow.Author.Tests.{eqb-true, ne_eqb, leb-true, not-true}
use Rattle.plan.specs.Lists.{keep, same}
use Rattle.plan.specs.MatrixMarket.{split, not_empty, is_blank, is_digit, words_of, Line, lower, is_comment}
use Rattle.theory.proofs.Bools.{or_cases, or_right, or_neither, and_left, tested, refuted}
use Rattle.lexer.specs.Suffixes.{starts, line_ends, word_ends, up_to, from, rest_of_line, not_blank, behind_blanks, first_is_word}
use Rattle.lexer.proofs.Cuts.{from_here, up_to_here, from_stops}

-- a blank ends no line
pub blank-inside : (b : ℕ) (t : List ℕ) → is_blank b ≡ true → line_ends (b ∷ t) ≡ false
blank-inside b t h = elim (or_cases (eqb b 32) (eqb b 9) h) [ inl e ↦ rw (eqb-true b 32 e) | inr e ↦ rw (eqb-true b 9 e) ]

-- a digit ends no word
pub digit_inside : (b : ℕ) (t : List ℕ) → is_digit b ≡ true → word_ends (b ∷ t) ≡ false
digit_inside b t h =
    let low : 48 ≤ b = leb-true 48 b (and_left _ _ h) in
    rw (ne_eqb b 32 (λ e. omega arith), ne_eqb b 9 (λ e. omega arith), ne_eqb b 10 (λ e. omega arith), ne_eqb b 13 (λ e. omega arith))

-- blanks in front are no part of a word
words_blank : (t : List ℕ) → words_of (rest_of_line t) ≡ words_of (rest_of_line (behind_blanks t))
unfolding words_of
words_blank [] = refl
words_blank (b ∷ t) = go (is_blank b) refl (words_blank t)
  where
    go : (s : Bool) → is_blank b ≡ s → words_of (rest_of_line t) ≡ words_of (rest_of_line (behind_blanks t)) → words_of (rest_of_line (b ∷ t)) ≡ words_of (rest_of_line (cond (not s) (b ∷ t) (behind_blanks t)))
    go true e ih = rw (blank-inside b t e, e) ih
    go false e ih = refl

-- the first piece between blanks reaches to the word's end
pieces : (t : List ℕ) → split is_blank (rest_of_line t) ≡ up_to word_ends t ∷ drop 1 (split is_blank (rest_of_line (from word_ends t)))
pieces [] = refl
pieces (b ∷ t) = go (is_blank b) (line_ends (b ∷ t)) refl refl (pieces t)
  where
    go : (s l : Bool) → is_blank b ≡ s → line_ends (b ∷ t) ≡ l → split is_blank (rest_of_line t) ≡ up_to word_ends t ∷ drop 1 (split is_blank (rest_of_line (from word_ends t)))
        → split is_blank (rest_of_line (b ∷ t)) ≡ up_to word_ends (b ∷ t) ∷ drop 1 (split is_blank (rest_of_line (from word_ends (b ∷ t))))
    go true l e f ih = rw (e, blank-inside b t e, e)
    go false true e f ih = rw (e, f, f)
    go false false e f ih = rw (f, e, ih)

-- behind a word the first piece is empty
words_behind : (t : List ℕ) → word_ends t ≡ true → words_of (rest_of_line t) ≡ keep not_empty (drop 1 (split is_blank (rest_of_line t)))
unfolding words_of
words_behind t h = ap (keep not_empty) (rw (up_to_here word_ends t h, from_here word_ends t h) at (pieces t))

-- the words by the first of them, of a line that begins with no blank
abbrev pub first_words : List ℕ → Line
first_words t = cond (line_ends t) [] (up_to word_ends t ∷ words_of (rest_of_line (from word_ends t)))

-- a byte that is no blank begins a word where the line goes on
word_begins : (b : ℕ) (t : List ℕ) → not_blank (b ∷ t) ≡ true → line_ends (b ∷ t) ≡ false → first_words (b ∷ t) ≡ (b ∷ up_to word_ends t) ∷ words_of (rest_of_line (from word_ends t))
word_begins b t h f = let inside : word_ends (b ∷ t) ≡ false = or_neither (is_blank b) _ (not-true _ h) f in rw (inside, f)

words_word : (t : List ℕ) → not_blank t ≡ true → words_of (rest_of_line t) ≡ first_words t
unfolding words_of
words_word [] h = refl
words_word (b ∷ t) h = elim (tested (line_ends (b ∷ t))) [
  | inl f ↦ rw f
  | inr f ↦ (let inside : word_ends (b ∷ t) ≡ false = or_neither (is_blank b) _ (not-true _ h) f in
      ap (keep not_empty) (rw inside at (pieces (b ∷ t)))
      ∙ ap (λ (ws : Line). (b ∷ up_to word_ends t) ∷ ws) (sym (words_behind (from word_ends t) (from_stops word_ends refl t)))
      ∙ sym (word_begins b t h f))
]

-- and of any line
pub words_first : (t : List ℕ) → words_of (rest_of_line t) ≡ first_words (behind_blanks t)
words_first t = words_blank t ∙ words_word (behind_blanks t) (from_stops not_blank refl t)

-- what is asked of the first word
pub words_some : (t : List ℕ) → not_empty (first_words t) ≡ not (line_ends t)
words_some t = go (line_ends t)
  where
    go : (l : Bool) → not_empty (cond l [] (up_to word_ends t ∷ words_of (rest_of_line (from word_ends t)))) ≡ not l
    go true = refl
    go false = refl

pub words_comment : (t : List ℕ) → not_blank t ≡ true → is_comment (first_words t) ≡ starts (λ b. eqb b 37) t
words_comment [] h = refl
words_comment (b ∷ t) h = elim (tested (line_ends (b ∷ t))) [
  | inl f ↦ rw f (sym (refuted (eqb b 37) (λ e. false≢true (rw (eqb-true b 37 e) at f))))
  | inr f ↦ ap is_comment (word_begins b t h f)
]

pub words_keyword : (word t : List ℕ) → 0 < length word → first_is_word word (first_words t) ≡ same (map lower (up_to word_ends t)) word
words_keyword [] t h = absurd (omega arith)
words_keyword (w ∷ word) t h = elim (tested (line_ends t)) [
  | inl f ↦ rw (f, up_to_here word_ends t (or_right (starts is_blank t) _ f))
  | inr f ↦ rw f
]
