-- Lines and words of a text by places: the line from a place on and the lines behind it, the next word and those behind it.
use mathlib.Core.Path.{◌≡◌, refl, sym, ap, ◌∙◌}
use mathlib.Core.Bool.{Bool, true, false, cond, ◌&&◌}
use mathlib.Core.List.{List, [], ◌∷◌, map}
use Prim.Native.Nat.{ℕ, ◌<◌}
use native.Mathlib.Omega.{arith}
use lib.Dec.{eqb}
use lib.ListN.{length, length-append, length-drop, get_or, drop}
use lib.Seq.{drop-length}
use borrow.Author.Tests.{eqb-true, not-true, not-false}
use Rattle.plan.specs.Lists.{keep}
use Rattle.plan.specs.MatrixMarket.{to_first, not_empty, is_line_feed, is_blank, lines_of, words_of, Line, word_lines}
use Rattle.theory.proofs.Bools.{or_left, or_false_left, or_false_right, and_right, cond_true, cond_false}
use Rattle.lexer.specs.Suffixes.{starts, line_ends, word_ends, up_to, from, rest_of_line, not_blank, behind_line, behind_blanks, behind_word, words_at, lines_at, At}
use Rattle.lexer.proofs.Cuts.{cut, up_to_here, from-from, from_stops}
use Rattle.lexer.proofs.Words.{blank-inside, first_words, words_first, words_some}

-- ---- lines

-- a line feed ends the line
fed : (t : List ℕ) → eqb (get_or t 0 0) 10 ≡ true → line_ends t ≡ true
fed [] h = refl
fed (b ∷ t) h = or_left (is_line_feed b) _ h

-- a byte in front of the first line leaves the others
rest-same : (b : ℕ) (ls : List (List ℕ)) → drop 1 (to_first b ls) ≡ drop 1 ls
rest-same b [] = refl
rest-same b (l ∷ ls) = refl

-- whether a carriage return stands directly before a line feed
abbrev returns : ℕ → List ℕ → Bool
returns b t = eqb b 13 && eqb (get_or t 0 0) 10

-- the first line is the rest of the line
line_first : (t : List ℕ) → lines_of t ≡ rest_of_line t ∷ drop 1 (lines_of t)
unfolding lines_of
line_first [] = refl
line_first (b ∷ t) = go (is_line_feed b) (returns b t) refl refl (line_first t)
  where
    go : (f r : Bool) → is_line_feed b ≡ f → returns b t ≡ r → lines_of t ≡ rest_of_line t ∷ drop 1 (lines_of t) → lines_of (b ∷ t) ≡ rest_of_line (b ∷ t) ∷ drop 1 (lines_of (b ∷ t))
    go true r e g ih = rw (eqb-true b 10 e)
    go false true e g ih = rw (e, g) (rw (up_to_here line_ends t (fed t (and_right (eqb b 13) _ g))) at ih)
    go false false e g ih = rw (e, g, e, rest-same b (lines_of t)) (ap (to_first b) ih)

-- the lines behind it are those of the bytes behind it, but for a last one that is empty
lines-later : (t : List ℕ) → keep not_empty (map words_of (drop 1 (lines_of t))) ≡ keep not_empty (map words_of (lines_of (behind_line t)))
unfolding lines_of words_of
lines-later [] = refl
lines-later (b ∷ t) = go (is_line_feed b) (returns b t) refl refl (lines-later t)
  where
    go : (f r : Bool) → is_line_feed b ≡ f → returns b t ≡ r → keep not_empty (map words_of (drop 1 (lines_of t))) ≡ keep not_empty (map words_of (lines_of (behind_line t)))
        → keep not_empty (map words_of (drop 1 (lines_of (b ∷ t)))) ≡ keep not_empty (map words_of (lines_of (behind_line (b ∷ t))))
    go true r e g ih = rw (eqb-true b 10 e)
    go false true e g ih = rw (g, e) ih
    go false false e g ih = rw (g, e, rest-same b (lines_of t)) ih

pub first_line : (text : List ℕ) → get_or (word_lines text) 0 [] ≡ words_at text 0
unfolding word_lines words_at
first_line text = ap (λ (ls : List (List ℕ)). get_or (map words_of ls) 0 []) (line_first text)

pub later-lines : (text : List ℕ) (next : ℕ) → At text next (behind_line text) → keep not_empty (drop 1 (word_lines text)) ≡ lines_at text next
unfolding word_lines lines_at
later-lines text next at =
    ap (λ (ls : List (List ℕ)). keep not_empty (drop 1 (map words_of ls))) (line_first text)
    ∙ lines-later text
    ∙ ap (λ (t : List ℕ). keep not_empty (word_lines t)) (sym at.1)

module _ (text : List ℕ) (at next : ℕ) (behind : At text next (behind_line (drop at text))) where
  lines_step : lines_at text at ≡ cond (not_empty (words_at text at)) (words_at text at ∷ lines_at text next) (lines_at text next)
  unfolding word_lines lines_at words_at
  lines_step =
      ap (λ (ls : List (List ℕ)). keep not_empty (map words_of ls)) (line_first (drop at text))
      ∙ ap (λ (ls : List Line). cond (not_empty (words_at text at)) (words_at text at ∷ ls) ls)
      (lines-later (drop at text) ∙ ap (λ (t : List ℕ). keep not_empty (word_lines t)) (sym behind.1))

  pub lines-blank : not_empty (words_at text at) ≡ false → lines_at text at ≡ lines_at text next
  lines-blank h = lines_step ∙ cond_false (not_empty (words_at text at)) _ _ h

  pub lines_words : not_empty (words_at text at) ≡ true → lines_at text at ≡ words_at text at ∷ lines_at text next
  lines_words h = lines_step ∙ cond_true (not_empty (words_at text at)) _ _ h

-- a line that has words is the first of those that have, whatever comes behind it
pub lines-begin : (text : List ℕ) (at : ℕ) → not_empty (words_at text at) ≡ true → (later : List Line) × (lines_at text at ≡ words_at text at ∷ later)
unfolding word_lines lines_at words_at
lines-begin text at h =
    let later : List Line = keep not_empty (map words_of (drop 1 (lines_of (drop at text)))) in
    (later, ap (λ (ls : List (List ℕ)). keep not_empty (map words_of ls)) (line_first (drop at text)) ∙ cond_true (not_empty (words_at text at)) _ _ h)

pub lines_over : (text : List ℕ) → lines_at text (length text) ≡ []
unfolding lines_at word_lines lines_of words_of
lines_over text = rw (drop-length text)

pub line_passed : (text : List ℕ) (at next : ℕ) → at < length text → At text next (behind_line (drop at text)) → at < next
line_passed text at next lt behind =
    let t : List ℕ = drop at text in
    let f : List ℕ = from (starts is_line_feed) t in
    omega (arith, behind.0, ap length behind.1, ap length (cut (starts is_line_feed) t), length-append (up_to (starts is_line_feed) t) f, length-drop 1 f, length-drop at text, length-drop next text)

-- ---- words

-- blanks and words pass no line feed
pub feed_blanks : (t : List ℕ) → behind_line (behind_blanks t) ≡ behind_line t
feed_blanks t = ap (drop 1) (from-from (starts is_line_feed) not_blank (λ b u h. or_false_left (is_line_feed b) _ (blank-inside b u (not-false _ h))) t)

feed_word : (t : List ℕ) → behind_line (behind_word t) ≡ behind_line t
feed_word t =
    ap (drop 1) (from-from (starts is_line_feed) word_ends (λ b u h. or_false_left (is_line_feed b) _ (or_false_right (is_blank b) _ h)) (behind_blanks t))
    ∙ feed_blanks t

-- the words from a place on, where i is the place behind blanks
pub words_at_lem : (text : List ℕ) (at i : ℕ) → At text i (behind_blanks (drop at text)) → words_at text at ≡ first_words (drop i text)
unfolding words_at
words_at_lem text at i skipped = words_first (drop at text) ∙ ap first_words (sym skipped.1)

pub not_blank_at : (text : List ℕ) (at i : ℕ) → At text i (behind_blanks (drop at text)) → not_blank (drop i text) ≡ true
not_blank_at text at i skipped = ap not_blank skipped.1 ∙ from_stops not_blank refl (drop at text)

pub word_passed : (text : List ℕ) (at next : ℕ) → At text next (behind_word (drop at text)) → not_empty (words_at text at) ≡ true
    → (words_at text next ≡ drop 1 (words_at text at)) × (behind_line (drop next text) ≡ behind_line (drop at text))
unfolding words_at
word_passed text at next behind some =
    let t : List ℕ = behind_blanks (drop at text) in
    let words = words_first (drop at text) in
    let more : line_ends t ≡ false = not-true _ (sym (words_some t) ∙ sym (ap not_empty words) ∙ some) in
    (ap (λ (u : List ℕ). words_of (rest_of_line u)) behind.1 ∙ sym (ap (drop 1) (words ∙ cond_false (line_ends t) [] _ more)), ap behind_line behind.1 ∙ feed_word (drop at text))
