-- What is left of a text from a place on: the rest of the line, its words, and what stands behind a word or the line. A place stands for the bytes
-- from it on, so that a scan's result is a suffix of the text.
use Rattle.std.specs.Prelude.{◌≡◌, Bool, true, false, not, cond, ◌&&◌, ◌||◌, List, [], ◌∷◌, map, ℕ, ◌≤◌, eqb, length, drop, get_or, Option, Some, None}
use Rattle.plan.specs.Lists.{keep, same}
use Rattle.plan.specs.MatrixMarket.{not_empty, is_line_feed, is_blank, words_of, Line, word_lines, lower, is_digit, is_number, number_at}
use Rattle.lexer.specs.declared.Numeral.{Numeral}

-- whether the line ends here: at the text's end, at a line feed, or at a carriage return with a line feed behind it
abbrev pub line_ends : List ℕ → Bool
line_ends [] = true
line_ends (b ∷ t) = is_line_feed b || (eqb b 13 && eqb (get_or t 0 0) 10)

-- whether the first byte passes a test
abbrev pub starts : (ℕ → Bool) → List ℕ → Bool
starts p [] = false
starts p (b ∷ t) = p b

-- whether a word ends here: where the line does, or at a space or tab
abbrev pub word_ends : List ℕ → Bool
word_ends t = starts is_blank t || line_ends t

-- the bytes before the first place whose suffix passes a test, and that suffix; nothing is left where none passes
abbrev pub up_to : (List ℕ → Bool) → List ℕ → List ℕ
up_to stop [] = []
up_to stop (b ∷ t) =
    let more : List ℕ = up_to stop t in
    cond (stop (b ∷ t)) [] (b ∷ more)

abbrev pub from : (List ℕ → Bool) → List ℕ → List ℕ
from stop [] = []
from stop (b ∷ t) =
    let more : List ℕ = from stop t in
    cond (stop (b ∷ t)) (b ∷ t) more

-- the rest of the line
abbrev pub rest_of_line : List ℕ → List ℕ
rest_of_line t = up_to line_ends t

-- what stands behind the line: behind its line feed, or nothing where the text ends
abbrev pub behind_line : List ℕ → List ℕ
behind_line t = drop 1 (from (starts is_line_feed) t)

-- whether no space or tab stands here, and whether no digit does
abbrev pub not_blank : List ℕ → Bool
not_blank t = not (starts is_blank t)

abbrev pub not_digit : List ℕ → Bool
not_digit t = not (starts is_digit t)

-- what stands behind spaces and tabs
abbrev pub behind_blanks : List ℕ → List ℕ
behind_blanks t = from not_blank t

-- what stands behind the bytes of a word
abbrev pub behind_letters : List ℕ → List ℕ
behind_letters t = from word_ends t

-- what stands behind digits
abbrev pub behind_digits : List ℕ → List ℕ
behind_digits t = from not_digit t

-- what stands behind the next word
abbrev pub behind_word : List ℕ → List ℕ
behind_word t = behind_letters (behind_blanks t)

-- the words of the rest of the line from a place on
unfoldable pub words_at : List ℕ → ℕ → Line
words_at text at = words_of (rest_of_line (drop at text))

-- the lines that have words, from the start of a line on
unfoldable pub lines_at : List ℕ → ℕ → List Line
lines_at text at = keep not_empty (word_lines (drop at text))

-- a place of the text, and the bytes from it on
abbrev pub At : List ℕ → ℕ → List ℕ → Type 0
At text place suffix = (place ≤ length text) × (drop place text ≡ suffix)

-- whether the first word is a number
abbrev pub first_is_number : Line → Bool
first_is_number [] = false
first_is_number (w ∷ ws) = is_number w

-- whether the first word, its letters lowered, is this one
abbrev pub first_is_word : List ℕ → Line → Bool
first_is_word word [] = false
first_is_word word (w ∷ ws) = same (map lower w) word

-- a scan that found what it looked for gives the place behind it; one that did not gives none
abbrev pub Scanned : Bool → List ℕ → List ℕ → Option ℕ → Type 0
Scanned found text behind None = found ≡ false
Scanned found text behind (Some next) = (found ≡ true) × At text next behind

-- the number that is the next word, and the place behind it
pub record NumberRead (text : List ℕ) (at : ℕ) (r : Numeral) : Type 0 where
  pub found : first_is_number (words_at text at) ≡ true
  pub value : r.value ≡ number_at (words_at text at) 0
  pub next : At text r.next (behind_word (drop at text))

-- the same, and none where the next word is no number
abbrev pub NumberAt : List ℕ → ℕ → Option Numeral → Type 0
NumberAt text at None = first_is_number (words_at text at) ≡ false
NumberAt text at (Some r) = NumberRead text at r
