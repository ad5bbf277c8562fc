-- A line read word by word: so many numbers, or given words, and then nothing more.
use mathlib.Core.Path.{◌≡◌, refl, sym, ap, ◌∙◌}
use mathlib.Core.Bool.{Bool, true, false, not, ◌&&◌, false≢true}
use mathlib.Core.List.{List, [], ◌∷◌, map}
use Prim.Native.Nat.{ℕ, suc, ◌+◌, ◌≤◌}
use native.Mathlib.Omega.{arith}
use lib.Dec.{eqb}
use lib.ListN.{length, drop, get_or}
use lib.Seq.{drop-drop, get_or-drop}
use borrow.Author.Tests.{eq-eqb, ne_eqb, eqb-true, leb-true}
use Rattle.plan.specs.Lists.{every}
use Rattle.plan.specs.MatrixMarket.{bytes, not_empty, Line, lower, same_words, banner, is_banner, words_of, max_number, is_digit, value_of, is_number, holds_numbers, number_at}
use Rattle.theory.proofs.Bools.{and_right, iff_eq}
use Rattle.std.specs.Prelude.{Option, Some, None}
use Rattle.lexer.specs.declared.Numeral.{Numeral}
use Rattle.lexer.specs.Suffixes.{behind_line, behind_word, words_at, At, first_is_number, first_is_word, Scanned, NumberRead, NumberAt}
use Rattle.lexer.proofs.Suffixes.{word_passed}

-- ---- numbers

one_less : (a b : ℕ) → eqb (suc a) (suc b) ≡ eqb a b
one_less a b = iff_eq _ _ (λ h. eq-eqb a b (omega (arith, eqb-true (suc a) (suc b) h))) (λ h. eq-eqb (suc a) (suc b) (omega (arith, eqb-true a b h)))

-- a line of so many numbers: the first is one, and the others are
holds-next : (k : ℕ) (ws : Line) → holds_numbers (suc k) ws ≡ (first_is_number ws && holds_numbers k (drop 1 ws))
unfolding holds_numbers
holds-next k [] = ap (λ (b : Bool). b && true) (ne_eqb 0 (suc k) (λ e. omega arith))
holds-next k (w ∷ ws) = ap (λ (b : Bool). b && (is_number w && every is_number ws)) (one_less (length ws) k) ∙ mix (eqb (length ws) k) (is_number w) (every is_number ws)
  where
    mix : (a b c : Bool) → (a && (b && c)) ≡ (b && (a && c))
    mix true b c = refl
    mix false true c = refl
    mix false false c = refl

holds-none : (ws : Line) → holds_numbers 0 ws ≡ not (not_empty ws)
unfolding holds_numbers
holds-none [] = refl
holds-none (w ∷ ws) = ap (λ (b : Bool). b && (is_number w && every is_number ws)) (ne_eqb (suc (length ws)) 0 (λ e. omega arith))

-- a line without words holds no number
holds-empty : (k : ℕ) (ws : Line) → not_empty ws ≡ false → holds_numbers (suc k) ws ≡ false
holds-empty k [] h = holds-next k []
holds-empty k (w ∷ ws) h = absurd (false≢true (sym h))

-- a line of numbers has words
pub numbers-some : (k : ℕ) (ws : Line) → holds_numbers (suc k) ws ≡ true → not_empty ws ≡ true
numbers-some k [] h = absurd (false≢true (sym (holds-empty k [] refl) ∙ h))
numbers-some k (w ∷ ws) h = refl

number_small : (ws : Line) → first_is_number ws ≡ true → number_at ws 0 ≤ max_number
unfolding is_number
number_small [] h = absurd (false≢true h)
number_small (w ∷ ws) h = leb-true (value_of w) max_number (and_right (every is_digit w) _ h)

pub number-some : (ws : Line) → first_is_number ws ≡ true → not_empty ws ≡ true
number-some [] h = absurd (false≢true h)
number-some (w ∷ ws) h = refl

-- word j of the words behind the first k
later_word : (k j : ℕ) (ws : Line) → get_or (drop k ws) j [] ≡ get_or ws (k + j) []
later_word k j ws = get_or-drop k ws j []

-- k numbers were read from place `at` up to place `here`
pub record Numbers (text : List ℕ) (at here k : ℕ) : Type 0 where
  pub within : here ≤ length text
  pub words : words_at text here ≡ drop k (words_at text at)
  pub behind : behind_line (drop here text) ≡ behind_line (drop at text)
  pub holds : (j : ℕ) → holds_numbers (k + j) (words_at text at) ≡ holds_numbers j (words_at text here)

pub numbers-start : (text : List ℕ) (at : ℕ) → at ≤ length text → Numbers text at at 0
numbers-start text at le = record { within = le; words = refl; behind = refl; holds = λ j. ap (λ (i : ℕ). holds_numbers i (words_at text at)) (omega arith) }

module _ (text : List ℕ) (at here k : ℕ) (n : Numbers text at here k) where
  -- the next word is a number
  pub numbers-next : (r : Numeral) → NumberRead text here r → Numbers text at r.next (k + 1)
  numbers-next r s =
      let passed = word_passed text here r.next s.next (number-some (words_at text here) s.found) in
      record {
        within = s.next.0;
        words = passed.0 ∙ ap (drop 1) n.words ∙ drop-drop 1 k (words_at text at);
        behind = passed.1 ∙ n.behind;
        holds = λ j. ap (λ (i : ℕ). holds_numbers i (words_at text at)) (omega arith)
            ∙ n.holds (suc j)
            ∙ holds-next j (words_at text here)
            ∙ ap (λ (b : Bool). b && holds_numbers j (drop 1 (words_at text here))) s.found
            ∙ ap (holds_numbers j) (sym passed.0);
      }

  -- its value
  pub numbers-value : (r : Numeral) → NumberRead text here r → (r.value ≡ number_at (words_at text at) k) × (r.value ≤ max_number)
  numbers-value r s =
      let word : get_or (words_at text here) 0 [] ≡ get_or (words_at text at) k [] =
      ap (λ (l : Line). get_or l 0 []) n.words ∙ later_word k 0 (words_at text at) ∙ ap (λ (i : ℕ). get_or (words_at text at) i []) (omega arith) in
      (s.value ∙ ap value_of word, omega (arith, s.value, number_small (words_at text here) s.found))

  -- it is none: the line does not hold as many, nor more
  pub numbers-none : (j : ℕ) → first_is_number (words_at text here) ≡ false → holds_numbers (k + suc j) (words_at text at) ≡ false
  numbers-none j s = n.holds (suc j) ∙ holds-next j (words_at text here) ∙ ap (λ (b : Bool). b && holds_numbers j (drop 1 (words_at text here))) s

  -- the line is over, or not
  pub numbers_over : holds_numbers k (words_at text at) ≡ not (not_empty (words_at text here))
  numbers_over = ap (λ (i : ℕ). holds_numbers i (words_at text at)) (omega arith) ∙ n.holds 0 ∙ holds-none (words_at text here)

  pub numbers-behind : (next : ℕ) → At text next (behind_line (drop here text)) → At text next (behind_line (drop at text))
  numbers-behind next s = (s.0, s.1 ∙ n.behind)

-- ---- given words

-- what is left to be said of the banner at a place
pub record Banner (text : List ℕ) (here : ℕ) (rest : Line) : Type 0 where
  pub within : here ≤ length text
  pub behind : behind_line (drop here text) ≡ behind_line text
  pub left : is_banner (words_at text 0) ≡ same_words (map (map lower) (words_at text here)) rest

words_next : (w : List ℕ) (rest ws : Line) → same_words (map (map lower) ws) (w ∷ rest) ≡ (first_is_word w ws && same_words (map (map lower) (drop 1 ws)) rest)
words_next w rest [] = refl
words_next w rest (v ∷ ws) = refl

words_none : (ws : Line) → same_words (map (map lower) ws) [] ≡ not (not_empty ws)
words_none [] = refl
words_none (w ∷ ws) = refl

word_some : (w : List ℕ) (ws : Line) → first_is_word w ws ≡ true → not_empty ws ≡ true
word_some w [] h = absurd (false≢true h)
word_some w (v ∷ ws) h = refl

-- the words of the banner
abbrev pub banner_words : Line
banner_words = bytes "%%matrixmarket" ∷ bytes "matrix" ∷ bytes "coordinate" ∷ bytes "pattern" ∷ bytes "symmetric" ∷ []

banner_words_lem : banner ≡ banner_words
unfolding banner words_of
banner_words_lem = refl

pub banner-start : (text : List ℕ) → Banner text 0 banner_words
unfolding is_banner
banner-start text = record { within = omega arith; behind = refl; left = ap (same_words (map (map lower) (words_at text 0))) banner_words_lem }

module _ (text : List ℕ) (here : ℕ) (w : List ℕ) (rest : Line) (b : Banner text here (w ∷ rest)) where
  pub banner-next : (next : ℕ) → Scanned (first_is_word w (words_at text here)) text (behind_word (drop here text)) (Some next) → Banner text next rest
  banner-next next s =
      let passed = word_passed text here next s.1 (word_some w (words_at text here) s.0) in
      record {
        within = s.1.0;
        behind = passed.1 ∙ b.behind;
        left = b.left ∙ words_next w rest (words_at text here)
            ∙ ap (λ (t : Bool). t && same_words (map (map lower) (drop 1 (words_at text here))) rest) s.0
            ∙ ap (λ (ws : Line). same_words (map (map lower) ws) rest) (sym passed.0);
      }

  pub banner_other : first_is_word w (words_at text here) ≡ false → is_banner (words_at text 0) ≡ false
  banner_other f = b.left ∙ words_next w rest (words_at text here) ∙ ap (λ (t : Bool). t && same_words (map (map lower) (drop 1 (words_at text here))) rest) f

pub banner_over : (text : List ℕ) (here : ℕ) → Banner text here [] → is_banner (words_at text 0) ≡ not (not_empty (words_at text here))
banner_over text here b = b.left ∙ words_none (words_at text here)

-- the same as the code meets it, behind a word that was found or not
pub banner_step : (text : List ℕ) (here : ℕ) (w : List ℕ) (rest : Line) (r : Option ℕ) (next : ℕ) → Banner text here (w ∷ rest) → Scanned (first_is_word w (words_at text here)) text (behind_word (drop here text)) r → r ≡ Some next → Banner text next rest
banner_step text here w rest r next b s e = banner-next text here w rest b next (rw e at s)

pub banner_stop : (text : List ℕ) (here : ℕ) (w : List ℕ) (rest : Line) (r : Option ℕ) → Banner text here (w ∷ rest) → Scanned (first_is_word w (words_at text here)) text (behind_word (drop here text)) r → r ≡ None → is_banner (words_at text 0) ≡ false
banner_stop text here w rest r b s e = banner_other text here w rest b (rw e at s)

pub banner_end : (text : List ℕ) (here : ℕ) (r : Option ℕ) → Banner text here [] → Scanned (not (not_empty (words_at text here))) text (behind_line (drop here text)) r → Scanned (is_banner (words_at text 0)) text (behind_line text) r
banner_end text here None b s = banner_over text here b ∙ s
banner_end text here (Some next) b s = (banner_over text here b ∙ s.0, (s.1.0, s.1.1 ∙ b.behind))

-- and behind a number, or where the line is over
pub number_none : (text : List ℕ) (at : ℕ) (r : Option Numeral) → NumberAt text at r → r ≡ None → first_is_number (words_at text at) ≡ false
number_none text at r s e = rw e at s

pub number_some : (text : List ℕ) (at : ℕ) (r : Option Numeral) (n : Numeral) → NumberAt text at r → r ≡ Some n → NumberRead text at n
number_some text at r n s e = rw e at s

pub over_none : (text : List ℕ) (at : ℕ) (r : Option ℕ) → Scanned (not (not_empty (words_at text at))) text (behind_line (drop at text)) r → r ≡ None → not (not_empty (words_at text at)) ≡ false
over_none text at r s e = rw e at s

pub over_some : (text : List ℕ) (at : ℕ) (r : Option ℕ) (next : ℕ) → Scanned (not (not_empty (words_at text at))) text (behind_line (drop at text)) r → r ≡ Some next → (not (not_empty (words_at text at)) ≡ true) × At text next (behind_line (drop at text))
over_some text at r next s e = rw e at s
