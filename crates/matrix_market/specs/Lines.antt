-- What is read of the lines of a text: the size line, a line of the pairs, and all of these lines together.
use Rattle.std.specs.Prelude.{◌≡◌, Bool, true, false, not, ◌&&◌, ◌||◌, List, [], ◌∷◌, map, ℕ, ◌≤◌, eqb, length, take, drop, get_or, Option, Some, None}
use Rattle.plan.specs.Lists.{exists, every, keep, written}
use Rattle.plan.specs.Refusals.{Checks}
use Rattle.plan.specs.MatrixMarket.{not_empty, Line, word_lines, is_banner, max_number, holds_numbers, number_at, size_line, row_count, column_count, stated_pairs, pair_lines, Pair, pair_of, bad_pair}
use Rattle.plan.specs.AcceptedTexts.{off_diagonal}
use Rattle.theory.specs.Keys.{key_of}
use Rattle.lexer.specs.Suffixes.{behind_line, words_at, lines_at, At}
use Rattle.matrix_market.specs.declared.pairs.Pair.{Pair as ReadPair}
use Rattle.matrix_market.specs.declared.pairs.PairLine.{PairLine}
use Rattle.matrix_market.specs.declared.pairs.Tally.{Tally}
use Rattle.matrix_market.specs.declared.size.Size.{Size}

-- the pair of a line's words
pub record PairOf (line : Line) (r : ReadPair) : Type 0 where
  pub good : holds_numbers 2 line ≡ true
  pub row : (r.row ≡ number_at line 0) × (r.row ≤ max_number)
  pub column : (r.column ≡ number_at line 1) × (r.column ≤ max_number)

-- none where it has no words
abbrev pub HeldPair : Line → Option ReadPair → Type 0
HeldPair line None = not_empty line ≡ false
HeldPair line (Some r) = PairOf line r

-- a line of the pairs, and none where it has words and they are no pair
abbrev pub PairAt : List ℕ → ℕ → Option PairLine → Type 0
PairAt text at None = (not_empty (words_at text at) ≡ true) × (holds_numbers 2 (words_at text at) ≡ false)
PairAt text at (Some r) = HeldPair (words_at text at) r.pair × At text r.next (behind_line (drop at text))

-- the size line, at the start of a line
pub record SizeRead (text : List ℕ) (at : ℕ) (r : Size) : Type 0 where
  pub good : holds_numbers 3 (words_at text at) ≡ true
  pub rows : (r.rows ≡ number_at (words_at text at) 0) × (r.rows ≤ max_number)
  pub columns : r.columns ≡ number_at (words_at text at) 1
  pub pairs : (r.pairs ≡ number_at (words_at text at) 2) × (r.pairs ≤ max_number)
  pub next : At text r.next (behind_line (drop at text))

abbrev pub SizeAt : List ℕ → ℕ → Option Size → Type 0
SizeAt text at None = holds_numbers 3 (words_at text at) ≡ false
SizeAt text at (Some r) = SizeRead text at r

-- the head of a text
pub record HeadRead (text : List ℕ) (r : Size) : Type 0 where
  pub good : (is_banner (get_or (word_lines text) 0 []) && holds_numbers 3 (size_line text)) ≡ true
  pub rows : (r.rows ≡ row_count text) × (r.rows ≤ max_number)
  pub columns : r.columns ≡ column_count text
  pub pairs : (r.pairs ≡ stated_pairs text) × (r.pairs ≤ max_number)
  pub within : r.next ≤ length text
  pub lines : lines_at text r.next ≡ pair_lines text

abbrev pub HeadOf : List ℕ → Option Size → Type 0
HeadOf text None = (is_banner (get_or (word_lines text) 0 []) && holds_numbers 3 (size_line text)) ≡ false
HeadOf text (Some r) = HeadRead text r

-- the pairs of lines, and their keys
abbrev pub pairs_in : List Line → List Pair
pairs_in lines = map pair_of lines

abbrev pub keys_in : List Line → List ℕ
keys_in lines = map key_of (pairs_in lines)

-- what a run over good lines finds
abbrev pub tally_of : ℕ → List Line → Tally
tally_of n lines = record {
  pairs = length lines;
  bad = exists (bad_pair n) (pairs_in lines);
  links = length (keep off_diagonal (pairs_in lines));
}

-- what checks 23 and 24 ask of the lines of the pairs, by what was read
abbrev pub wrong_lines : Size → Tally → Bool
wrong_lines size tally = not (eqb tally.pairs size.pairs)

abbrev pub wrong_matrix : Size → Tally → Bool
wrong_matrix size tally = not (eqb size.rows size.columns) || tally.bad

unfoldable pub pairs_checks : Size → Tally → Checks
pairs_checks size tally = (23, wrong_lines size tally) ∷ (24, wrong_matrix size tally) ∷ []

-- lines of the pairs that are good: what they hold, and their keys, as many as the buffer has places, at its front
pub record Told (lines : List Line) (n : ℕ) (r : Tally) (found left : List ℕ) : Type 0 where
  pub good : every (holds_numbers 2) lines ≡ true
  pub told : r ≡ tally_of n lines
  pub keys : left ≡ written (take (length found) (keys_in lines)) found

-- none where one of them is not
abbrev pub ToldOr : List Line → ℕ → Option Tally → List ℕ → List ℕ → Type 0
ToldOr lines n None found left = every (holds_numbers 2) lines ≡ false
ToldOr lines n (Some r) found left = Told lines n r found left

-- all lines of the pairs
pub record Surveyed (lines : List Line) (n : ℕ) (r : Option Tally) (found left : List ℕ) : Type 0 where
  pub all : ToldOr lines n r found left
  pub long : length left ≡ length found
