-- Document 02, E1: from a Matrix Market text, "the coordinate pattern symmetric kind", to starts and neighbours; from bytes to lists.
use Rattle.std.specs.Prelude.{Bool, true, false, not, cond, ◌&&◌, ◌||◌, List, [], ◌∷◌, map, ℕ, ◌+◌, ◌-◌, ◌*◌, leb, ltb, eqb, length, drop, get_or, Result}
use Prim.Native.Char.{code}
use Prim.Native.String.{String}
use Rattle.plan.specs.declared.MeshCounts.{MeshCounts}
use Rattle.plan.specs.declared.refusal.Refusal.{Refusal}
use Rattle.plan.specs.Lists.{exists, every, keep, same}
use Rattle.plan.specs.Refusals.{Checks, first_fault, within}
use Rattle.plan.specs.Mesh.{Mesh}
use Rattle.plan.specs.Elimination.{tabulate}
use Rattle.plan.specs.MadeMesh.{mesh_of, MeshBuffers, MeshCapacity, mesh_capacity, made_checks, MeshOutcome, hand_mesh, MeshFilled}

-- ---- lines and words

-- a quoted text by its bytes; all that are quoted here are of one byte to a letter
abbrev pub bytes : String → List ℕ
bytes String.[] = []
bytes (String.◌∷◌ c s) = code c ∷ bytes s

-- an element in front of the first of some lists; alone where there is none
abbrev pub to_first : ℕ → List (List ℕ) → List (List ℕ)
to_first b [] = (b ∷ []) ∷ []
to_first b (l ∷ ls) = (b ∷ l) ∷ ls

-- a list cut at each element that passes the test: the pieces, one more than there are such elements, which stand in none of them
abbrev pub split : (ℕ → Bool) → List ℕ → List (List ℕ)
split p [] = [] ∷ []
split p (b ∷ bs) =
    let more : List (List ℕ) = split p bs in
    cond (p b) ([] ∷ more) (to_first b more)

module _ {A : Type 0} where
  abbrev pub not_empty : List A → Bool
  not_empty [] = false
  not_empty (x ∷ xs) = true

-- "a carriage return before it allowed": the text without the carriage returns that stand directly before a line feed
abbrev pub unreturned : List ℕ → List ℕ
unreturned [] = []
unreturned (b ∷ bs) =
    let more : List ℕ = unreturned bs in
    cond (eqb b 13 && eqb (get_or bs 0 0) 10) more (b ∷ more)

-- "a line ends at a line feed, a carriage return before it allowed, or at the text's end"
abbrev pub is_line_feed : ℕ → Bool
is_line_feed b = eqb b 10

unfoldable pub lines_of : List ℕ → List (List ℕ)
lines_of text = split is_line_feed (unreturned text)

-- "Spaces or tabs separate", and those "at a line's ends" are skipped
abbrev pub is_blank : ℕ → Bool
is_blank b = eqb b 32 || eqb b 9

-- a line by its words
abbrev pub Line : Type 0
Line = List (List ℕ)

unfoldable pub words_of : List ℕ → Line
words_of line = keep not_empty (split is_blank line)

-- the text line by line: lines "that hold nothing but spaces and tabs" have no words
unfoldable pub word_lines : List ℕ → List Line
word_lines text = map words_of (lines_of text)

-- ---- the banner

-- "in any letter case": A to Z are lowered, any other byte stays
abbrev pub lower : ℕ → ℕ
lower b = cond (within 65 90 b) (b + 32) b

-- whether two lines have the same words
abbrev pub same_words : Line → Line → Bool
same_words [] [] = true
same_words [] (w ∷ ws) = false
same_words (v ∷ vs) [] = false
same_words (v ∷ vs) (w ∷ ws) = same v w && same_words vs ws

-- "The first line is %%MatrixMarket matrix coordinate pattern symmetric", "all five banner words in any letter case"
unfoldable pub banner : Line
banner = words_of (map lower (bytes "%%MatrixMarket matrix coordinate pattern symmetric"))

unfoldable pub is_banner : Line → Bool
is_banner line = same_words (map (map lower) line) banner

-- ---- numbers

-- the largest number of 32 bits: "a number beyond 32 bits" is refused
abbrev pub max_number : ℕ
max_number = 4294967295

abbrev pub is_digit : ℕ → Bool
is_digit b = within 48 57 b

-- the number whose decimal digits are those of v and behind them these
abbrev pub value_from : ℕ → List ℕ → ℕ
value_from v [] = v
value_from v (d ∷ ds) = value_from (10 * v + (d - 48)) ds

abbrev pub value_of : List ℕ → ℕ
value_of word = value_from 0 word

-- "numbers are digits only", and a word has at least one: by value, so that leading zeros are allowed
unfoldable pub is_number : List ℕ → Bool
is_number word = every is_digit word && leb (value_of word) max_number

-- whether a line holds so many numbers and nothing else
unfoldable pub holds_numbers : ℕ → Line → Bool
holds_numbers k line = eqb (length line) k && every is_number line

-- number k of a line, counted from 0
abbrev pub number_at : Line → ℕ → ℕ
number_at line k = value_of (get_or line k [])

-- ---- the text

-- "lines beginning with %": spaces and tabs at a line's ends are skipped, so it is the first word that begins so
abbrev pub is_comment : Line → Bool
is_comment line = eqb (get_or (get_or line 0 []) 0 0) 37

-- "lines beginning with % skipped before the size line": from the first other line on
abbrev pub skip_comments : List Line → List Line
skip_comments [] = []
skip_comments (l ∷ ls) =
    let more : List Line = skip_comments ls in
    cond (is_comment l) more (l ∷ ls)

-- the size line and those of the pairs: "lines after the first that hold nothing but spaces and tabs are skipped", and then the comments
unfoldable pub content : List ℕ → List Line
content text = skip_comments (keep not_empty (drop 1 (word_lines text)))

-- "the size line is rows, columns, pairs"
unfoldable pub size_line : List ℕ → Line
size_line text = get_or (content text) 0 []

abbrev pub row_count : List ℕ → ℕ
row_count text = number_at (size_line text) 0

abbrev pub column_count : List ℕ → ℕ
column_count text = number_at (size_line text) 1

abbrev pub stated_pairs : List ℕ → ℕ
stated_pairs text = number_at (size_line text) 2

-- "then pairs counted from 1, one to a line": row and column
unfoldable pub pair_lines : List ℕ → List Line
pair_lines text = drop 1 (content text)

abbrev pub Pair : Type 0
Pair = ℕ × ℕ

abbrev pub pair_of : Line → Pair
pair_of line = (number_at line 0, number_at line 1)

unfoldable pub pairs_of : List ℕ → List Pair
pairs_of text = map pair_of (pair_lines text)

-- ---- its faults

-- 23: "text that is not this kind, a number beyond 32 bits, or a number of pairs other than stated"
unfoldable pub bad_text : List ℕ → Bool
bad_text text =
    not (is_banner (get_or (word_lines text) 0 []))
    || not (holds_numbers 3 (size_line text))
    || not (every (holds_numbers 2) (pair_lines text))
    || not (eqb (length (pair_lines text)) (stated_pairs text))

-- "an index outside" a matrix of n rows and columns, counted from 1
abbrev pub index_outside : ℕ → ℕ → Bool
index_outside n i = eqb i 0 || ltb n i

-- "an index outside it, or a row number less than its column's"
abbrev pub bad_pair : ℕ → Pair → Bool
bad_pair n p = index_outside n p.0 || index_outside n p.1 || ltb p.0 p.1

-- 24: "a matrix not square, an index outside it, or a row number less than its column's"
unfoldable pub bad_matrix : List ℕ → Bool
bad_matrix text = not (eqb (row_count text) (column_count text)) || exists (bad_pair (row_count text)) (pairs_of text)

abbrev pub same_pair : Pair → Pair → Bool
same_pair p q = eqb p.0 q.0 && eqb p.1 q.1

-- whether row i and column j are one of the pairs
abbrev pub has_pair : ℕ → ℕ → List Pair → Bool
has_pair i j pairs = exists (same_pair (i, j)) pairs

-- 25: "a pair given again, diagonal ones too"
abbrev pub given_again : List Pair → Bool
given_again [] = false
given_again (p ∷ ps) = exists (same_pair p) ps || given_again ps

unfoldable pub repeated_pair : List ℕ → Bool
repeated_pair text = given_again (pairs_of text)

-- ---- the mesh

-- whether the pairs, which count from 1, make nodes v and w, which count from 0, neighbours: "Diagonal pairs are dropped."
unfoldable pub are_neighbours : List Pair → ℕ → ℕ → Bool
are_neighbours pairs v w = not (eqb v w) && (has_pair (v + 1) (w + 1) pairs || has_pair (w + 1) (v + 1) pairs)

-- "The lists produced are those of the pairs, whatever order the pairs came in."
unfoldable pub lists_of : ℕ → List Pair → List (List ℕ)
lists_of n pairs = tabulate n (are_neighbours pairs)

-- the mesh that a text holds
unfoldable pub text_mesh : List ℕ → Mesh
text_mesh text = mesh_of (row_count text) (lists_of (row_count text) (pairs_of text))

-- ---- what is handed out

-- 23, 24, 25: "They come in that order, before 1, 3 and 8."
unfoldable pub text_checks : List ℕ → MeshCapacity → Checks
text_checks text room =
    (23, bad_text text)
    ∷ (24, bad_matrix text)
    ∷ (25, repeated_pair text)
    ∷ made_checks (text_mesh text) room

-- reading a text, whole
unfoldable pub reading_text : List ℕ → MeshCapacity → MeshOutcome
reading_text text room = hand_mesh (first_fault (text_checks text room)) (text_mesh text)

-- The promise of the reader: the answer and both buffers are those of `reading_text`.
abbrev pub TextRead : List ℕ → Result MeshCounts Refusal → MeshBuffers → MeshBuffers → Type 0
TextRead text answer found left = MeshFilled (reading_text text (mesh_capacity found)) answer found left
