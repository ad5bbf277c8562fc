-- Document 02, E1 and E3: worked texts in one table, and the one statement that every row of it holds.
use Rattle.std.specs.Prelude.{Bool, true, ◌&&◌, ◌≡◌, refl, ℕ, ◌+◌, ◌-◌, eqb, length, replicate}
use mathlib.Core.List.{List, [], ◌∷◌, ◌++◌, map, flatten}
use Prim.Native.String.{String}
use Rattle.plan.specs.Lists.{every, up_from}
use Rattle.plan.specs.Refusals.{first_fault}
use Rattle.plan.specs.Answers.{Reply, accepted, refused}
use Rattle.plan.specs.Mesh.{lent}
use Rattle.plan.specs.Listing.{decimal}
use Rattle.plan.specs.MadeMesh.{MeshBuffers, mesh_buffers, mesh_lengths, mesh_capacity, made_checks, MeshOutcome, fill_mesh}
use Rattle.plan.specs.MatrixMarket.{bytes, reading_text}
use Rattle.plan.specs.Everything.{everything}
use Rattle.plan.specs.Starred.{stale, holds_front, same_reply}

pub data TextRow : Type 0 where
  -- a text that gives these lists, lent buffers one entry longer than needed
  gives : (text : List ℕ) → (starts neighbours : List ℕ) → TextRow
  -- one that is refused with this number, lent two buffers of 12 entries
  refuses : (number : ℕ) → (text : List ℕ) → TextRow
  -- one that is refused with this number, lent so many starts and neighbours
  refuses_in : (starts neighbours : ℕ) → (number : ℕ) → (text : List ℕ) → TextRow
  -- and one that gives lists that fill both buffers
  fills : (text : List ℕ) → (starts neighbours : List ℕ) → TextRow
  -- a mesh of so many nodes and entries, so many of these in the first list, which alone is laid out, lent so many starts and neighbours: the number
  -- of 1, 3, 26 and 8 (0 for none). No short text has as many pairs as 3 needs.
  made : (nodes entries first : ℕ) → (starts neighbours : ℕ) → (number : ℕ) → TextRow

-- a text behind the banner line
abbrev pub behind : String → List ℕ
behind rest = bytes "%%MatrixMarket matrix coordinate pattern symmetric\n" ++ bytes rest

-- the lines of the pairs of row k + 1 and each column before it
abbrev pub star_lines : ℕ → List ℕ
star_lines k = flatten (map (λ j. decimal (k + 1) ++ (32 ∷ decimal j) ++ (10 ∷ [])) (up_from 1 k))

-- whether reading a text into so many starts and neighbours replies so, and leaves these at the front of the two buffers
unfoldable pub text_agrees : List ℕ → ℕ → ℕ → Reply → List ℕ → List ℕ → Bool
text_agrees text s e reply starts neighbours =
    let found : MeshBuffers = mesh_buffers (stale s) (stale e) in
    let o : MeshOutcome = reading_text text (mesh_capacity found) in
    let left : MeshBuffers = fill_mesh o found in
    same_reply o.reply reply && holds_front s starts left.starts && holds_front e neighbours left.neighbours

unfoldable pub text_holds : TextRow → Bool
text_holds (gives text starts neighbours) =
    text_agrees text (length starts + 1) (length neighbours + 1) (accepted ((length starts - 1) ∷ length neighbours ∷ [])) starts neighbours
text_holds (refuses k text) = text_agrees text 12 12 (refused k) [] []
text_holds (refuses_in s e k text) = text_agrees text s e (refused k) [] []
text_holds (fills text starts neighbours) =
    text_agrees text (length starts) (length neighbours) (accepted ((length starts - 1) ∷ length neighbours ∷ [])) starts neighbours
text_holds (made n entries first s e k) = eqb (first_fault (made_checks (lent n (0 ∷ first ∷ []) (up_from 0 entries)) (mesh_lengths s e))) k

-- the ring 0-1-2-3
abbrev pub ring_starts : List ℕ
ring_starts = 0 ∷ 2 ∷ 4 ∷ 6 ∷ 8 ∷ []

abbrev pub ring_neighbours : List ℕ
ring_neighbours = 1 ∷ 3 ∷ 0 ∷ 2 ∷ 1 ∷ 3 ∷ 0 ∷ 2 ∷ []

unfoldable pub texts : List TextRow
texts =
    -- 3: an entry too many, before 26 and 8 and behind 1; as many as allowed
    made 300 65537 27 0 0 3
    ∷ made 5000 65537 27 0 0 1
    ∷ made 300 65536 26 301 65535 8
    ∷ made 300 65536 26 301 65536 0
    -- 26: a list of 27 entries, before 8 and behind 25; one of 26, to which a diagonal pair adds nothing
    ∷ made 300 27 27 0 0 26
    ∷ made 300 27 27 301 27 26
    ∷ refuses 26 (behind "28 28 27\n" ++ star_lines 27)
    ∷ refuses 25 (behind "28 28 28\n" ++ star_lines 27 ++ bytes "28 1\n")
    ∷ gives (behind "27 27 27\n27 27\n" ++ star_lines 26) (up_from 0 27 ++ (52 ∷ [])) (replicate 26 26 ++ up_from 0 26)
    -- Accepted. The ring, plainly; then with any letter case, spaces and tabs at a line's ends and between, carriage returns, comments, blank
    -- lines, the pairs in another order, a diagonal one among them, and no line feed at the end.
    ∷ gives (behind "4 4 4\n2 1\n3 2\n4 1\n4 3\n") ring_starts ring_neighbours
    ∷ gives
    (bytes " %%mAtRiXmArKeT\tMATRIX  Coordinate pattern\tSYMMETRIC \r\n% a\rcomment\r\n\r\n \t % another\r\n \t\r\n\t4 4  5 \r\n4 1\n\n  3\t2\r\n2 2\n 4   3\t\r\n2 1")
    ring_starts ring_neighbours
    -- one node, behind comments of one word; two nodes with diagonal pairs only; leading zeros; stated pairs count diagonal ones, entries do not
    ∷ gives (behind "%\n%a\n1 1 0") (0 ∷ 0 ∷ []) []
    ∷ gives (behind "2 2 2\n2 2\n1 1\n") (0 ∷ 0 ∷ 0 ∷ []) []
    ∷ gives (behind "0002 2 000000000000000000002\n02 000000000000000000001\n1 01\n") (0 ∷ 1 ∷ 2 ∷ []) (1 ∷ 0 ∷ [])
    -- 23, the banner: no text; a blank line or a comment before it; a word other, missing, too many, misspelt; a byte that is % but for one bit
    ∷ refuses 23 []
    ∷ refuses 23 (bytes "\n" ++ behind "1 1 0\n")
    ∷ refuses 23 (bytes "% first\n" ++ behind "1 1 0\n")
    ∷ refuses 23 (bytes "%%MatrixMarket matrix coordinate pattern general\n1 1 0\n")
    ∷ refuses 23 (bytes "%%MatrixMarket matrix coordinate pattern\n1 1 0\n")
    ∷ refuses 23 (bytes "%%MatrixMarket matrix coordinate pattern symmetric %\n1 1 0\n")
    ∷ refuses 23 (bytes "%MatrixMarket matrix coordinate pattern symmetric\n1 1 0\n")
    ∷ refuses 23 (bytes "%\u{5}MatrixMarket matrix coordinate pattern symmetric\n1 1 0\n")
    -- 23, the size line: none; two numbers; four; a comment behind it
    ∷ refuses 23 (behind "% no size\n")
    ∷ refuses 23 (behind "1 1\n")
    ∷ refuses 23 (behind "1 1 0 0\n")
    ∷ refuses 23 (behind "1 1 0 % size\n")
    -- 23, the pairs: three numbers; one; a comment among them; fewer or more than stated
    ∷ refuses 23 (behind "2 2 1\n2 1 1\n")
    ∷ refuses 23 (behind "2 2 1\n2\n")
    ∷ refuses 23 (behind "2 2 1\n% a pair\n2 1\n")
    ∷ refuses 23 (behind "2 2 2\n2 1\n")
    ∷ refuses 23 (behind "2 2 0\n2 1\n")
    -- 23, numbers: a sign; a point; the bytes next to the digits; beyond 32 bits in each place, where the largest is none of 23
    ∷ refuses 23 (behind "2 2 1\n+2 1\n")
    ∷ refuses 23 (behind "2 2 1\n2 1.0\n")
    ∷ refuses 23 (behind "2 2 1\n2 /1\n")
    ∷ refuses 23 (behind "2 2 1\n: 1\n")
    ∷ refuses 23 (behind "4294967296 4294967296 0\n")
    ∷ refuses 23 (behind "2 2 4294967296\n")
    ∷ refuses 23 (behind "2 2 1\n4294967296 1\n")
    ∷ refuses 1 (behind "4294967295 4294967295 0\n")
    ∷ refuses 24 (behind "2 2 1\n4294967295 1\n")
    -- 23, separators: a carriage return at the text's end, two before a line feed, one between; a form feed, a vertical tab
    ∷ refuses 23 (behind "1 1 0\r")
    ∷ refuses 23 (behind "1 1 0\r\r\n")
    ∷ refuses 23 (behind "1\r1 0\n")
    ∷ refuses 23 (behind "1\u{c}1 0\n")
    ∷ refuses 23 (behind "1\u{b}1 0\n")
    -- 24: fewer rows than columns, more, none; an index 0, an index beyond n, a row number less than its column's; no rows and a pair
    ∷ refuses 24 (behind "2 3 0\n")
    ∷ refuses 24 (behind "3 2 0\n")
    ∷ refuses 24 (behind "0 4 0\n")
    ∷ refuses 24 (behind "2 2 1\n1 0\n")
    ∷ refuses 24 (behind "2 2 1\n3 1\n")
    ∷ refuses 24 (behind "2 2 1\n1 2\n")
    ∷ refuses 24 (behind "0 0 1\n1 1\n")
    -- 25: a pair given again that is not the first, a diagonal one, one written otherwise
    ∷ refuses 25 (behind "3 3 4\n1 1\n2 1\n3 1\n2 1\n")
    ∷ refuses 25 (behind "2 2 2\n2 2\n2 2\n")
    ∷ refuses 25 (behind "2 2 2\n2 1\n02\t1\n")
    -- 1: n is 0 or above 4,096
    ∷ refuses 1 (behind "0 0 0\n")
    ∷ refuses 1 (behind "4097 4097 1\n2 1\n")
    -- each over the whole text before the next: a malformed last line and a wrong first pair; a wrong number of pairs and a matrix not square;
    -- a wrong last pair and an earlier repeat; a repeat and n = 5,000; n = 5,000 and short buffers
    ∷ refuses 23 (behind "2 2 2\n1 2\n2 x\n")
    ∷ refuses 23 (behind "2 3 1\n")
    ∷ refuses 24 (behind "2 2 3\n2 1\n2 1\n1 2\n")
    ∷ refuses 25 (behind "5000 5000 2\n2 1\n2 1\n")
    ∷ refuses_in 0 0 1 (behind "5000 5000 0\n")
    -- 8: a start too few; a neighbour too few; 25 before it; room for just all
    ∷ refuses_in 4 9 8 (behind "4 4 4\n2 1\n3 2\n4 1\n4 3\n")
    ∷ refuses_in 6 7 8 (behind "4 4 4\n2 1\n3 2\n4 1\n4 3\n")
    ∷ refuses_in 0 0 25 (behind "2 2 2\n2 1\n2 1\n")
    ∷ fills (behind "4 4 4\n2 1\n3 2\n4 1\n4 3\n") ring_starts ring_neighbours
    ∷ []

-- every row of the table holds
pub worked : every text_holds texts ≡ true
unfolding everything stale holds_front same_reply text_agrees text_holds texts
worked = refl
