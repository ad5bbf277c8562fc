-- What is shown of the reader of texts (document 02, E1): an accepted text's mesh passes planning's checks, and its lists are those of the pairs.
use Rattle.std.specs.Prelude.{◌≡◌, Bool, false, not, ◌&&◌, List, [], ℕ, ◌+◌, ◌*◌, ◌≤◌, min, max, eqb, length, take, get_or, Ok}
use Rattle.plan.specs.declared.MeshCounts.{MeshCounts}
use Rattle.plan.specs.Lists.{keep}
use Rattle.plan.specs.Refusals.{first_fault}
use Rattle.plan.specs.Mesh.{lent, adjacent, mesh_checks}
use Rattle.plan.specs.MadeMesh.{MeshBuffers, MeshCapacity}
use Rattle.plan.specs.MatrixMarket.{word_lines, size_line, pair_lines, Pair, row_count, column_count, pairs_of, bad_text, bad_matrix, has_pair, repeated_pair, text_mesh, reading_text, TextRead}

-- An accepted text gives a mesh that passes planning's checks of a mesh, 1 to 7 and 26.
abbrev pub AcceptedPasses : Type 0
AcceptedPasses = (text : List ℕ) (room : MeshCapacity) → (reading_text text room).reply.number ≡ 0 → first_fault (mesh_checks (text_mesh text)) ≡ 0

-- So does what is handed out, lent to planning by the counts that were answered; it is the text's mesh.
abbrev pub HandedPasses : Type 0
HandedPasses =
    (text : List ℕ) (c : MeshCounts) (found left : MeshBuffers) → TextRead text (Ok c) found left
    → (lent c.nodes (take (c.nodes + 1) left.starts) (take c.entries left.neighbours) ≡ text_mesh text)
    × (first_fault (mesh_checks (text_mesh text)) ≡ 0)

-- w stands in v's list exactly when v is not w and the text has the pair of the two, counted from 1, the larger first.
abbrev pub ListsArePairs : Type 0
ListsArePairs =
    (text : List ℕ) (room : MeshCapacity) → (reading_text text room).reply.number ≡ 0 → (v w : ℕ)
    → adjacent (text_mesh text) v w ≡ (not (eqb v w) && has_pair (max v w + 1) (min v w + 1) (pairs_of text))

-- Texts of as many rows that have the same pairs give the same mesh.
abbrev pub SamePairsSameMesh : Type 0
SamePairsSameMesh =
    (a b : List ℕ) → row_count a ≡ row_count b → ((i j : ℕ) → has_pair i j (pairs_of a) ≡ has_pair i j (pairs_of b)) → text_mesh a ≡ text_mesh b

module _ {A : Type 0} where
  -- the same elements, each as often, in any order
  abbrev pub Reordered : List A → List A → Type 0
  Reordered xs ys = (p : A → Bool) → length (keep p xs) ≡ length (keep p ys)

-- "whatever order the pairs came in": texts with the same first line and size line whose lines of pairs differ in order only are read alike.
abbrev pub LinesInAnyOrder : Type 0
LinesInAnyOrder =
    (a b : List ℕ) (room : MeshCapacity) → get_or (word_lines a) 0 [] ≡ get_or (word_lines b) 0 [] → size_line a ≡ size_line b
    → Reordered (pair_lines a) (pair_lines b) → reading_text a room ≡ reading_text b room

-- So are texts of as many rows and columns, both of the kind or both not, whose pairs differ in order only.
abbrev pub OrderIsFree : Type 0
OrderIsFree =
    (a b : List ℕ) (room : MeshCapacity) → bad_text a ≡ bad_text b → row_count a ≡ row_count b → column_count a ≡ column_count b
    → Reordered (pairs_of a) (pairs_of b) → reading_text a room ≡ reading_text b room

abbrev pub off_diagonal : Pair → Bool
off_diagonal p = not (eqb p.0 p.1)

-- There are two entries for each pair that is not diagonal: so check 3, and the neighbours that 8 asks for, by the pairs alone.
abbrev pub EntriesByPairs : Type 0
EntriesByPairs =
    (text : List ℕ) → bad_matrix text ≡ false → repeated_pair text ≡ false
    → length (text_mesh text).neighbours ≡ 2 * length (keep off_diagonal (pairs_of text))

-- A text without a fault of 24 or 25 has at most n (n + 1) / 2 pairs: of more, one is given again.
abbrev pub PairsAreFew : Type 0
PairsAreFew =
    (text : List ℕ) → bad_matrix text ≡ false → repeated_pair text ≡ false → 2 * length (pairs_of text) ≤ row_count text * (row_count text + 1)
