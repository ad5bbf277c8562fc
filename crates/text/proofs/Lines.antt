-- The lines of the listing, taken apart: what each is made of, and how long it is.
use mathlib.Core.Path.{◌≡◌, refl, ap, ◌∙◌}
use mathlib.Core.List.{List, [], ◌∷◌, ◌++◌, flatten, append_assoc}
use Prim.Native.Nat.{ℕ, ◌+◌, ◌≤◌}
use native.Mathlib.Omega.{arith}
use lib.ListN.{length, take, length-append}
use lib.Seq.{length-take-le}
use Rattle.plan.specs.Planning.{Contents}
use Rattle.plan.specs.Listing.{decimal, spaced, head_line, line_of, position_line, refusal_line, print}
use Rattle.text.specs.Lines.{labelled, head_of, lines_of, lent_plan}
use Rattle.text.proofs.Sequences.{texts-append}
use Rattle.text.proofs.Decimals.{spaced_one}

-- the words
abbrev nodes_word : List ℕ
nodes_word = 110 ∷ 111 ∷ 100 ∷ 101 ∷ 115 ∷ []

abbrev parts_word : List ℕ
parts_word = 32 ∷ 112 ∷ 97 ∷ 114 ∷ 116 ∷ 115 ∷ []

abbrev slots_word : List ℕ
slots_word = 32 ∷ 115 ∷ 108 ∷ 111 ∷ 116 ∷ 115 ∷ []

abbrev refused_word : List ℕ
refused_word = 114 ∷ 101 ∷ 102 ∷ 117 ∷ 115 ∷ 101 ∷ 100 ∷ []

-- ---- the first line

pub head-parts : (n p s : ℕ) → head_of n p s ≡ labelled nodes_word n ++ (labelled parts_word p ++ (labelled slots_word s ++ (10 ∷ [])))
unfolding head_line flatten
head-parts n p s = refl

pub head-length : (n p s : ℕ) → length (head_of n p s) ≡ length (labelled nodes_word n) + (length (labelled parts_word p) + (length (labelled slots_word s) + 1))
head-length n p s =
    let a : List ℕ = labelled nodes_word n in
    let b : List ℕ = labelled parts_word p in
    let d : List ℕ = labelled slots_word s in
    omega (arith, ap length (head-parts n p s), length-append a (b ++ (d ++ (10 ∷ []))), length-append b (d ++ (10 ∷ [])), length-append d (10 ∷ []))

-- it shows the counts only
pub head-counts : (c : Contents) → head_line c ≡ head_of c.nodes c.parts c.slots
unfolding head_line
head-counts c = refl

-- ---- a position's line

-- numbers behind two others
spaced_two : (x y : ℕ) (l : List ℕ) → spaced (x ∷ y ∷ l) ≡ spaced (x ∷ []) ++ (spaced (y ∷ []) ++ spaced l)
unfolding spaced
spaced_two x y l = texts-append spaced_one (x ∷ []) (y ∷ l) ∙ ap (λ (t : List ℕ). spaced (x ∷ []) ++ t) (texts-append spaced_one (y ∷ []) l)

pub line_parts : (j v q : ℕ) (rows : List ℕ) → line_of j v q rows ≡ decimal j ++ (spaced (v ∷ []) ++ (spaced (q ∷ []) ++ (spaced rows ++ (10 ∷ []))))
line_parts j v q rows = rw (spaced_two v q rows, append_assoc, append_assoc)

pub line_length : (j v q : ℕ) (rows : List ℕ) → length (line_of j v q rows) ≡ length (decimal j) + (length (spaced (v ∷ [])) + (length (spaced (q ∷ [])) + (length (spaced rows) + 1)))
line_length j v q rows =
    let a : List ℕ = spaced (v ∷ []) in
    let b : List ℕ = spaced (q ∷ []) in
    let d : List ℕ = spaced rows in
    omega (arith, ap length (line_parts j v q rows), length-append (decimal j) (a ++ (b ++ (d ++ (10 ∷ [])))), length-append a (b ++ (d ++ (10 ∷ []))), length-append b (d ++ (10 ∷ [])), length-append d (10 ∷ []))

-- ---- a refusal

pub refusal-parts : (k : ℕ) → refusal_line k ≡ labelled refused_word k ++ (10 ∷ [])
unfolding refusal_line
refusal-parts k = refl

pub refusal-length : (k : ℕ) → length (refusal_line k) ≡ length (labelled refused_word k) + 1
refusal-length k = ap length (refusal-parts k) ∙ length-append (labelled refused_word k) (10 ∷ [])

-- ---- a plan

-- the plan at the front of buffers: the first line, and a line for each position
pub plan-parts : (n p s : ℕ) (order sizes column_starts rows : List ℕ) → n ≤ length order
    → print 0 (lent_plan n p s order sizes column_starts rows) ≡ head_of n p s ++ lines_of (take n order) (take p sizes) column_starts rows
unfolding print head_line position_line
plan-parts n p s order sizes column_starts rows h = rw (length-take-le n order h)

pub plan-length : (n p s : ℕ) (order sizes column_starts rows : List ℕ) → n ≤ length order
    → length (print 0 (lent_plan n p s order sizes column_starts rows)) ≡ length (head_of n p s) + length (lines_of (take n order) (take p sizes) column_starts rows)
plan-length n p s order sizes column_starts rows h =
    ap length (plan-parts n p s order sizes column_starts rows h) ∙ length-append (head_of n p s) (lines_of (take n order) (take p sizes) column_starts rows)
