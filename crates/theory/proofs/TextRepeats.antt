-- A pair given again: by blocks, and by keys.
use mathlib.Core.Path.{◌≡◌, refl, sym, ap, ap₂, ◌∙◌}
use mathlib.Core.Bool.{Bool, true, false, not, ◌&&◌, ◌||◌, false≢true}
use mathlib.Core.List.{List, [], ◌∷◌, ◌++◌, map}
use Prim.Native.Nat.{ℕ, ◌≤◌}
use native.Mathlib.Omega.{arith}
use lib.Dec.{eqb, ltb}
use lib.ListN.{length, get_or}
use borrow.Author.Tests.{eq-eqb, eqb-true, lt-ltb, ltb-true, leb-true, not-false}
use Rattle.plan.specs.Lists.{exists, every, is_in, twice}
use Rattle.plan.specs.MatrixMarket.{max_number, Line, word_lines, is_banner, is_digit, value_of, is_number, holds_numbers, number_at, size_line, pair_lines, Pair, pair_of, pairs_of, bad_text, same_pair, given_again, repeated_pair}
use Rattle.theory.specs.Keys.{key_of}
use Rattle.theory.proofs.Bools.{or_false_left, or_false_right, and_left, and_right, and_both, iff_eq, eqb_comm}
use Rattle.theory.proofs.AnyLists.{some-append}

-- ---- by blocks

-- a pair of the one that the other has too
abbrev pub shared : List Pair → List Pair → Bool
shared xs ys = exists (λ x. exists (same_pair x) ys) xs

-- a repeat in two lists, one behind the other: in the first, in the second, or between them
pub again_append : (xs ys : List Pair) → given_again (xs ++ ys) ≡ (given_again xs || (shared xs ys || given_again ys))
again_append [] ys = refl
again_append (x ∷ xs) ys =
    ap₂ (λ (a b : Bool). a || b) (some-append (same_pair x) xs ys) (again_append xs ys)
    ∙ mix (exists (same_pair x) xs) (exists (same_pair x) ys) (given_again xs) (shared xs ys) (given_again ys)
  where
    mix : (a b c d e : Bool) → ((a || b) || (c || (d || e))) ≡ ((a || c) || ((b || d) || e))
    mix true b c d e = refl
    mix false true true d e = refl
    mix false true false d e = refl
    mix false false true d e = refl
    mix false false false d e = refl

-- it does not matter which of the two lists is gone over
same_comm : (p q : Pair) → same_pair p q ≡ same_pair q p
same_comm p q = ap₂ (λ (a b : Bool). a && b) (eqb_comm p.0 q.0) (eqb_comm p.1 q.1)

pub shared_comm : (xs ys : List Pair) → shared xs ys ≡ shared ys xs
shared_comm [] ys = sym (nothing ys)
  where
    nothing : (ys : List Pair) → shared ys [] ≡ false
    nothing [] = refl
    nothing (y ∷ ys) = nothing ys
shared_comm (x ∷ xs) ys = ap (λ (b : Bool). exists (same_pair x) ys || b) (shared_comm xs ys) ∙ sym (first ys)
  where
    mix : (a b c d : Bool) → ((a || b) || (c || d)) ≡ ((a || c) || (b || d))
    mix true b c d = refl
    mix false true true d = refl
    mix false true false d = refl
    mix false false c d = refl

    first : (ys : List Pair) → shared ys (x ∷ xs) ≡ (exists (same_pair x) ys || shared ys xs)
    first [] = refl
    first (y ∷ ys) =
        ap₂ (λ (a b : Bool). (a || exists (same_pair y) xs) || b) (same_comm y x) (first ys)
        ∙ mix (same_pair x y) (exists (same_pair y) xs) (exists (same_pair x) ys) (shared ys xs)

-- ---- by keys

abbrev pub Narrow : Pair → Type 0
Narrow p = p.0 ≤ max_number

same_key : (p q : Pair) → Narrow p → Narrow q → same_pair p q ≡ eqb (key_of p) (key_of q)
same_key p q a b = iff_eq _ _
    (λ h. let e = eqb-true p.0 q.0 (and_left (eqb p.0 q.0) _ h) in
    let f = eqb-true p.1 q.1 (and_right (eqb p.0 q.0) _ h) in
    eq-eqb (key_of p) (key_of q) (omega (arith, e, f)))
    (λ h. let e = eqb-true (key_of p) (key_of q) h in
    and_both (eqb p.0 q.0) _ (eq-eqb p.0 q.0 (omega (arith, e, a, b))) (eq-eqb p.1 q.1 (omega (arith, e, a, b))))

abbrev pub AllNarrow : List Pair → Type 0
AllNarrow ps = every (λ (p : Pair). ltb p.0 4294967296) ps ≡ true

narrow-head : (p : Pair) (ps : List Pair) → AllNarrow (p ∷ ps) → Narrow p
narrow-head p ps h = let lt = ltb-true p.0 4294967296 (and_left (ltb p.0 4294967296) _ h) in omega (arith, lt)

-- a pair is among others exactly when its key is among theirs
pub has_key : (p : Pair) (ps : List Pair) → Narrow p → AllNarrow ps → exists (same_pair p) ps ≡ is_in (key_of p) (map key_of ps)
has_key p [] a h = refl
has_key p (q ∷ ps) a h =
    ap₂ (λ (a b : Bool). a || b) (same_key p q a (narrow-head q ps h)) (has_key p ps a (and_right (ltb q.0 4294967296) _ h))

pub again_keys : (ps : List Pair) → AllNarrow ps → given_again ps ≡ twice (map key_of ps)
again_keys [] h = refl
again_keys (p ∷ ps) h =
    let rest : AllNarrow ps = and_right (ltb p.0 4294967296) _ h in
    ap₂ (λ (a b : Bool). a || b) (has_key p ps (narrow-head p ps h) rest) (again_keys ps rest)

-- the numbers of a text that passes 23 are of 32 bits
pub first-narrow : (line : Line) → holds_numbers 2 line ≡ true → ltb (number_at line 0) 4294967296 ≡ true
unfolding holds_numbers is_number
first-narrow [] h = absurd (false≢true h)
first-narrow (a ∷ line) h =
    let first : is_number a ≡ true = and_left (is_number a) _ (and_right (eqb (length (a ∷ line)) 2) _ h) in
    lt-ltb (value_of a) 4294967296 (omega (arith, leb-true (value_of a) max_number (and_right (every is_digit a) _ first)))

pub lines-narrow : (lines : List Line) → every (holds_numbers 2) lines ≡ true → AllNarrow (map pair_of lines)
lines-narrow [] h = refl
lines-narrow (l ∷ lines) h =
    and_both (ltb (number_at l 0) 4294967296) _ (first-narrow l (and_left (holds_numbers 2 l) _ h)) (lines-narrow lines (and_right (holds_numbers 2 l) _ h))

pub text_narrow : (text : List ℕ) → bad_text text ≡ false → AllNarrow (pairs_of text)
unfolding bad_text pairs_of
text_narrow text h =
    let kind : Bool = not (is_banner (get_or (word_lines text) 0 [])) in
    let size : Bool = not (holds_numbers 3 (size_line text)) in
    let pairs : Bool = every (holds_numbers 2) (pair_lines text) in
    lines-narrow (pair_lines text) (not-false pairs (or_false_right (kind || size) (not pairs) (or_false_left (kind || size || not pairs) _ h)))

-- so a repeat in it is one among its keys
pub text_again : (text : List ℕ) → bad_text text ≡ false → repeated_pair text ≡ twice (map key_of (pairs_of text))
unfolding repeated_pair
text_again text h = again_keys (pairs_of text) (text_narrow text h)
