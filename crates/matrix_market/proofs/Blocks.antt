-- A pair given again, block by block: in the block, between it and the lines behind it, or behind it.
use mathlib.Core.Path.{◌≡◌, refl, sym, ap, ap₂, ◌∙◌}
use mathlib.Core.Bool.{Bool, true, false, ◌||◌}
use mathlib.Core.List.{List, [], ◌∷◌, ◌++◌, map, map-append}
use Prim.Native.Nat.{ℕ, suc, ◌≤◌}
use native.Mathlib.Omega.{arith}
use lib.ListN.{length, take}
use lib.Seq.{length-take-le}
use borrow.Author.Tests.{not-false, ltb-true}
use Rattle.plan.specs.Lists.{exists, every, is_in, ascending, written, twice}
use Rattle.plan.specs.MatrixMarket.{Line, holds_numbers, number_at, Pair, pair_of, given_again}
use Rattle.theory.specs.Keys.{key_of}
use Rattle.theory.specs.Counting.{count}
use Rattle.theory.proofs.Bools.{or_left, or_right, and_left, and_right, iff_eq}
use Rattle.theory.proofs.Counting.{same-members}
use Rattle.theory.proofs.Written.{written-length, front-written}
use Rattle.theory.proofs.AnyLists.{some-append, all_append}
use Rattle.theory.proofs.TextRepeats.{shared, again_append, shared_comm, AllNarrow, has_key, again_keys, lines-narrow, first-narrow}
use Rattle.sorting.specs.Sorted.{sorted}
use Rattle.matrix_market.specs.declared.repeats.Block.{Block}
use Rattle.lexer.specs.Suffixes.{lines_at}
use Rattle.matrix_market.specs.Lines.{pairs_in, keys_in}
use Rattle.matrix_market.specs.Blocks.{Blocked}
use Rattle.matrix_market.proofs.Runs.{keys-long}
use Rattle.sorting.proofs.Sorted.{sorted-alike, sorted_rises, twice-alike, twice-sorted}

-- ---- sorted keys

sorted-is_in : (l : List ℕ) (x : ℕ) → is_in x (sorted l) ≡ is_in x l
sorted-is_in l x = iff_eq _ _ (same-members (sorted l) l (sorted-alike l) x) (same-members l (sorted l) (λ p. sym (sorted-alike l p)) x)

pub sorted-long : (l : List ℕ) → length (sorted l) ≡ length l
sorted-long l = sym (count-all (sorted l)) ∙ sorted-alike l (λ x. true) ∙ count-all l
  where
    count-all : (l : List ℕ) → count (λ x. true) l ≡ length l
    count-all [] = refl
    count-all (x ∷ l) = ap suc (count-all l)

pub sorted-twice : (l : List ℕ) → twice (sorted l) ≡ twice l
sorted-twice l = twice-alike (sorted l) l (sorted-alike l)

pub sorted-ascends : (l : List ℕ) → twice l ≡ false → ascending (sorted l) ≡ true
sorted-ascends l h = not-false _ (sym (twice-sorted (sorted l) (sorted_rises l)) ∙ sorted-twice l ∙ h)

-- ---- a block and the lines behind it

-- whether the key of a line's pair is among these
abbrev pub key_among : List ℕ → Line → Bool
key_among keys l = is_in (key_of (pair_of l)) keys

-- a pair that both have, by keys
shared_keys : (block : List Pair) → AllNarrow block → (lines : List Line) → every (holds_numbers 2) lines ≡ true
    → shared (pairs_in lines) block ≡ exists (key_among (map key_of block)) lines
shared_keys block narrow [] good = refl
shared_keys block narrow (l ∷ lines) good =
    let lt = ltb-true (number_at l 0) 4294967296 (first-narrow l (and_left (holds_numbers 2 l) _ good)) in
    ap₂ (λ (a b : Bool). a || b) (has_key (pair_of l) block (omega (arith, lt)) narrow) (shared_keys block narrow lines (and_right (holds_numbers 2 l) _ good))

-- a repeat among the pairs of lines that fall into a block and a rest
again_by_block : (front rest : List Line) → every (holds_numbers 2) (front ++ rest) ≡ true
    → given_again (pairs_in (front ++ rest)) ≡ (twice (keys_in front) || (exists (key_among (keys_in front)) rest || given_again (pairs_in rest)))
again_by_block front rest good =
    let both = sym (all_append (holds_numbers 2) front rest) ∙ good in
    let narrow = lines-narrow front (and_left (every (holds_numbers 2) front) _ both) in
    ap given_again (map-append pair_of front rest)
    ∙ again_append (pairs_in front) (pairs_in rest)
    ∙ ap₂ (λ (a b : Bool). a || (b || given_again (pairs_in rest))) (again_keys (pairs_in front) narrow)
    (shared_comm (pairs_in front) (pairs_in rest) ∙ shared_keys (pairs_in front) narrow rest (and_right (every (holds_numbers 2) front) _ both))

-- all pairs in one block
pub again_in_one : (lines : List Line) → every (holds_numbers 2) lines ≡ true → given_again (pairs_in lines) ≡ twice (keys_in lines)
again_in_one lines good = again_keys (pairs_in lines) (lines-narrow lines good)

-- the sorted keys find what the keys would
among_sorted : (keys : List ℕ) (lines : List Line) → exists (key_among (sorted keys)) lines ≡ exists (key_among keys) lines
among_sorted keys [] = refl
among_sorted keys (l ∷ lines) = ap₂ (λ (a b : Bool). a || b) (sorted-is_in keys (key_of (pair_of l))) (among_sorted keys lines)

-- a line whose key is among these, and one whose is not, behind some whose are not
pub among_found : (keys : List ℕ) (front : List Line) (line : Line) (rest : List Line) → key_among keys line ≡ true
    → exists (key_among keys) ((front ++ (line ∷ [])) ++ rest) ≡ true
among_found keys front line rest h =
    some-append (key_among keys) (front ++ (line ∷ [])) rest
    ∙ or_left (exists (key_among keys) (front ++ (line ∷ []))) _ (some-append (key_among keys) front (line ∷ []) ∙ or_right (exists (key_among keys) front) _ (ap (λ (b : Bool). b || false) h))

pub among_more : (keys : List ℕ) (front : List Line) (line : Line) → exists (key_among keys) front ≡ false → key_among keys line ≡ false
    → exists (key_among keys) (front ++ (line ∷ [])) ≡ false
among_more keys front line none h = some-append (key_among keys) front (line ∷ []) ∙ ap₂ (λ (a b : Bool). a || (b || false)) none h

-- ---- the lines from one block on

module _ (text : List ℕ) (at : ℕ) (r : Block) (found left : List ℕ) (b : Blocked text at r found left) where
  -- the block's keys stand at the front of the buffer
  block_keys : take r.count left ≡ keys_in b.front
  block_keys = front-written r.count (keys_in b.front) found left b.keys (keys-long b.front ∙ sym b.many)

  pub block_long : length left ≡ length found
  block_long = ap length b.keys ∙ written-length (keys_in b.front) found (omega (arith, b.fits, b.many, keys-long b.front))

  pub block_fits : r.count ≤ length left
  block_fits = omega (arith, block_long, b.fits)

  module _ (good : every (holds_numbers 2) (lines_at text at) ≡ true) where
    whole : every (holds_numbers 2) (b.front ++ lines_at text r.next) ≡ true
    whole = ap (every (holds_numbers 2)) (sym b.lines) ∙ good

    pub block_rest : every (holds_numbers 2) (lines_at text r.next) ≡ true
    block_rest = and_right (every (holds_numbers 2) b.front) _ (sym (all_append (holds_numbers 2) b.front (lines_at text r.next)) ∙ whole)

    split : given_again (pairs_in (lines_at text at))
        ≡ (twice (keys_in b.front) || (exists (key_among (keys_in b.front)) (lines_at text r.next) || given_again (pairs_in (lines_at text r.next))))
    split = ap (λ (l : List Line). given_again (pairs_in l)) b.lines ∙ again_by_block b.front (lines_at text r.next) whole

    -- a repeat in the block
    pub block_twice : (t : Bool) → t ≡ twice (take r.count left) → t ≡ true → given_again (pairs_in (lines_at text at)) ≡ true
    block_twice t e h = split ∙ or_left (twice (keys_in b.front)) _ (ap twice (sym block_keys) ∙ sym e ∙ h)

    -- one between the block and the lines behind it, by the sorted keys
    among : (keys : List ℕ) → keys ≡ sorted (take r.count left)
        → exists (key_among keys) (lines_at text r.next) ≡ exists (key_among (keys_in b.front)) (lines_at text r.next)
    among keys e =
        ap (λ (l : List ℕ). exists (key_among l) (lines_at text r.next)) (e ∙ ap sorted block_keys) ∙ among_sorted (keys_in b.front) (lines_at text r.next)

    pub block_met : (keys : List ℕ) → keys ≡ sorted (take r.count left) → exists (key_among keys) (lines_at text r.next) ≡ true
        → given_again (pairs_in (lines_at text at)) ≡ true
    block_met keys e h = split ∙ or_right (twice (keys_in b.front)) _ (or_left (exists (key_among (keys_in b.front)) (lines_at text r.next)) _ (sym (among keys e) ∙ h))

    -- neither: it is behind the block, or nowhere
    pub block_passed : (t : Bool) (keys : List ℕ) → t ≡ twice (take r.count left) → t ≡ false → keys ≡ sorted (take r.count left)
        → exists (key_among keys) (lines_at text r.next) ≡ false → given_again (pairs_in (lines_at text at)) ≡ given_again (pairs_in (lines_at text r.next))
    block_passed t keys e h f g =
        split ∙ ap₂ (λ (x y : Bool). x || (y || given_again (pairs_in (lines_at text r.next)))) (ap twice (sym block_keys) ∙ sym e ∙ h) (sym (among keys f) ∙ g)

  -- the sorted keys ascend where none stands twice
  pub block_ascends : (t : Bool) (keys : List ℕ) → t ≡ twice (take r.count left) → t ≡ false → keys ≡ sorted (take r.count left) → ascending keys ≡ true
  block_ascends t keys e h f = ap ascending f ∙ sorted-ascends (take r.count left) (sym e ∙ h)

-- the front of a buffer, sorted in its place
pub sorted_front : (count : ℕ) (keys left : List ℕ) → count ≤ length keys → left ≡ written (sorted (take count keys)) keys
    → (take count left ≡ sorted (take count keys)) × (length left ≡ length keys)
sorted_front count keys left le e =
    let many : length (sorted (take count keys)) ≡ count = sorted-long (take count keys) ∙ length-take-le count keys le in
    (front-written count (sorted (take count keys)) keys left e many, ap length e ∙ written-length (sorted (take count keys)) keys (omega (arith, many)))
