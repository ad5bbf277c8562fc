-- A run over the lines of the pairs: those that are passed, and those that are left.
use mathlib.Core.Path.{◌≡◌, refl, sym, ap, ap₂, ◌∙◌}
use mathlib.Core.Logic.{inl, inr}
use mathlib.Core.Bool.{Bool, true, false, cond, ◌&&◌, ◌||◌, or-false}
use mathlib.Core.List.{List, [], ◌∷◌, ◌++◌, map, append-nil, map-append}
use Prim.Native.Nat.{ℕ, ◌+◌, ◌≤◌, ◌<◌}
use native.Mathlib.Omega.{arith}
use lib.ListN.{length, take, drop, set, length-append, length-take, length-map}
use lib.Seq.{take_all, take-append-le, set_out, append_snoc}
use Rattle.plan.specs.Lists.{exists, every, keep, written}
use Rattle.plan.specs.MatrixMarket.{not_empty, Line, holds_numbers, number_at, Pair, pair_of, bad_pair}
use Rattle.plan.specs.AcceptedTexts.{off_diagonal}
use Rattle.theory.specs.Keys.{key_of}
use Rattle.theory.proofs.Bools.{and_both, lt_or_le}
use Rattle.theory.proofs.Written.{written_push, written-length}
use Rattle.theory.proofs.AnyLists.{some-append, all_append, kept_append}
use Rattle.std.specs.Prelude.{Option, Some, None}
use Rattle.matrix_market.specs.declared.pairs.PairLine.{PairLine}
use Rattle.matrix_market.specs.declared.pairs.Pair.{Pair as ReadPair}
use Rattle.matrix_market.specs.declared.pairs.Tally.{Tally}
use Rattle.lexer.specs.Suffixes.{behind_line, words_at, lines_at, At}
use Rattle.matrix_market.specs.Lines.{PairOf, HeldPair, PairAt, pairs_in, keys_in, tally_of}
use Rattle.matrix_market.proofs.Words.{numbers-some}
use Rattle.lexer.proofs.Suffixes.{lines-blank, lines_words, lines_over, lines-begin, line_passed}

-- from place `at` up to place `here` the run has passed the lines `front`, each with a pair
pub record Passed (text : List ℕ) (at here : ℕ) (front : List Line) : Type 0 where
  pub within : here ≤ length text
  pub lines : lines_at text at ≡ front ++ lines_at text here
  pub good : every (holds_numbers 2) front ≡ true
  pub few : length front + at ≤ here

pub passed_start : (text : List ℕ) (at : ℕ) → at ≤ length text → Passed text at at []
passed_start text at le = record { within = le; lines = refl; good = refl; few = omega arith }

module _ (text : List ℕ) (at here : ℕ) (front : List Line) (p : Passed text at here front) where
  -- at the text's end all lines are passed
  pub passed-all : length text ≤ here → lines_at text at ≡ front
  passed-all done =
      let e : here ≡ length text = omega (arith, p.within) in
      p.lines ∙ ap (λ (i : ℕ). front ++ lines_at text i) e ∙ ap (λ (l : List Line). front ++ l) (lines_over text) ∙ append-nil front

  -- a line without words
  pub passed-blank : (next : ℕ) → here < length text → not_empty (words_at text here) ≡ false → At text next (behind_line (drop here text)) → Passed text at next front
  passed-blank next lt b s = record {
    within = s.0;
    lines = p.lines ∙ ap (λ (l : List Line). front ++ l) (lines-blank text here next s b);
    good = p.good;
    few = omega (arith, p.few, line_passed text here next lt s);
  }

  -- one with a pair
  pub passed-pair : (next : ℕ) → here < length text → holds_numbers 2 (words_at text here) ≡ true → At text next (behind_line (drop here text)) → Passed text at next (front ++ (words_at text here ∷ []))
  passed-pair next lt pair s =
      record {
        within = s.0;
        lines = p.lines
            ∙ ap (λ (l : List Line). front ++ l) (lines_words text here next s (numbers-some 1 (words_at text here) pair))
            ∙ sym (append_snoc front (words_at text here) (lines_at text next));
        good = all_append (holds_numbers 2) front (words_at text here ∷ [])
            ∙ and_both (every (holds_numbers 2) front) _ p.good (ap (λ (b : Bool). b && true) pair);
        few = omega (arith, p.few, length-append front (words_at text here ∷ []), line_passed text here next lt s);
      }

  -- a line that has words and no pair
  pub passed_bad : PairAt text here None → every (holds_numbers 2) (lines_at text at) ≡ false
  passed_bad s =
      let begin = lines-begin text here s.0 in
      ap (every (holds_numbers 2)) (p.lines ∙ ap (λ (l : List Line). front ++ l) begin.1)
      ∙ all_append (holds_numbers 2) front (words_at text here ∷ begin.0)
      ∙ ap₂ (λ (a b : Bool). a && (b && every (holds_numbers 2) begin.0)) p.good s.1

-- ---- what a run tells

-- not more pairs are kept than there are
kept-few : (p : Pair → Bool) (l : List Pair) → length (keep p l) ≤ length l
kept-few p [] = omega arith
kept-few p (x ∷ l) = go (p x) (kept-few p l)
  where
    go : (b : Bool) → length (keep p l) ≤ length l → length (cond b (x ∷ keep p l) (keep p l)) ≤ length (x ∷ l)
    go true h = omega arith
    go false h = omega arith

pub links_few : (lines : List Line) → length (keep off_diagonal (pairs_in lines)) ≤ length lines
links_few lines = omega (arith, kept-few off_diagonal (pairs_in lines), length-map lines pair_of)

-- one line more
tally_more : (n : ℕ) (front : List Line) (line : Line)
    → tally_of n (front ++ (line ∷ [])) ≡ record {
      pairs = (tally_of n front).pairs + 1;
      bad = ((tally_of n front).bad || bad_pair n (pair_of line));
      links = (tally_of n front).links + cond (off_diagonal (pair_of line)) 1 0;
    }
tally_more n front line =
    let pairs : pairs_in (front ++ (line ∷ [])) ≡ pairs_in front ++ (pair_of line ∷ []) = map-append pair_of front (line ∷ []) in
    let bad : exists (bad_pair n) (pairs_in front ++ (pair_of line ∷ [])) ≡ (exists (bad_pair n) (pairs_in front) || bad_pair n (pair_of line)) =
    some-append (bad_pair n) (pairs_in front) (pair_of line ∷ []) ∙ ap (λ (b : Bool). exists (bad_pair n) (pairs_in front) || b) (or-false (bad_pair n (pair_of line))) in
    let links : length (keep off_diagonal (pairs_in front ++ (pair_of line ∷ []))) ≡ length (keep off_diagonal (pairs_in front)) + cond (off_diagonal (pair_of line)) 1 0 =
    ap length (kept_append off_diagonal (pairs_in front) (pair_of line ∷ []))
    ∙ length-append (keep off_diagonal (pairs_in front)) _
    ∙ ap (λ (k : ℕ). length (keep off_diagonal (pairs_in front)) + k) (one (off_diagonal (pair_of line)) (pair_of line)) in
    rw (length-append front (line ∷ []), pairs, bad, links)
  where
    one : (b : Bool) (p : Pair) → length (cond b (p ∷ []) []) ≡ cond b 1 0
    one true p = refl
    one false p = refl

-- one key more, as many as the buffer holds
stored_more : (keys found : List ℕ) (x : ℕ) → set (written (take (length found) keys) found) (length keys) x ≡ written (take (length found) (keys ++ (x ∷ []))) found
stored_more keys found x = elim (lt_or_le (length keys) (length found)) [
  | inl lt ↦ (
      let l : length (keys ++ (x ∷ [])) ≡ length keys + 1 = length-append keys (x ∷ []) in
      rw (take_all (length found) keys (omega arith), take_all (length found) (keys ++ (x ∷ [])) (omega (arith, l))) (written_push keys found (length keys) x refl lt))
  | inr le ↦ (
      let few : length (take (length found) keys) ≡ length found = length-take (length found) keys ∙ omega arith in
      set_out (written (take (length found) keys) found) (length keys) x (omega (arith, written-length (take (length found) keys) found (omega (arith, few))))
      ∙ ap (λ (l : List ℕ). written l found) (sym (take-append-le (length found) keys (x ∷ []) le)))
]

-- the same as a run meets it: one pair more is told, and its key stored
keys_more : (front : List Line) (line : Line) → keys_in (front ++ (line ∷ [])) ≡ keys_in front ++ (key_of (pair_of line) ∷ [])
keys_more front line = ap (map key_of) (map-append pair_of front (line ∷ [])) ∙ map-append key_of (pairs_in front) (pair_of line ∷ [])

pub keys-long : (front : List Line) → length (keys_in front) ≡ length front
keys-long front = length-map (pairs_in front) key_of ∙ length-map front pair_of

module _ (front : List Line) (line : Line) (row column : ℕ) (r : row ≡ number_at line 0) (c : column ≡ number_at line 1) where
  pub told-next : (n : ℕ) (s t : Tally) → s ≡ tally_of n front
      → t ≡ record { pairs = s.pairs + 1; bad = (s.bad || bad_pair n (row, column)); links = s.links + cond (off_diagonal (row, column)) 1 0 }
      → t ≡ tally_of n (front ++ (line ∷ []))
  told-next n s t e f = f ∙ rw (e, r, c) (sym (tally_more n front line))

  pub stored_next : (found keys left : List ℕ) (k x : ℕ) → keys ≡ written (take (length found) (keys_in front)) found → k ≡ length front → x ≡ key_of (row, column)
      → left ≡ set keys k x → left ≡ written (take (length found) (keys_in (front ++ (line ∷ [])))) found
  stored_next found keys left k x e l h s =
      s ∙ rw (e, h, r, c, l ∙ sym (keys-long front), keys_more front line) (stored_more (keys_in front) found (key_of (pair_of line)))

-- a buffer with room for it
pub gathered_next : (front : List Line) (line : Line) (row column : ℕ) → row ≡ number_at line 0 → column ≡ number_at line 1
    → (found keys left : List ℕ) (k x : ℕ) → keys ≡ written (keys_in front) found → k ≡ length front → k < length found → x ≡ key_of (row, column)
    → left ≡ set keys k x → left ≡ written (keys_in (front ++ (line ∷ []))) found
gathered_next front line row column r c found keys left k x e l lt h s =
    s ∙ rw (e, h, r, c, keys_more front line) (written_push (keys_in front) found k (key_of (pair_of line)) (keys-long front ∙ sym l) lt)

-- ---- a line as it was read

module _ (text : List ℕ) (here : ℕ) (r : Option PairLine) (s : PairAt text here r) where
  pub read_none : r ≡ None → PairAt text here None
  read_none e = rw e at s

  module _ (line : PairLine) (e : r ≡ Some line) where
    held : HeldPair (words_at text here) line.pair × At text line.next (behind_line (drop here text))
    held = rw e at s

    pub read_blank : line.pair ≡ None → (not_empty (words_at text here) ≡ false) × At text line.next (behind_line (drop here text))
    read_blank f = (rw f at held.0, held.1)

    pub read_some : (p : ReadPair) → line.pair ≡ Some p → PairOf (words_at text here) p × At text line.next (behind_line (drop here text))
    read_some p f = (rw f at held.0, held.1)
