-- The head of a text: comments and blank lines are passed up to the size line, and the lines of the pairs stand behind it.
use mathlib.Core.Path.{◌≡◌, sym, ap, ap₂, ◌∙◌}
use mathlib.Core.Bool.{Bool, true, false, not, cond, ◌&&◌}
use mathlib.Core.List.{List, [], ◌∷◌}
use Prim.Native.Nat.{ℕ, ◌≤◌}
use native.Mathlib.Omega.{arith}
use lib.ListN.{length, drop, get_or, drop_of_length-le}
use borrow.Author.Tests.{not-true}
use Rattle.plan.specs.MatrixMarket.{not_empty, Line, word_lines, words_of, is_banner, holds_numbers, number_at, is_comment, skip_comments, content, size_line, pair_lines}
use Rattle.std.specs.Prelude.{Option, Some, None}
use Rattle.lexer.specs.Suffixes.{rest_of_line, behind_line, words_at, lines_at, At, Scanned}
use Rattle.matrix_market.specs.declared.size.Size.{Size}
use Rattle.matrix_market.specs.Lines.{SizeAt, HeadOf}
use Rattle.matrix_market.proofs.Words.{numbers-some}
use Rattle.lexer.proofs.Suffixes.{first_line, later-lines, lines-blank, lines_words, lines_over, lines-begin}

-- a blank line is passed
pub skip_blank : (text : List ℕ) (at next : ℕ) → Scanned (not (not_empty (words_at text at))) text (behind_line (drop at text)) (Some next) → skip_comments (lines_at text at) ≡ skip_comments (lines_at text next)
skip_blank text at next s = ap skip_comments (lines-blank text at next s.1 (not-true _ s.0))

-- a comment is passed
pub skip_comment : (text : List ℕ) (at next : ℕ) → not_empty (words_at text at) ≡ true → is_comment (words_at text at) ≡ true → At text next (behind_line (drop at text))
    → skip_comments (lines_at text at) ≡ skip_comments (lines_at text next)
skip_comment text at next some h a =
    ap skip_comments (lines_words text at next a some) ∙ ap (λ (b : Bool). cond b (skip_comments (lines_at text next)) (words_at text at ∷ lines_at text next)) h

-- any other line with words stays
pub skip_none : (text : List ℕ) (at : ℕ) → not_empty (words_at text at) ≡ true → is_comment (words_at text at) ≡ false → skip_comments (lines_at text at) ≡ lines_at text at
skip_none text at some h =
    let b = lines-begin text at some in
    ap skip_comments b.1 ∙ ap (λ (c : Bool). cond c (skip_comments b.0) (words_at text at ∷ b.0)) h ∙ sym b.1

-- it is the first line
pub first_words_lem : (text : List ℕ) (at : ℕ) → not_empty (words_at text at) ≡ true → get_or (lines_at text at) 0 [] ≡ words_at text at
first_words_lem text at some = ap (λ (l : List Line). get_or l 0 []) (lines-begin text at some).1

-- at the text's end there is none
no_line : (text : List ℕ) (at : ℕ) → at ≤ length text → length text ≤ at → lines_at text at ≡ []
no_line text at le ge = let e : at ≡ length text = omega arith in ap (lines_at text) e ∙ lines_over text

pub no_words : (text : List ℕ) (at : ℕ) → at ≤ length text → length text ≤ at → get_or (lines_at text at) 0 [] ≡ words_at text at
unfolding words_at words_of
no_words text at le ge =
    ap (λ (l : List Line). get_or l 0 []) (no_line text at le ge) ∙ sym (ap (λ (t : List ℕ). words_of (rest_of_line t)) (drop_of_length-le text ge))

pub skip_over : (text : List ℕ) (at : ℕ) → at ≤ length text → length text ≤ at → skip_comments (lines_at text at) ≡ lines_at text at
skip_over text at le ge = ap skip_comments (no_line text at le ge) ∙ sym (no_line text at le ge)

-- ---- the head as a whole

-- the size line at place `at` of a text with the banner
pub head_of : (text : List ℕ) (start at : ℕ) (r : Option Size) → is_banner (words_at text 0) ≡ true → At text start (behind_line text)
    → skip_comments (lines_at text start) ≡ lines_at text at → get_or (lines_at text at) 0 [] ≡ words_at text at → SizeAt text at r → HeadOf text r
unfolding content size_line pair_lines
head_of text start at r said begin skipped first = go r
  where
    whole : content text ≡ lines_at text at
    whole = ap skip_comments (later-lines text start begin) ∙ skipped

    line : size_line text ≡ words_at text at
    line = ap (λ (l : List Line). get_or l 0 []) whole ∙ first

    number : (k : ℕ) → number_at (words_at text at) k ≡ number_at (size_line text) k
    number k = ap (λ (l : Line). number_at l k) (sym line)

    kind : (is_banner (get_or (word_lines text) 0 []) && holds_numbers 3 (size_line text)) ≡ holds_numbers 3 (words_at text at)
    kind = ap₂ (λ (a : Bool) (l : Line). a && holds_numbers 3 l) (ap is_banner (first_line text) ∙ said) line

    go : (r : Option Size) → SizeAt text at r → HeadOf text r
    go None s = kind ∙ s
    go (Some r) s = record {
      good = kind ∙ s.good;
      rows = (s.rows.0 ∙ number 0, s.rows.1);
      columns = s.columns ∙ number 1;
      pairs = (s.pairs.0 ∙ number 2, s.pairs.1);
      within = s.next.0;
      lines = sym (ap (drop 1) (whole ∙ lines_words text at r.next s.next (numbers-some 2 (words_at text at) s.good)));
    }

-- a text without the banner
pub no_head : (text : List ℕ) → is_banner (words_at text 0) ≡ false → HeadOf text None
no_head text other = ap (λ (b : Bool). b && holds_numbers 3 (size_line text)) (ap is_banner (first_line text) ∙ other)
