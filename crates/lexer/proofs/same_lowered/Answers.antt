-- `lexer::same_lowered` meets its contract: the bytes are as many as the word's letters, and each, lowered, is the letter at its place.
use Rattle.std.proofs.Common.{◌≡◌, sym, ap, ap₂, ◌∙◌, ℕ, Bool, ◌&&◌, eqb, List, [], ◌∷◌, map, length, zip, inl, inr, arith, refl, lt-ltb, le-ltb, le-leb, ne_eqb}
use lib.ListN.{length-map}
use Rattle.std.specs.Char.{to_ascii_lowercase}
use Rattle.std.specs.List.{list_all}
use Rattle.std.proofs.lemmas.Bool.{lt-leb}
use Rattle.plan.specs.Lists.{same}
use Rattle.plan.specs.MatrixMarket.{lower}
use Rattle.theory.proofs.Bools.{lt_or_le, refuted}
use Rattle.theory.proofs.Lists.{same_equal}
use Rattle.lexer.proofs.same_lowered.Goals as goal

lowered : (b : ℕ) → to_ascii_lowercase b ≡ lower b
lowered b = elim (lt_or_le b 65) [
  | inl low ↦ rw (lt-ltb b 65 low, lt-leb 65 b low)
  | inr up ↦ elim (lt_or_le b 91) [
    | inl low ↦ rw (le-ltb b 65 up, lt-ltb b 91 low, le-leb 65 b up, le-leb b 90 (omega arith))
    | inr high ↦ rw (le-ltb b 65 up, le-ltb b 91 high, le-leb 65 b up, lt-leb b 90 (omega arith))
  ]
]

-- letter by letter
letters : (bytes word : List ℕ) → length bytes ≡ length word → list_all (λ p. eqb (to_ascii_lowercase p.0) p.1) (zip bytes word) ≡ same (map lower bytes) word
letters [] [] e = refl
letters [] (y ∷ word) e = absurd (omega (arith, e))
letters (b ∷ bytes) [] e = absurd (omega (arith, e))
letters (b ∷ bytes) (y ∷ word) e = ap₂ (λ (p q : Bool). p && q) (ap (λ (x : ℕ). eqb x y) (lowered b)) (letters bytes word (omega (arith, e)))

pub returns-then-bytes-word : goal.returns-then-bytes-word
returns-then-bytes-word c = c.letters_lowered.ensures ∙ letters c.args.bytes.now c.args.word.now c.if-bytes-word.true

pub returns-else-bytes-word : goal.returns-else-bytes-word
returns-else-bytes-word c =
    ne_eqb _ _ c.if-bytes-word.false ∙ sym (refuted (same (map lower c.args.bytes.now) c.args.word.now)
    (λ h. c.if-bytes-word.false (sym (length-map c.args.bytes.now lower) ∙ ap length (same_equal (map lower c.args.bytes.now) c.args.word.now h))))
