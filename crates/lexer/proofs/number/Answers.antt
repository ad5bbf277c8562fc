-- `lexer::number` meets its contract.
use mathlib.Core.Path.{◌≡◌, sym, ap, ◌∙◌}
use mathlib.Core.Bool.{true, false, not, ◌&&◌}
use Prim.Native.Nat.{ℕ, ◌≤◌}
use borrow.Author.Rules.{rules}
use native.Mathlib.Omega.{arith}
use lib.Dec.{eqb, leb}
use lib.ListN.{drop}
use borrow.Author.Tests.{leb-true, le-leb, ne_eqb, not-false}
use Rattle.plan.specs.Lists.{segment}
use Rattle.plan.specs.MatrixMarket.{max_number, value_of}
use Rattle.theory.proofs.Bools.{and_left, and_right, clash, refuted, not_eqb}
use Rattle.lexer.specs.Suffixes.{word_ends, behind_letters, words_at, first_is_number}
use Rattle.lexer.proofs.Numbers.{number-found, number-value, digits_end}
use Rattle.lexer.proofs.number.Goals.{After-digits-d, Joined-then-d-i, then-d-i-via-then-d-i, then-d-i-via-else-d-i+then-d-gt-LARGEST, then-d-i-via-else-d-i+else-d-gt-LARGEST+then-not-word_ends}
use Rattle.lexer.proofs.number.Goals as goal

-- the next word is a number by the three tests
tests : (c : After-digits-d) → first_is_number (words_at c.args.text.now c.args.at) ≡ (not (eqb c.digits-d.result.next c.skip_blanks-i.result) && (word_ends (drop c.digits-d.result.next c.args.text.now) && leb (value_of (segment c.args.text.now c.skip_blanks-i.result c.digits-d.result.next)) max_number))
tests c = number-found c.args.text.now c.args.at c.skip_blanks-i.result c.digits-d.result.next c.skip_blanks-i.ensures c.digits-d.ensures.1

-- the next word is a number by the three tests
tests_at_joined_then_d_i : (c : Joined-then-d-i) → first_is_number (words_at c.args.text.now c.args.at) ≡ (not (eqb c.digits-d.result.next c.skip_blanks-i.result) && (word_ends (drop c.digits-d.result.next c.args.text.now) && leb (value_of (segment c.args.text.now c.skip_blanks-i.result c.digits-d.result.next)) max_number))
tests_at_joined_then_d_i c = number-found c.args.text.now c.args.at c.skip_blanks-i.result c.digits-d.result.next c.skip_blanks-i.ensures c.digits-d.ensures.1

-- where one of them fails there is no number
missed : (c : Joined-then-d-i) → first_is_number (words_at c.args.text.now c.args.at) ≡ true → ⊥
missed c h =
    let e : ℕ = c.digits-d.result.next in
    let i : ℕ = c.skip_blanks-i.result in
    let v : ℕ = value_of (segment c.args.text.now i e) in
    let all = sym (tests_at_joined_then_d_i c) ∙ h in
    let both = and_right (not (eqb e i)) _ all in
    elim c.then-d-i.branch [
      | then-d-i-via-then-d-i w ↦ not_eqb e i (and_left _ _ all) w.if-d-i.true
      | then-d-i-via-else-d-i+then-d-gt-LARGEST w ↦ omega (arith, w.if-d-gt-LARGEST.true, c.digits-d.ensures.2, leb-true v max_number (and_right (word_ends (drop e c.args.text.now)) _ both))
      | then-d-i-via-else-d-i+else-d-gt-LARGEST+then-not-word_ends w ↦ clash _ (and_left (word_ends (drop e c.args.text.now)) _ both) (sym w.word_ends.ensures ∙ w.if-not-word_ends.true)
    ]

pub returns-then-d-i : goal.returns-then-d-i
returns-then-d-i c = refuted _ (missed (goal.at.returns-then-d-i c).Joined-then-d-i)

pub returns : goal.returns
returns c =
    let e : ℕ = c.digits-d.result.next in
    let i : ℕ = c.skip_blanks-i.result in
    let v : ℕ = value_of (segment c.args.text.now i e) in
    let apart : eqb e i ≡ false = ne_eqb e i c.if-d-i.false in
    let ends : word_ends (drop e c.args.text.now) ≡ true = sym c.word_ends.ensures ∙ not-false _ (ap not c.if-not-word_ends.false) in
    let low : c.digits-d.result.value ≤ max_number = search rules in
    let some : first_is_number (words_at c.args.text.now c.args.at) ≡ true = tests (goal.at.returns c).After-digits-d ∙ rw (apart, ends) (le-leb v max_number (omega (arith, low, c.digits-d.ensures.2))) in
    let behind = digits_end c.args.text.now c.args.at i e c.skip_blanks-i.ensures c.digits-d.ensures.1 ends in
    record {
      found = some;
      value = omega (arith, low, c.digits-d.ensures.2, number-value c.args.text.now c.args.at i e c.skip_blanks-i.ensures c.digits-d.ensures.1 apart ends);
      next = (behind.0, behind.1 ∙ ap behind_letters c.skip_blanks-i.ensures.1);
    }
