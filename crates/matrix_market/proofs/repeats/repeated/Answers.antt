-- `repeats::repeated` meets its contract.
use mathlib.Core.Path.{◌≡◌, refl, sym, ap, ◌∙◌}
use mathlib.Core.Logic.{inl, inr}
use mathlib.Core.Bool.{true}
use Prim.Native.Nat.{◌+◌, ◌*◌, ◌<◌}
use native.Mathlib.Omega.{arith}
use lib.ListN.{length-map}
use borrow.Author.Tests.{ltb-true}
use Rattle.plan.specs.MatrixMarket.{given_again, pair_of}
use Rattle.plan.specs.Lists.{twice}
use Rattle.theory.proofs.Bools.{tested}
use Rattle.theory.proofs.TextEntries.{pairs-few}
use Rattle.sorting.specs.Sorted.{sorted}
use Rattle.lexer.specs.Suffixes.{lines_at}
use Rattle.matrix_market.specs.Lines.{pairs_in}
use Rattle.matrix_market.proofs.Blocks.{sorted_front, again_in_one}
use Rattle.matrix_market.proofs.repeats.repeated.Goals as goal

-- one block holds all
pub returns-then-pairs-keys : goal.returns-then-pairs-keys
returns-then-pairs-keys c =
    let lines = lines_at c.args.text.now c.args.at in
    let all = c.requires.keys_value c.if-pairs-keys.true in
    let front = sorted_front c.args.pairs c.args.keys.now c.sort_block.new.keys c.if-pairs-keys.true c.sort_block.ensures.1 in
    record {
      value = (c.sort_block.ensures.0 ∙ ap twice all ∙ sym (again_in_one lines c.requires.at_value.0), front.1);
      keys_after = λ le. front.0 ∙ ap sorted all;
    }

-- more pairs than places: one is given again
pub returns-then-crowded : goal.returns-then-crowded
returns-then-crowded c =
    let lines = lines_at c.args.text.now c.args.at in
    let more : c.args.n * (c.args.n + 1) < 2 * c.args.pairs = ltb-true (c.args.n * (c.args.n + 1)) (2 * c.args.pairs) (sym c.crowded.ensures ∙ c.if-crowded.true) in
    let again : given_again (pairs_in lines) ≡ true = elim (tested (given_again (pairs_in lines))) [
      | inl t ↦ t
      | inr once ↦ absurd (omega (arith, more, pairs-few c.args.n (pairs_in lines) c.requires.at_value.1 once, c.requires.at_value.2, length-map lines pair_of))
    ] in
    record {
      value = (sym again, refl);
      keys_after = λ le. absurd (omega (arith, le, c.if-pairs-keys.false));
    }
