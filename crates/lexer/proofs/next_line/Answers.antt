-- `lexer::next_line` meets its contract: behind the first line feed, or the text's end.
use Rattle.std.proofs.Common.{refl, sym, ap, ◌∙◌, arith, ◌+◌, drop}
use lib.Seq.{drop-drop, drop-length}
use Rattle.plan.specs.MatrixMarket.{is_line_feed}
use Rattle.lexer.specs.Suffixes.{starts}
use Rattle.lexer.proofs.Cuts.{place_found, place_none}
use Rattle.lexer.proofs.next_line.Goals as goal

pub returns-in-Some : goal.returns-in-Some
returns-in-Some c =
    let place = place_found (starts is_line_feed) is_line_feed (λ b t. refl) c.args.text.now c.args.at c.in-Some.k (sym c.first_feed.ensures ∙ c.in-Some.is) in
    (omega (arith, place.0), sym (drop-drop 1 (c.args.at + c.in-Some.k) c.args.text.now) ∙ ap (drop 1) place.1)

pub returns-in-None : goal.returns-in-None
returns-in-None c =
    let none = place_none (starts is_line_feed) is_line_feed (λ b t. refl) c.args.text.now c.args.at (sym c.first_feed.ensures ∙ c.in-None.is) in
    (omega arith, drop-length c.args.text.now ∙ sym (ap (drop 1) none))
