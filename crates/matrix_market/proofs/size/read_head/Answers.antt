-- `size::read_head` meets its contract.
use Rattle.lexer.specs.Suffixes.{behind_line, words_at, At, Scanned}
use Rattle.std.specs.Prelude.{◌≡◌, ℕ, List, true, false, Option, Some, None}
use Rattle.plan.specs.MatrixMarket.{is_banner}
use Rattle.matrix_market.proofs.Heads.{head_of, no_head}
use Rattle.matrix_market.proofs.size.read_head.Goals as goal

none : (text : List ℕ) (r : Option ℕ) → Scanned (is_banner (words_at text 0)) text (behind_line text) r → r ≡ None → is_banner (words_at text 0) ≡ false
none text r s e = rw e at s

some : (text : List ℕ) (r : Option ℕ) (next : ℕ) → Scanned (is_banner (words_at text 0)) text (behind_line text) r → r ≡ Some next → (is_banner (words_at text 0) ≡ true) × At text next (behind_line text)
some text r next s e = rw e at s

pub returns-in_err-second : goal.returns-in_err-second
returns-in_err-second c = rw c.from_residual.ensures (no_head c.args.text.now (none _ _ c.banner.ensures c.in_err-second.was))

pub returns : goal.returns
returns c =
    let said = some _ _ _ c.banner.ensures c.in_ok-second.was in
    head_of c.args.text.now c.in_ok-second.second c.size_line.result c.read_size.result said.0 said.1 c.size_line.ensures.1 c.size_line.ensures.2 c.read_size.ensures
