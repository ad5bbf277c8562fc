-- `lexer::digits` meets its contract: the loop passes digits only, and counts their value up to 2^32.
use Rattle.std.proofs.Common.{◌≡◌, sym, ap, ◌∙◌, arith, ℕ, ◌+◌, ◌-◌, ◌<◌, length, drop, take, get_or}
use Rattle.std.specs.Char.{is_ascii_digit}
use Rattle.plan.specs.MatrixMarket.{is_digit}
use Rattle.lexer.proofs.Cuts.{kind_more, left_long, left_byte}
use Rattle.lexer.proofs.Numbers.{value-next}
use Rattle.lexer.proofs.digits.Goals.{After-is_ascii_digit}
use Rattle.lexer.proofs.digits.Goals as goal

-- the byte at the place
byte : (c : After-is_ascii_digit) → get_or (take (length c.args.text.now - c.args.at) (drop c.args.at c.args.text.now)) c.loop-k.k 0 ≡ get_or c.args.text.now (c.args.at + c.loop-k.k) 0
byte c = left_byte c.args.text.now c.args.at c.loop-k.k c.loop-k-test.true

inside : (c : After-is_ascii_digit) → c.args.at + c.loop-k.k < length c.args.text.now
inside c = left_long c.args.text.now c.args.at c.loop-k.k c.loop-k-test.true

test : (c : After-is_ascii_digit) → c.is_ascii_digit.result ≡ is_digit (get_or c.args.text.now (c.args.at + c.loop-k.k) 0)
test c = c.is_ascii_digit.ensures.value ∙ ap is_ascii_digit (byte c)

pub loop-k-preserved : goal.loop-k-preserved
loop-k-preserved c =
    let u = (goal.at.loop-k-preserved c).After-is_ascii_digit in
    let i : ℕ = c.args.at + c.loop-k.k in
    let e : c.args.at + (c.loop-k.k + 1) ≡ i + 1 = omega arith in
    rw e (
      kind_more is_digit c.args.text.now c.args.at i c.loop-k.invariant.0 (inside u) (sym (test u) ∙ c.if-not-is_ascii_digit.false),
      omega (arith, byte u, value-next 4294967296 c.args.text.now c.args.at i c.loop-k.value c.loop-k.invariant.0.least (inside u) c.loop-k.invariant.1),
    )
