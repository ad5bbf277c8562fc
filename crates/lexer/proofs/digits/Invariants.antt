-- `lexer::digits` meets its contract: the loop passes digits only, and counts their value up to 2^32.
use Rattle.std.proofs.Common.{◌≡◌, ◌+◌, min}
use Rattle.plan.specs.Lists.{segment}
use Rattle.plan.specs.MatrixMarket.{value_of}
use Rattle.lexer.specs.Suffixes.{not_digit}
use Rattle.lexer.proofs.Cuts.{Passed}
use Rattle.lexer.proofs.digits.Given as goal

abbrev pub invariant-loop-k : goal.invariant-loop-k
invariant-loop-k l = Passed not_digit l.text l.at (l.at + l.k) × (l.value ≡ min 4294967296 (value_of (segment l.text l.at (l.at + l.k))))
