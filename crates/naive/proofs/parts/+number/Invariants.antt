-- `turns` falls at each call of `naive::parts::number`.
use Rattle.naive.proofs.parts.+number.Given as goal

abbrev pub decreases-number : goal.decreases-number
decreases-number l = l.turns
