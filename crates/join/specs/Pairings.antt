-- The book's pairing that the pairs of the code are: their lists as lent.
use Rattle.plan.specs.Joining.{pairing, Pairing as BookPairing}
use Rattle.join.specs.declared.pairing.Pairing.{Pairing}

abbrev pub pairing_of : Pairing → BookPairing
pairing_of p = pairing p.first.now p.second.now
