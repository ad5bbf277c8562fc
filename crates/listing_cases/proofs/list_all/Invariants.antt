-- `listing_cases::list_all` ends: each case leaves less.
use lib.ListN.{length}
use Rattle.listing_cases.proofs.list_all.Given as goal

abbrev pub decreases-loop-case : goal.decreases-loop-case
decreases-loop-case g l = length l.left
