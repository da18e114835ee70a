-- The turn of the point falls with each call.
use lib.ListN.{get_or}
use Rattle.longest.proofs.+cut_at.Given as goal

abbrev pub decreases-cut_at : goal.decreases-cut_at
decreases-cut_at l = get_or l.turn.now l.v 0
