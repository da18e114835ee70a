-- The distance of the vertex falls with each call.
use lib.ListN.{get_or}
use Rattle.union.proofs.+mark_way.Given as goal

abbrev pub decreases-mark_way : goal.decreases-mark_way
decreases-mark_way l = get_or l.far.now l.v 0
