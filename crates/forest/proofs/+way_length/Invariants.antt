-- The distance of the vertex falls with each call.
use lib.ListN.{get_or}
use Rattle.forest.proofs.+way_length.Given as goal

abbrev pub decreases-way_length : goal.decreases-way_length
decreases-way_length l = get_or l.far.now l.v 0
