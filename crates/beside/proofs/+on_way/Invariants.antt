-- The distance of the vertex falls with each call.
use lib.ListN.{get_or}
use Rattle.beside.proofs.+on_way.Given as goal

abbrev pub decreases-on_way : goal.decreases-on_way
decreases-on_way l = get_or l.far.now l.u 0
