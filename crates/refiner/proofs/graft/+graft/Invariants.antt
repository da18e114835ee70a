-- The distance of the vertex falls with each call.
use lib.ListN.{get_or}
use Rattle.refiner.proofs.graft.+graft.Given as goal

abbrev pub decreases-graft : goal.decreases-graft
decreases-graft l = get_or l.far.now l.u 0
