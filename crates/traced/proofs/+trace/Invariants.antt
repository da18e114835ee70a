-- The number of the set falls with each call.
use Rattle.traced.proofs.+trace.Given as goal

abbrev pub decreases-trace : goal.decreases-trace
decreases-trace l = l.s
