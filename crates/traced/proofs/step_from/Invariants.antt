-- None of the first i segments at v leads on.
use Rattle.traced.proofs.RouteLaws.{NoneTo}
use Rattle.traced.proofs.step_from.Given as goal

abbrev pub invariant-loop-i : goal.invariant-loop-i
invariant-loop-i l = NoneTo l.costs l.e l.row l.v l.i
