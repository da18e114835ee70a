-- What a pass on over the segments of the crossings below v comes to.
use Rattle.std.proofs.Common.{◌*◌}
use Rattle.grid.specs.Tables.{Onward, Passed}
use Rattle.grid.proofs.pass_on.Given as goal

abbrev pub invariant-loop-v : goal.invariant-loop-v
invariant-loop-v l = Passed l.costs l.e (Onward l.costs l.e (l.v * 2)) l.moved l.initial.row l.row
