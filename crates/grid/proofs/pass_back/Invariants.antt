-- What a pass back over the segments of the crossings from v on comes to.
use Rattle.std.proofs.Common.{◌*◌}
use Rattle.grid.specs.Tables.{Backward, Passed}
use Rattle.grid.proofs.pass_back.Given as goal

abbrev pub invariant-loop-v : goal.invariant-loop-v
invariant-loop-v l = Passed l.costs l.e (Backward l.costs l.e (l.v * 2)) l.moved l.initial.row l.row
