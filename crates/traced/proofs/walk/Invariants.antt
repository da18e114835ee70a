-- The edges passed lead down to u and are marked. The number at u falls.
use Rattle.std.proofs.Common.{◌<◌}
use Rattle.lines.specs.Bounds.{crossing_bound}
use Rattle.grid.specs.Rows.{at}
use Rattle.traced.proofs.RouteLaws.{Walking}
use Rattle.traced.proofs.walk.Given as goal

abbrev pub invariant-loop-k : goal.invariant-loop-k
invariant-loop-k l = (l.u < crossing_bound) × Walking l.costs l.e l.row l.v l.u l.initial.used l.used

abbrev pub decreases-loop-k : goal.decreases-loop-k
decreases-loop-k l = at l.row l.u
