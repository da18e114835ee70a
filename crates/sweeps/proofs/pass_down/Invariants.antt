-- What visits of the last arcs come to.
use Rattle.std.proofs.Common.{◌≤◌, ◌<◌}
use Rattle.sweeps.specs.Tables.{Passed}
use Rattle.sweeps.proofs.pass_down.Given as goal

abbrev pub invariant-loop-a : goal.invariant-loop-a
invariant-loop-a l = Passed l.left l.cap (λ b. (l.a ≤ b) × (b < l.e)) l.moved l.initial.row l.row
