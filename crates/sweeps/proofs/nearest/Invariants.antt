-- The least height at the first crossings.
use Rattle.sweeps.specs.Tables.{LeastAt}
use Rattle.sweeps.proofs.nearest.Given as goal

abbrev pub invariant-loop-i : goal.invariant-loop-i
invariant-loop-i l = LeastAt l.row l.numbers l.i l.t
