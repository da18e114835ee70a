-- The first arcs are lessened.
use Rattle.sweeps.specs.Tables.{Lessened}
use Rattle.sweeps.proofs.lessen.Given as goal

abbrev pub invariant-loop-a : goal.invariant-loop-a
invariant-loop-a l = Lessened l.row l.t l.a l.initial.left l.left
