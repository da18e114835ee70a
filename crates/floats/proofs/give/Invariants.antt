-- The delays of the pins passed are given.
use Rattle.floats.proofs.MarkLaws.{Filled}
use Rattle.floats.proofs.give.Given as goal

abbrev pub invariant-loop-i : goal.invariant-loop-i
invariant-loop-i l = Filled l.table l.pin l.n l.initial.lent l.lent l.k l.i
