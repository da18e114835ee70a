-- The tables say of each point passed whether it is a pin, and its load.
use Rattle.delay.specs.Table.{Loaded}
use Rattle.delay.proofs.loads.load.Given as goal

abbrev pub invariant-loop-i : goal.invariant-loop-i
invariant-loop-i l = Loaded l.pins l.pts l.i l.pin l.loads
