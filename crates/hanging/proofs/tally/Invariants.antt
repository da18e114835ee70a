use Rattle.hanging.specs.Hanging.{Tallied}
use Rattle.hanging.proofs.tally.Given as goal

abbrev pub invariant-loop-k : goal.invariant-loop-k
invariant-loop-k l = Tallied l.pts l.keys l.lab l.s l.k l.hangs
