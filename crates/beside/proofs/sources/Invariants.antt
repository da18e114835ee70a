-- The vertices that are left are still to come.
use Rattle.beside.proofs.BesideLaws.{Gathering}
use Rattle.beside.proofs.sources.Given as goal

abbrev pub invariant-loop-i : goal.invariant-loop-i
invariant-loop-i l = Gathering l.pts l.n l.vertices l.v l.initial.source l.source l.c l.i
