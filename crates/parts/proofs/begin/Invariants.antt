-- The numbers are the least sums over the parts below p.
use Rattle.parts.proofs.WorkLaws.{Beginning}
use Rattle.parts.proofs.begin.Given as goal

abbrev pub invariant-loop-p : goal.invariant-loop-p
invariant-loop-p l = Beginning l.m l.work l.s l.p l.row
