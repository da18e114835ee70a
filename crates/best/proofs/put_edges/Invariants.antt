-- The marked ones of the first j segments are given.
use Rattle.best.proofs.GivenLaws.{Given}
use Rattle.best.proofs.put_edges.Given as goal

abbrev pub invariant-loop-j : goal.invariant-loop-j
invariant-loop-j l = Given l.xs l.ys l.used l.initial.edges l.j l.count l.edges
