-- The edges passed are given, each as it is.
use Rattle.refined.proofs.GivenLaws.{Giving, itself, all}
use Rattle.refined.proofs.give_edges.Given as goal

abbrev pub invariant-loop-k : goal.invariant-loop-k
invariant-loop-k l = Giving itself all l.pts l.keys l.e l.initial.lent l.lent l.k l.k
