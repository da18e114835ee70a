-- The wires of the edges passed are given, at most two an edge.
use Rattle.std.proofs.Common.{◌≤◌, ◌*◌}
use Rattle.refined.specs.Wires.{wires_of_edge, wires}
use Rattle.refined.proofs.GivenLaws.{Giving}
use Rattle.refined.proofs.give_wires.Given as goal

abbrev pub invariant-loop-k : goal.invariant-loop-k
invariant-loop-k l = (l.count ≤ 2 * l.k) × Giving wires_of_edge wires l.pts l.keys l.e l.initial.lent l.lent l.count l.k
