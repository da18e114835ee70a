-- The edges passed are given.
use Rattle.std.proofs.Common.{◌≡◌}
use Rattle.lent.specs.Over.{over}
use Rattle.lent.specs.Entries.{flat}
use Rattle.graph.specs.Numbers.{edge_numbers}
use Rattle.laid.specs.Edges.{edges_of}
use Rattle.laid.proofs.give.Given as goal

abbrev pub invariant-loop-i : goal.invariant-loop-i
invariant-loop-i l = l.lent ≡ over (flat edge_numbers (edges_of l.edges l.i)) l.initial.lent
