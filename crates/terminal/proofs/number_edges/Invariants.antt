-- The ends and the costs of the edges so far stand at the front of the tables.
use Rattle.lent.specs.Entries.{entries}
use Rattle.plane.specs.Flat.{place_from}
use Rattle.graph.specs.Numbers.{edge_from}
use Rattle.terminal.proofs.EdgeTables.{Numbering}
use Rattle.terminal.proofs.number_edges.Given as goal

abbrev pub invariant-loop-k : goal.invariant-loop-k
invariant-loop-k l = Numbering l.w (entries place_from 2 l.vertices l.n) (entries edge_from 4 l.edges l.e) l.ea l.eb l.el l.k
