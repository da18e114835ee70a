-- The lines of the edges passed are put.
use Rattle.std.proofs.Common.{◌≤◌, ◌+◌, ◌*◌}
use Rattle.lent.specs.Entries.{flat, entries}
use Rattle.graph.specs.Numbers.{edge_from}
use Rattle.text.specs.Text.{edge_line}
use Rattle.text.specs.Put.{Wrote}
use Rattle.text.proofs.Page.edges.Given as goal

abbrev pub invariant-loop-i : goal.invariant-loop-i
invariant-loop-i l =
    (l.self.at ≤ l.initial.self.at + l.i * 105) × Wrote l.initial.self (flat (edge_line l.w) (entries edge_from 4 l.edges l.i)) l.self
