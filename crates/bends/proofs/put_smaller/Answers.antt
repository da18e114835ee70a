use Rattle.std.proofs.Common.{sym, ◌∙◌}
use Rattle.graph.specs.Edges.{edge_of}
use Rattle.bends.proofs.put_smaller.Goals as goal

pub returns-then-is_before : goal.returns-then-is_before
unfolding edge_of
returns-then-is_before c = rw (edge_of, sym c.is_before.ensures ∙ c.if-is_before.true) c.put_edge.ensures

pub returns-else-is_before : goal.returns-else-is_before
unfolding edge_of
returns-else-is_before c = rw (edge_of, sym c.is_before.ensures ∙ c.if-is_before.false) c.put_edge-else-is_before.ensures
