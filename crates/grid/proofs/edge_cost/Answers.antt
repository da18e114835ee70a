use Rattle.std.proofs.Common.{sym, ◌∙◌, arith}
use Rattle.grid.proofs.SegmentLaws.{segment-ends, edge_none, edge-made}
use Rattle.grid.proofs.edge_cost.Goals as goal

pub returns-then-not-is_segment : goal.returns-then-not-is_segment
returns-then-not-is_segment c = sym (edge_none _ _ _ _ _ _ (sym c.is_segment.ensures ∙ c.if-not-is_segment.true))

pub crossing-b-requires : goal.crossing-b-requires
crossing-b-requires c =
    let inside = sym c.is_segment.ensures ∙ c.if-not-is_segment.false in
    (omega arith, rw c.target.ensures (segment-ends _ _ c.requires.few_lines.0 inside))

pub segment_cost-requires : goal.segment_cost-requires
segment_cost-requires c = rw (c.crossing-a.ensures, c.crossing-b.ensures) (c.requires.priced _ _)

pub returns : goal.returns
returns c =
    c.segment_cost.ensures
    ∙ edge-made _ _ _ _ _ _ _ _ _ c.crossing-a.ensures c.crossing-b.ensures c.target.ensures
    (sym c.is_segment.ensures ∙ c.if-not-is_segment.false)
