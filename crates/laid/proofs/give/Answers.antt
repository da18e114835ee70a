use Rattle.std.proofs.Common.{◌≡◌, ◌∙◌, ◌*◌, List, sym, ap, arith}
use Rattle.std.specs.Prelude.{ℤ}
use Rattle.std.proofs.lemmas.List.Edits.{sets}
use Rattle.lent.specs.Over.{over}
use Rattle.lent.specs.Entries.{flat, entries_from}
use Rattle.lent.proofs.OverLaws.{over_none}
use Rattle.lent.proofs.EntryTable.{entry_more, length-entries}
use Rattle.graph.specs.Numbers.{edge_numbers, edge_from}
use Rattle.graph.proofs.WidthLaws.{edge-width}
use Rattle.laid.specs.Edges.{edges_of}
use Rattle.laid.proofs.EdgeLaws.{Edge, edges_more}
use Rattle.laid.proofs.give.Goals as goal

pub loop-i-init : goal.loop-i-init
unfolding flat entries_from
loop-i-init c = sym (over_none _)

pub loop-i-preserved : goal.loop-i-preserved
loop-i-preserved c =
    let edges = c.args.edges.now in
    let i = c.loop-i.i in
    let edge : Edge = (c.place_at-a.result, c.place_at-b.result) in
    c.put_edge.ensures
    ∙ ap (λ (t : List ℤ). sets t (i * 4) (edge_numbers edge)) c.loop-i.invariant
    ∙ entry_more edge_numbers edge_from 4 edge-width (edges_of edges i) edge c.args.lent.now i
    (length-entries edge_numbers edge_from 4 edge-width edges 0 i) (omega (arith, c.requires))
    ∙ ap (λ (es : List Edge). over (flat edge_numbers es) c.args.lent.now)
    (sym (edges_more edges i c.place_at-a.result c.place_at-b.result c.place_at-a.ensures c.place_at-b.ensures))

pub returns : goal.returns
returns c =
    let end : c.loop-i.i ≡ c.args.e = omega arith in
    c.loop-i.invariant ∙ ap (λ n. over (flat edge_numbers (edges_of c.args.edges.now n)) c.args.lent.now) end
