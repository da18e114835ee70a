-- An allowed net's vertices and edges fit the tables, and the edges are those of just these vertices.
use Rattle.std.proofs.Common.{◌≡◌, List, ◌*◌, ◌≤◌, length, take, sym, ap, ◌∙◌, subst, arith}
use Rattle.std.proofs.lemmas.List.{length-take-le}
use Rattle.lists.specs.Sorted.{Ascending}
use Rattle.lent.specs.Over.{over}
use Rattle.lent.specs.Entries.{flat}
use Rattle.plane.specs.declared.Place.{Place}
use Rattle.plane.specs.Place.{before}
use Rattle.plane.specs.Flat.{places_of, macros_of}
use Rattle.plane.proofs.FlatLaws.{length-macros}
use Rattle.net.specs.Bounds.{point_bound}
use Rattle.net.specs.Net.{net_with}
use Rattle.net.proofs.PinLaws.{length-pins}
use Rattle.graph.specs.Spanning.{vertices_of, spanning}
use Rattle.graph.specs.Edges.{edges}
use Rattle.graph.specs.Numbers.{edge_numbers}
use Rattle.graph.proofs.VertexLaws.{vertices-ascending}
use Rattle.graph.proofs.GraphBounds.{few-vertices}
use Rattle.graph.proofs.ReadBack.{vertices-back}
use Rattle.terminal.proofs.chart.Goals as goal
use Rattle.terminal.proofs.chart.Goals.{After-vertices-n}

pub vertices-n-requires : goal.vertices-n-requires
vertices-n-requires c =
    let a = c.requires.allowed in
    omega (arith, a.few-pins, a.few-macros, length-pins c.args.pins.now, length-macros c.args.macros.now, c.requires.points_len)

-- the vertices fit their table, and are read back from it
few : (d : After-vertices-n) → d.vertices-n.result ≤ point_bound
few d = omega (arith, d.vertices-n.ensures.value, few-vertices d.requires.allowed)

fits : (d : After-vertices-n) → d.vertices-n.result * 2 ≤ length d.vertices-n.new.table
fits d = omega (arith, few d, d.requires.points_len)

back : (d : After-vertices-n) →
    places_of (take (d.vertices-n.result * 2) d.vertices-n.new.table) ≡ vertices_of (net_with d.args.w d.args.pins.now d.args.macros.now)
back d = vertices-back _ d.args.points.now d.vertices-n.new.table d.vertices-n.result d.vertices-n.ensures.table_after d.vertices-n.ensures.value

these : (d : After-vertices-n) →
    edges d.args.w (macros_of d.args.macros.now) (places_of (take (d.vertices-n.result * 2) d.vertices-n.new.table))
    ≡ spanning (net_with d.args.w d.args.pins.now d.args.macros.now)
these d = ap (edges d.args.w (macros_of d.args.macros.now)) (back d)

pub overflow_mul-n : goal.overflow_mul-n
overflow_mul-n c = omega (arith, few (goal.at.overflow_mul-n c).After-vertices-n)

pub slice_bounds-edges-end : goal.slice_bounds-edges-end
slice_bounds-edges-end c = fits (goal.at.slice_bounds-edges-end c).After-vertices-n

pub slice_bounds-edges-end-2 : goal.slice_bounds-edges-end-2
slice_bounds-edges-end-2 c = sym (length-take-le _ _ (fits (goal.at.slice_bounds-edges-end-2 c).After-vertices-n))

pub edges-edges-requires-clause-ascending : goal.edges-edges-requires-clause-ascending
edges-edges-requires-clause-ascending c =
    let d = (goal.at.edges-edges-requires-clause-ascending c).After-vertices-n in
    let n = length-take-le (d.vertices-n.result * 2) d.vertices-n.new.table (fits d) in (
      subst (Ascending before) (sym (back d)) (vertices-ascending (net_with c.args.w c.args.pins.now c.args.macros.now)),
      omega (arith, n, few d),
    )

pub returns-clause-points_value : goal.returns-clause-points_value
returns-clause-points_value c =
    let d = (goal.at.returns-clause-points_value c).After-vertices-n in
    (c.vertices-n.ensures.value, c.edges-edges.ensures.value ∙ ap length (these d))

pub returns-clause-links_after : goal.returns-clause-links_after
returns-clause-links_after c =
    let d = (goal.at.returns-clause-links_after c).After-vertices-n in
    c.edges-edges.ensures.table_after ∙ ap (λ (es : List (Place × Place)). over (flat edge_numbers es) c.args.links.now) (these d)
