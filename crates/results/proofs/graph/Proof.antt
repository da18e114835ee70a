-- `results::graph` meets its contract: the tables hold the vertices, and the edges of just those vertices.
-- Assumes nothing.
use mathlib.Core.Path.{◌≡◌, sym, ap, ◌∙◌, subst}
use mathlib.Core.List.{List}
use Prim.Native.Nat.{◌*◌, ◌≤◌}
use native.Mathlib.Omega.{arith}
use lib.ListN.{length, take}
use lib.Seq.{length-take-le}
use Rattle.lists.specs.Sorted.{Ascending}
use Rattle.lent.specs.Over.{over}
use Rattle.lent.specs.Entries.{flat}
use Rattle.plane.specs.declared.Place.{Place}
use Rattle.plane.specs.Place.{before}
use Rattle.plane.specs.Flat.{places_of, macros_of}
use Rattle.net.specs.Net.{net_of, handed}
use Rattle.graph.specs.Spanning.{spanning}
use Rattle.graph.specs.Edges.{edges}
use Rattle.graph.specs.Numbers.{edge_numbers}
use Rattle.graph.proofs.VertexLaws.{vertices-ascending}
use Rattle.graph.proofs.ReadBack.{vertices-back}
use Rattle.made.proofs.CountedLaws.{as-net, points-few}
use Rattle.answers.specs.Graph.{net_vertices, net_edges, point_count}
use Rattle.answers.proofs.GraphLaws.{vertices-few}
use borrow.Author.Rules.{rules}
use Rattle.results.proofs.graph.Statement.{statement}
use Rattle.results.proofs.graph.Tie as tie

abbrev start : tie.After-vertices-v → tie.Start
start d = d.before.before

-- how many vertices there are
few : (d : tie.After-vertices-v) → d.vertices-v.result ≤ point_count (start d).args.pins.now (start d).args.macros.now
unfolding net_vertices
few d =
    let a = (start d).args in
    omega (arith, d.vertices-v.ensures.0, vertices-few (handed a.net.weights) a.pins.now a.macros.now)

fits : (d : tie.After-vertices-v) → d.vertices-v.result * 2 ≤ length d.vertices-v.new.table
fits d = omega (arith, few d, (start d).requires.1, d.vertices-v.auto.table)

mul-edges : tie.Need-overflow_mul-v
mul-edges c = let d = c.before.before in omega (arith, few d, points-few (start d).requires.0)

slice-reshare-prefix-edges : tie.Need-slice_bounds-edges-end
slice-reshare-prefix-edges c = fits c.before.before

slice-aggregate-edges : tie.Need-slice_bounds-edges-end-2
slice-aggregate-edges c = sym (length-take-le _ _ (fits c.before.before))

edges-requires : tie.Need-edges-e-requires
unfolding net_vertices
edges-requires c κs =
    let d = c.before.before.before in
    let s = start d in
    let a = s.args in
    let vs = net_vertices (handed a.net.weights) a.pins.now a.macros.now in
    let n = length-take-le (d.vertices-v.result * 2) d.vertices-v.new.table (fits d) in
    let back = vertices-back vs a.vertices.now _ _ d.vertices-v.ensures.1 d.vertices-v.ensures.0 in (
      (
        subst (Ascending before) (sym back) (vertices-ascending (net_of (handed a.net.weights) a.pins.now a.macros.now)),
        omega (arith, n, few d, points-few s.requires.0),
      ),
      omega (arith, n, few d, s.requires.1),
    )

returns : tie.Need-returns
unfolding net_vertices net_edges
returns c =
    let d = c.before.before.before.before.before in
    let a = (start d).args in
    let vs = net_vertices (handed a.net.weights) a.pins.now a.macros.now in
    let seen = take (d.vertices-v.result * 2) d.vertices-v.new.table in
    let back : places_of seen ≡ vs = vertices-back vs a.vertices.now _ _ d.vertices-v.ensures.1 d.vertices-v.ensures.0 in
    let these : edges a.net.weights (macros_of a.macros.now) (places_of seen)
    ≡ net_edges (handed a.net.weights) a.pins.now a.macros.now =
    ap (edges a.net.weights (macros_of a.macros.now)) back ∙ ap spanning (as-net (start d).requires.0) in (
      d.vertices-v.ensures.0,
      (
        c.edges-e.ensures.0 ∙ ap length these,
        (
          d.vertices-v.ensures.1,
          c.edges-e.ensures.1 ∙ ap (λ (es : List (Place × Place)). over (flat edge_numbers es) a.edges.now) these,
        ),
      ),
    )

pub graph_spec : {M : Type 1} → statement M
graph_spec =
    tie.close
    (tie.spec
    (λ c κs. omega (arith, c.requires.1)) mul-edges slice-reshare-prefix-edges slice-aggregate-edges edges-requires
    (λ c. search rules) (λ c. search rules)
    returns)
