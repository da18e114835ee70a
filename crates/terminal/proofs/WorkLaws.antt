-- The tree is worked out stage by stage: vertices and edges in their tables, the same by numbers, the pins by numbers, the tree itself.
-- What each stage asks for follows from those before it, and all of them together are what is promised.
-- Assumes nothing.
use mathlib.Core.Path.{◌≡◌, refl, sym, ap, ap₂, ◌∙◌}
use mathlib.Core.List.{List, [], map, append-nil}
use Prim.Native.Nat.{ℕ, ◌*◌, ◌≤◌}
use native.Mathlib.Omega.{arith}
use lib.IntN.{ℤ}
use lib.ListN.{length, get_or, length-map}
use Rattle.lists.specs.Sorted.{sorted, Ascending}
use Rattle.lent.specs.Over.{over}
use Rattle.lent.specs.Entries.{flat, entries}
use Rattle.lent.proofs.OverLaws.{length_over}
use Rattle.lent.proofs.EntryTable.{length-flat, entries_over}
use Rattle.plane.specs.declared.Place.{Place}
use Rattle.plane.specs.Place.{before}
use Rattle.plane.specs.Flat.{macros_of, place_from}
use Rattle.plane.specs.Cost.{plain}
use Rattle.net.specs.Allowed.{Allowed}
use Rattle.net.specs.Net.{Net}
use Rattle.graph.specs.Spanning.{vertices_of, spanning}
use Rattle.graph.specs.Vertices.{corners, vertices}
use Rattle.graph.specs.Numbers.{place_numbers, edge_numbers, edge_from}
use Rattle.graph.proofs.VertexLaws.{pin-vertex, vertices-ascending, length-vertices}
use Rattle.graph.proofs.GraphBounds.{few-vertices, few-edges}
use Rattle.graph.proofs.WidthLaws.{place-width, edge-width}
use Rattle.forest.specs.Bounds.{point_bound, edge_bound}
use Rattle.forest.specs.Edges.{graph, entries as entries_in, Fits, FirstBelow, Listed}
use Rattle.forest.specs.Labels.{labels}
use Rattle.forest.specs.Parents.{parents}
use Rattle.keeping.specs.Kept.{Terminal, terminal}
use Rattle.keeping.proofs.KeptLaws.{read-listed, entry_listed}
use Rattle.forest.proofs.Nearest.{fits}
use Rattle.terminal.specs.declared.TerminalTree.{TerminalTree}
use Rattle.terminal.specs.Number.{number_of, numbered, pin_numbers}
use Rattle.terminal.specs.Tree.{graph_of, tree_of}
use Rattle.terminal.specs.Tables.{Tables, tables, Fresh, Worked}
use Rattle.terminal.proofs.NumberLaws.{pins-count, pin-small}
use Rattle.terminal.proofs.SettingOf.{setting}

-- Pins

-- with no macro the vertices are the pins
pins-alone : (ps : List Place) → vertices ps (macros_of []) ≡ sorted before ps
unfolding vertices corners macros_of
pins-alone ps = ap (sorted before) (append-nil ps)

pub pins-few : (ps : List Place) → length (vertices ps (macros_of [])) ≤ length ps
unfolding macros_of
pins-few ps = omega (arith, length-vertices (record { pins = ps; macros = []; weights = plain }))

pub pins-numbered : (vs ps : List Place) (lent table : List ℤ) (numbers last : List ℕ) (m : ℕ)
    → m ≡ length (vertices ps (macros_of [])) → table ≡ over (flat place_numbers (vertices ps (macros_of []))) lent
    → last ≡ over (map (number_of vs) (entries place_from 2 table m)) numbers → Listed (pin_numbers vs ps) numbers last m
unfolding pin_numbers
pins-numbered vs ps lent table numbers last m e t n =
    let read : entries place_from 2 table m ≡ sorted before ps =
    ap (λ (l : List ℤ). entries place_from 2 l m) t
    ∙ entries_over place_numbers place_from 2 place-width (vertices ps (macros_of [])) lent m (sym e)
    ∙ pins-alone ps in
    record {
      count = e ∙ ap length (pins-alone ps) ∙ sym (length-map (sorted before ps) (number_of vs));
      table_is = n ∙ ap (λ (l : List Place). over (map (number_of vs) l) numbers) read;
    }

-- Vertices and edges in their tables

pub record Charted (net : Net) (lent : Tables) (points links : List ℤ) (n e : ℕ) : Type 0 where
  pub vertex-count : n ≡ length (vertices_of net)
  pub edge_count : e ≡ length (spanning net)
  pub vertices-are : points ≡ over (flat place_numbers (vertices_of net)) lent.points
  pub edges_are : links ≡ over (flat edge_numbers (spanning net)) lent.links

-- what is worked out is charted
pub worked-charted : {net : Net} {lent t : Tables} {r : TerminalTree} → Worked net lent t r
    → Charted net lent t.points t.links r.points r.edges
worked-charted w = record {
  vertex-count = w.vertex-count;
  edge_count = w.edge_count;
  vertices-are = w.vertices-are;
  edges_are = w.edges_are;
}

module _ {net : Net} {lent : Tables} {points links : List ℤ} {n e : ℕ} (a : Allowed net) (fresh : Fresh lent)
    (c : Charted net lent points links n e) where
  vertices-in : entries place_from 2 points n ≡ vertices_of net
  vertices-in =
      ap (λ (l : List ℤ). entries place_from 2 l n) c.vertices-are
      ∙ entries_over place_numbers place_from 2 place-width (vertices_of net) lent.points n (sym c.vertex-count)

  pub vertices-in-order : Ascending before (entries place_from 2 points n)
  vertices-in-order = rw vertices-in (vertices-ascending net)

  pub edges-in : entries edge_from 4 links e ≡ spanning net
  edges-in =
      ap (λ (l : List ℤ). entries edge_from 4 l e) c.edges_are
      ∙ entries_over edge_numbers edge_from 4 edge-width (spanning net) lent.links e (sym c.edge_count)

  pub vertices-fit : n * 2 ≤ length points
  vertices-fit =
      let f = length-flat place_numbers place_from 2 place-width (vertices_of net) in
      let small : length (flat place_numbers (vertices_of net)) ≤ length lent.points = omega (arith, f, few-vertices a, fresh.points) in
      let same : length points ≡ length lent.points =
      ap length c.vertices-are ∙ length_over (flat place_numbers (vertices_of net)) lent.points small in
      omega (arith, same, c.vertex-count, few-vertices a, fresh.points)

  pub links-long : length links ≡ length lent.links
  links-long =
      let f = length-flat edge_numbers edge_from 4 edge-width (spanning net) in
      ap length c.edges_are ∙ length_over (flat edge_numbers (spanning net)) lent.links (omega (arith, f, few-edges a, fresh.links))

  pub edges_fit : e * 4 ≤ length links
  edges_fit = omega (arith, links-long, c.edge_count, few-edges a, fresh.links)

  pub few-links : e ≤ edge_bound
  few-links = omega (arith, c.edge_count, few-edges a)

  pub few-points : n ≤ point_bound
  few-points = omega (arith, c.vertex-count, few-vertices a)

  -- Edges and pins by numbers

  module _ {ea eb el pin : List ℕ} {m : ℕ}
      (g : graph ea eb el e ≡ numbered net.weights (entries place_from 2 points n) (entries edge_from 4 links e))
      (p : Listed (pin_numbers (entries place_from 2 points n) net.pins) lent.pins pin m) where
    graph_same : graph ea eb el e ≡ graph_of net
    graph_same = g ∙ ap₂ (numbered net.weights) vertices-in edges-in

    pins-listed : Listed (pin_numbers (vertices_of net) net.pins) lent.pins pin m
    pins-listed = rw (← vertices-in) p

    pin-total : m ≡ length net.pins
    pin-total = pins-listed.count ∙ pins-count (vertices_of net) net.pins a.pins-apart

    -- what the tree asks for
    pub tree-asks : Fits (graph ea eb el e) × ((n ≤ point_bound) × ((m ≤ point_bound) × FirstBelow pin m point_bound))
    tree-asks = (
      rw graph_same (fits (setting a)),
      (
        few-points,
        (
          omega (arith, pin-total, a.few-pins),
          record {
            inside = λ i h.
                (let r = pin-small (vertices_of net) net.pins (vertices-ascending net) (λ q k. pin-vertex net k) (get_or pin i 0)
                (entry_listed _ _ pin m pins-listed i h) in
                omega (arith, r, few-vertices a));
          },
        ),
      ),
    )

    tree-same : terminal (graph ea eb el e) n (entries_in pin 0 m) ≡ tree_of net
    unfolding tree_of
    tree-same = rw (graph_same, read-listed _ _ pin m pins-listed, c.vertex-count) refl

    -- the tree and all before it
    pub all-worked : {far root up via kept long : List ℕ} {count sum : ℕ} (t : Terminal) → t
        ≡ terminal (graph ea eb el e) n (entries_in pin 0 m)
        → labels far root ≡ t.labels → parents up via ≡ t.parents → Listed t.bridges lent.kept kept count
        → Listed t.lengths lent.longs long count → sum ≡ t.total
        → Worked net lent (tables points links ea eb el pin far root up via kept long)
        (record { points = n; edges = e; pins = m; kept = count; total = sum })
    all-worked t is f u k l s =
        let same : t ≡ tree_of net = is ∙ tree-same in
        record {
          vertices-are = c.vertices-are;
          edges_are = c.edges_are;
          graph_is = graph_same;
          pins-are = pins-listed;
          labels-are = f ∙ ap (λ (x : Terminal). x.labels) same;
          parents-are = u ∙ ap (λ (x : Terminal). x.parents) same;
          bridges-are = rw same at k;
          lengths-are = rw same at l;
          total-is = s ∙ ap (λ (x : Terminal). x.total) same;
          vertex-count = c.vertex-count;
          edge_count = c.edge_count;
          pin-count = pin-total;
        }
