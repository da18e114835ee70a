-- The graph of a net: its edges are ascending and join vertices. Of an allowed net vertices have their coordinates in range, an edge costs
-- from 1 to 32,000,000, and there are at most 640 vertices and 2,560 edges.
-- Assumes nothing.
use Prim.Native.Nat.{◌≤◌}
use native.Mathlib.Omega.{arith}
use lib.ListN.{length}
use Rattle.lists.specs.Member.{◌∈◌}
use Rattle.lists.specs.Sorted.{Ascending}
use Rattle.lists.proofs.TestLaws.{either}
use Rattle.lists.proofs.EachLaws.{Piece}
use Rattle.joined.specs.Joined.{Inside}
use Rattle.plane.specs.declared.Place.{Place}
use Rattle.net.specs.Net.{Net, cost_in}
use Rattle.net.specs.Allowed.{PlaceInRange, Allowed}
use Rattle.net.specs.Bounds.{point_bound, edge_bound, cost_bound}
use Rattle.net.proofs.RangeBounds.{cost-in-range}
use Rattle.net.proofs.AllowedLaws.{allowed-positive}
use Rattle.graph.specs.Vertices.{corners_of}
use Rattle.graph.specs.Edges.{before_edge}
use Rattle.graph.specs.Spanning.{vertices_of, spanning}
use Rattle.graph.proofs.VertexLaws.{at-corner, of-vertices, vertices-ascending, length-vertices}
use Rattle.graph.proofs.EdgeLaws.{Edge, edge-of, edge-some, edges-ascending, edges-inside, length-edges}

module _ (net : Net) where
  pub spanning-ascending : Ascending before_edge (spanning net)
  spanning-ascending = edges-ascending net.weights net.macros (vertices_of net)

  -- what holds of each edge, and that both its ends are vertices
  pub spanning-edge : (e : Place × Place) → e ∈ spanning net → Edge net.macros (vertices_of net) e.0 e.1
  spanning-edge = edge-of net.macros (vertices_of net) net.weights (vertices-ascending net)

  pub spanning-inside : Inside (vertices_of net) (spanning net)
  spanning-inside = edges-inside net.macros (vertices_of net) net.weights (vertices-ascending net)

module _ {net : Net} (a : Allowed net) where
  corner-in-range : (c : Place) → Piece corners_of net.macros c → PlaceInRange c
  corner-in-range c p =
      let r = a.macros-in-range p.entry p.stands in
      at-corner p.entry PlaceInRange
      (record { x = r.left; y = r.bottom })
      (record { x = r.left; y = r.top })
      (record { x = r.right; y = r.bottom })
      (record { x = r.right; y = r.top })
      c p.holds

  pub vertex-in-range : (v : Place) → v ∈ vertices_of net → PlaceInRange v
  vertex-in-range v i = either (a.pins-in-range v) (corner-in-range v) (of-vertices net i)

  -- what an edge costs, at least and at most
  pub edge-least : (e : Place × Place) → e ∈ spanning net → 1 ≤ cost_in net e.0 e.1
  edge-least e m = edge-some net.weights (allowed-positive a) e.0 e.1 (spanning-edge net e m)

  pub edge-bound : (e : Place × Place) → e ∈ spanning net → cost_in net e.0 e.1 ≤ cost_bound
  edge-bound e m =
      let r = spanning-edge net e m in
      cost-in-range a e.0 e.1 (vertex-in-range _ r.first) (vertex-in-range _ r.second)

  -- N23: at most 640 points and 2,560 edges
  pub few-vertices : length (vertices_of net) ≤ point_bound
  few-vertices = omega (arith, length-vertices net, a.few-pins, a.few-macros)

  pub few-edges : length (spanning net) ≤ edge_bound
  few-edges = omega (arith, length-edges net.weights net.macros (vertices_of net), few-vertices)
