-- The tables of an allowed net's graph are its spanning graph: vertices and edges by number are the vertices and edges, in order.
-- Assumes nothing.
use mathlib.Core.Path.{◌≡◌, refl, sym, ap, ap₂, ◌∙◌, subst}
use mathlib.Core.Logic.{inl, inr}
use mathlib.Core.List.{List, [], ◌∷◌, map}
use Prim.Native.Nat.{ℕ, ◌*◌, ◌<◌}
use lib.IntN.{ℤ, pos}
use lib.ListN.{length, replicate}
use Rattle.lists.specs.Member.{◌∈◌}
use Rattle.lent.specs.Over.{over}
use Rattle.lent.specs.Entries.{flat}
use Rattle.plane.specs.declared.Place.{Place}
use Rattle.plane.specs.Flat.{place_at}
use Rattle.net.specs.Net.{Net}
use Rattle.net.specs.Allowed.{Allowed}
use Rattle.joined.specs.Joined.{Link}
use Rattle.joined.specs.Way.{Way, stop, go}
use Rattle.graph.specs.Spanning.{vertices_of, spanning}
use Rattle.graph.specs.Numbers.{place_numbers}
use Rattle.graph.proofs.VertexLaws.{vertices-ascending}
use Rattle.graph.proofs.GraphBounds.{spanning-edge}
use Rattle.forest.specs.Bounds.{point_bound}
use Rattle.forest.specs.Setting.{pairs}
use Rattle.forest.proofs.Nearest.{link-in}
use Rattle.terminal.specs.Number.{number_of, vertex_at}
use Rattle.terminal.specs.Tree.{graph_of}
use Rattle.terminal.proofs.NumberLaws.{vertex-in, vertex-of-number, number-of-vertex, number_small}
use Rattle.terminal.proofs.SettingOf.{setting}
use Rattle.terminal.proofs.CrossingLaws.{way-places, way-numbers}
use Rattle.refined.specs.Ground.{ground_of}
use Rattle.refined.proofs.NetGround.{place_is, net-grounded}
use Rattle.rules.specs.Edges.{Edge}
use Rattle.rules.specs.Spanning.{Vertex}
use Rattle.rules.proofs.SpanningOurs.{graph-ours}
use Rattle.rules.proofs.ReachOurs.{Charts}

-- a way of one step is a link
link-of : {A : Type 0} {L : List (A × A)} {x y z : A} → Way L x (y ∷ []) z → Link L x y
link-of (go l w) = l

one-step : {A : Type 0} {L : List (A × A)} {x y : A} → Link L x y → Way L x (y ∷ []) y
one-step l = go l (stop refl)

module _ {net : Net} (a : Allowed net) where
  abbrev vs : List Place
  vs = vertices_of net

  abbrev at : ℕ → Place
  at i = place_at (over (flat place_numbers (vertices_of net)) (replicate (point_bound * 2) (pos 0))) i

  to-vertex : (i : ℕ) → i < length vs → Vertex net (at i)
  to-vertex i h = ((graph-ours net).vertices (at i)).0 (subst (λ (p : Place). p ∈ vs) (sym (place_is a i h)) (vertex-in vs i h))

  by_number : (x : Place) → Vertex net x → (i : ℕ) × ((i < length vs) × (x ≡ at i))
  by_number x v =
      let m = ((graph-ours net).vertices x).1 v in
      let h = number_small vs (vertices-ascending net) x m in
      (number_of vs x, (h, sym (place_is a (number_of vs x) h ∙ vertex-of-number vs (vertices-ascending net) x m)))

  linked : (i j : ℕ) → Link (pairs (graph_of net)) i j → Link (spanning net) (at i) (at j)
  linked i j l =
      let b = link-in (setting a) i j l in
      subst (λ (p : Place). Link (spanning net) p (at j)) (sym (place_is a i b.near-in))
      (subst (λ (p : Place). Link (spanning net) (vertex_at vs i) p) (sym (place_is a j b.far-in))
      (link-of (way-places a (one-step l))))

  unlinked : (i j : ℕ) → i < length vs → j < length vs → Link (spanning net) (at i) (at j) → Link (pairs (graph_of net)) i j
  unlinked i j hi hj l =
      let number : (k : ℕ) → k < length vs → number_of vs (at k) ≡ k
      = λ k h. ap (number_of vs) (place_is a k h) ∙ number-of-vertex vs (vertices-ascending net) k h in
      subst (λ (k : ℕ). Link (pairs (graph_of net)) k j) (number i hi)
      (subst (λ (k : ℕ). Link (pairs (graph_of net)) (number_of vs (at i)) k) (number j hj) (link-of (way-numbers a (one-step l))))

  ends-in : (x y : Place) → Link (spanning net) x y → Vertex net x × Vertex net y
  ends-in x y (inl m) =
      let e = spanning-edge net (x, y) m in (((graph-ours net).vertices x).0 e.first, ((graph-ours net).vertices y).0 e.second)
  ends-in x y (inr m) =
      let e = spanning-edge net (y, x) m in (((graph-ours net).vertices x).0 e.second, ((graph-ours net).vertices y).0 e.first)

  pub net-charts : Charts net (spanning net) (ground_of net)
  unfolding ground_of
  net-charts = record {
    grounded = net-grounded a;
    vertex-to = to-vertex;
    number = by_number;
    link-to = linked;
    link-from = unlinked;
    closed = ends-in;
    upward = λ e m. (spanning-edge net e m).smaller-first;
  }
