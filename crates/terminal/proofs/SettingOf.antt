-- The spanning graph of an allowed net, by numbers, is what the theorems of the terminal tree suppose: edges join two different vertices
-- and are as long as metal between them costs, and the graph joins its vertices, among them the pins.
-- Assumes nothing.
use mathlib.Core.Path.{◌≡◌, refl, sym, ap, ap₂, ◌∙◌}
use mathlib.Core.Logic.{inl}
use mathlib.Core.List.Memᴰ
use mathlib.Core.List.{List, [], ◌∷◌}
use Prim.Native.Nat.{ℕ, suc, ◌≤◌, ◌<◌}
use native.Mathlib.Omega.{arith}
use lib.ListN.{length}
use Rattle.lists.specs.Member.{◌∈◌, here}
use Rattle.lists.specs.Sorted.{position}
use Rattle.lists.proofs.MemberLaws.{get_d-in}
use Rattle.lists.proofs.MapLaws.{in_map}
use Rattle.lists.proofs.SortedLaws.{position-small, at_position}
use Rattle.joined.specs.Joined.{Joined}
use Rattle.joined.proofs.JoinedLaws.{one as one_link, between, carried}
use Rattle.plane.specs.declared.Place.{Place}
use Rattle.plane.proofs.CostLaws.{cost-comm}
use Rattle.net.specs.Allowed.{Allowed}
use Rattle.net.specs.Net.{Net, cost_in}
use Rattle.graph.specs.Spanning.{vertices_of, spanning}
use Rattle.graph.specs.Edges.{before_edge}
use Rattle.graph.proofs.VertexLaws.{pin-vertex, vertices-ascending}
use Rattle.graph.proofs.EdgeLaws.{Edge, edge_order}
use Rattle.graph.proofs.GraphBounds.{edge-bound, few-vertices, few-edges, spanning-ascending, spanning-edge, edge-least}
use Rattle.graph.proofs.Connected.{connected}
use Rattle.forest.specs.Edges.{one, two, len}
use Rattle.forest.specs.Setting.{ends, pairs, Setting, Whole}
use Rattle.keeping.specs.Kept.{terminal}
use Rattle.forest.proofs.EdgeLaws.{in-from}
use Rattle.keeping.proofs.OurTree.{kept-count}
use Rattle.terminal.specs.Number.{number_of, vertex_at, edge_at, pin_numbers}
use Rattle.terminal.specs.Tree.{graph_of, tree_of}
use Rattle.terminal.proofs.NumberLaws.{vertex-in, number_small, vertex-of-number, number-of-vertex, one_of, two-of, len_of}
use Rattle.terminal.proofs.NumberLaws.{count_of, pins-count, pin-number-in, pin-small, pins-once}

module _ {net : Net} (a : Allowed net) where
  abbrev vs : List Place
  vs = vertices_of net

  abbrev es : List (Place × Place)
  es = spanning net

  -- what the lengths are
  abbrev pub between-numbers : ℕ → ℕ → ℕ
  between-numbers i j = cost_in net (vertex_at (vertices_of net) i) (vertex_at (vertices_of net) j)

  module _ (k : ℕ) (h : k < (graph_of net).count) where
    inside : k < length es
    inside = rw (count_of net.weights vs es) at h

    -- the edge of a number
    pub edge_in : edge_at (spanning net) k ∈ spanning net
    edge_in = get_d-in es k _ inside

    pub edge-at : Edge net.macros (vertices_of net) (edge_at (spanning net) k).0 (edge_at (spanning net) k).1
    edge-at = spanning-edge net (edge_at es k) edge_in

    -- its ends as vertices
    pub one-vertex : vertex_at (vertices_of net) (one (graph_of net) k) ≡ (edge_at (spanning net) k).0
    one-vertex = ap (vertex_at vs) (one_of net.weights vs es k inside) ∙ vertex-of-number vs (vertices-ascending net) _ edge-at.first

    pub two-vertex : vertex_at (vertices_of net) (two (graph_of net) k) ≡ (edge_at (spanning net) k).1
    two-vertex = ap (vertex_at vs) (two-of net.weights vs es k inside) ∙ vertex-of-number vs (vertices-ascending net) _ edge-at.second

    pub len_is : len (graph_of net) k ≡ cost_in net (edge_at (spanning net) k).0 (edge_at (spanning net) k).1
    len_is = len_of net.weights vs es k inside

  -- pins are vertices
  pin-in : (p : Place) → p ∈ net.pins → p ∈ vs
  pin-in p m = pin-vertex net m

  pub setting : Setting (graph_of net) (length (vertices_of net)) between-numbers (pin_numbers (vertices_of net) net.pins)
  setting = record {
    vertices = few-vertices a;
    edges = rw (count_of net.weights vs es) (few-edges a);
    one_in = λ k h. rw (one_of net.weights vs es k (inside k h)) (number_small vs (vertices-ascending net) _ (edge-at k h).first);
    two_in = λ k h. rw (two-of net.weights vs es k (inside k h)) (number_small vs (vertices-ascending net) _ (edge-at k h).second);
    measured = λ k h. ap₂ (cost_in net) (one-vertex k h) (two-vertex k h) ∙ sym (len_is k h);
    some = λ k h. rw (len_is k h) (edge-least a _ (edge_in k h));
    short = λ k h. rw (len_is k h) (edge-bound a _ (edge_in k h));
    even = λ i j. cost-comm net.weights _ _;
    sources-in = λ p m. pin-small vs net.pins (vertices-ascending net) pin-in p m;
  }

  -- an edge of places is an edge of their numbers
  pub edge-numbers : (u v : Place) → (u, v) ∈ spanning net →
      (number_of (vertices_of net) u, number_of (vertices_of net) v) ∈ pairs (graph_of net)
  unfolding ends
  edge-numbers u v m =
      let k = position before_edge es (u, v) in
      let small : k < length es = position-small before_edge edge_order es (spanning-ascending net) (u, v) m in
      let is : edge_at es k ≡ (u, v) = at_position before_edge edge_order es (spanning-ascending net) (u, v) _ m in
      let counted : k < (graph_of net).count = rw (count_of net.weights vs es) small in
      Memᴰ.cast
      (ap₂ (λ (i j : ℕ). (i, j))
      (sym (one_of net.weights vs es k small ∙ ap (λ (e : Place × Place). number_of vs e.0) is))
      (sym (two-of net.weights vs es k small ∙ ap (λ (e : Place × Place). number_of vs e.1) is)))
      (in_map (ends (graph_of net)) (in-from 0 (graph_of net).count k (omega arith) (omega arith)))

  joins : (x y : ℕ) → x < length vs → y < length vs → Joined (pairs (graph_of net)) x y
  joins x y i j =
      between
      (sym (number-of-vertex vs (vertices-ascending net) x i))
      (sym (number-of-vertex vs (vertices-ascending net) y j))
      (carried (number_of vs) (λ u v m. one_link (inl (edge-numbers u v m))) (connected a _ _ (vertex-in vs x i) (vertex-in vs y j)))

  -- a first pin
  first-pin : (l : List Place) → 1 ≤ length l → (p : Place) × (p ∈ l)
  first-pin [] h = absurd (let z : ⊥ = omega arith in z)
  first-pin (p ∷ l) h = (p, here refl)

  pub whole : Whole (graph_of net) (length (vertices_of net)) (pin_numbers (vertices_of net) net.pins)
  whole =
      let p = first-pin net.pins a.some-pin in
      record {
        joined = joins;
        source = number_of vs p.0;
        is-source = pin-number-in vs net.pins p.0 p.1;
        once = pins-once vs net.pins (vertices-ascending net) pin-in;
      }

  -- T14: m − 1 paths are kept
  pub paths-count : suc (length (tree_of net).bridges) ≡ length net.pins
  unfolding tree_of terminal
  paths-count = kept-count setting whole ∙ pins-count vs net.pins a.pins-apart
