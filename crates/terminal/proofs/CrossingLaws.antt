-- From numbers to places and back: the graph by numbers and the spanning graph carry each other's terminal paths over, and so do the kept
-- bridges by numbers and the kept paths that are given. An edge and its number determine each other, because edges are in order.
-- Assumes nothing.
use mathlib.Core.Path.{◌≡◌, refl, sym, ap, ap₂, ◌∙◌}
use mathlib.Core.Logic.{inl}
use mathlib.Core.List.Memᴰ
use mathlib.Core.List.{List, map}
use Prim.Native.Nat.{ℕ, ◌<◌}
use lib.ListN.{length}
use Rattle.lists.specs.Member.{◌∈◌}
use Rattle.lists.specs.Sorted.{position}
use Rattle.lists.proofs.MapLaws.{Source, in_map, of_map}
use Rattle.lists.proofs.SortedLaws.{position_at}
use Rattle.joined.specs.Way.{Way, long}
use Rattle.joined.specs.Path.{TerminalPath, length_of}
use Rattle.joined.proofs.JoinedLaws.{firsts, seconds}
use Rattle.joined.proofs.CarriedLaws.{Carries, way-carried, long-carried, path-carried, length-carried, Follows}
use Rattle.plane.specs.declared.Place.{Place}
use Rattle.net.specs.Allowed.{Allowed}
use Rattle.net.specs.Net.{Net, cost_in}
use Rattle.graph.specs.Spanning.{vertices_of, spanning}
use Rattle.graph.specs.Edges.{before_edge}
use Rattle.graph.proofs.VertexLaws.{pin-vertex, vertices-ascending}
use Rattle.graph.proofs.EdgeLaws.{edge_order}
use Rattle.graph.proofs.GraphBounds.{spanning-ascending, spanning-inside}
use Rattle.forest.specs.Edges.{Graph, from}
use Rattle.forest.specs.Labels.{Labels, root, labelled}
use Rattle.forest.specs.Parents.{Parents, parented}
use Rattle.bridges.specs.Bridges.{roots_of as roots_by, path_length}
use Rattle.keeping.specs.Kept.{kept_bridges, terminal}
use Rattle.forest.specs.Setting.{ends, pairs}
use Rattle.forest.proofs.EdgeLaws.{below-from}
use Rattle.keeping.proofs.WholeLaws.{of-kept}
use Rattle.forest.proofs.Nearest.{link-in}
use Rattle.forest.proofs.Homeward.{root-source}
use Rattle.terminal.specs.Number.{number_of, vertex_at, edge_at, pin_numbers}
use Rattle.terminal.specs.Tree.{graph_of, tree_of, paths_of, root_of, roots_of}
use Rattle.terminal.specs.Stands.{KeptPath, PathOf, kept_ends}
use Rattle.terminal.proofs.NumberLaws.{vertex-of-number, number-of-vertex, count_of, one_of, two-of}
use Rattle.terminal.proofs.NumberLaws.{pin-number-in, of-pin-numbers}
use Rattle.terminal.proofs.SettingOf.{between-numbers, edge_in, one-vertex, two-vertex, setting, whole, edge-numbers}

module _ {net : Net} (a : Allowed net) where
  abbrev vs : List Place
  vs = vertices_of net

  abbrev es : List (Place × Place)
  es = spanning net

  abbrev pub G : Graph
  G = graph_of net

  abbrev pub pins : List ℕ
  pins = pin_numbers (vertices_of net) net.pins

  abbrev pub T : Labels
  T = labelled (graph_of net) (length (vertices_of net)) (pin_numbers (vertices_of net) net.pins)

  abbrev pub P : Parents
  P = parented (graph_of net) (length (vertices_of net)) T

  -- Terminal paths

  edge_places : (i j : ℕ) → (i, j) ∈ pairs G → (vertex_at vs i, vertex_at vs j) ∈ es
  unfolding ends
  edge_places i j m =
      let r = of_map (ends G) (from 0 G.count) m in
      let h = below-from G.count r.entry r.stands in
      Memᴰ.cast
      (ap₂ (λ (u v : Place). (u, v))
      (ap (vertex_at vs) (firsts r.is) ∙ one-vertex a r.entry h)
      (ap (vertex_at vs) (seconds r.is) ∙ two-vertex a r.entry h))
      (edge_in a r.entry h)

  pin-place : (i : ℕ) → i ∈ pins → vertex_at vs i ∈ net.pins
  pin-place i m =
      let r = of-pin-numbers vs net.pins i m in
      Memᴰ.cast (ap (vertex_at vs) r.is ∙ vertex-of-number vs (vertices-ascending net) r.pin (pin-vertex net r.stands))
      r.stands

  pub to-places :
      Carries (vertex_at (vertices_of net)) (number_of (vertices_of net)) (λ i. i < length (vertices_of net)) (pairs G) (spanning net) pins
      net.pins
  to-places = record {
    pair = edge_places;
    inside = λ i j m. (let r = link-in (setting a) i j (inl m) in (r.near-in, r.far-in));
    undone = number-of-vertex vs (vertices-ascending net);
    pin-in = (setting a).sources-in;
    pin = pin-place;
    pin-back = pin-number-in vs net.pins;
  }

  pub to-numbers :
      Carries (number_of (vertices_of net)) (vertex_at (vertices_of net)) (λ v. v ∈ vertices_of net) (spanning net) (pairs G) net.pins pins
  to-numbers = record {
    pair = edge-numbers a;
    inside = spanning-inside net;
    undone = vertex-of-number vs (vertices-ascending net);
    pin-in = λ p m. pin-vertex net m;
    pin = pin-number-in vs net.pins;
    pin-back = pin-place;
  }

  -- Ways and their lengths

  pub way-places : {i j : ℕ} {qs : List ℕ} → Way (pairs G) i qs j →
      Way (spanning net) (vertex_at (vertices_of net) i) (map (vertex_at (vertices_of net)) qs) (vertex_at (vertices_of net) j)
  way-places w = way-carried (vertex_at vs) edge_places w

  pub way-numbers : {u v : Place} {qs : List Place} → Way (spanning net) u qs v →
      Way (pairs G) (number_of (vertices_of net) u) (map (number_of (vertices_of net)) qs) (number_of (vertices_of net) v)
  way-numbers w = way-carried (number_of vs) (edge-numbers a) w

  pub long-places : {i j : ℕ} {qs : List ℕ} → Way (pairs G) i qs j →
      long (between-numbers a) i qs ≡ long (cost_in net) (vertex_at (vertices_of net) i) (map (vertex_at (vertices_of net)) qs)
  long-places w = long-carried to-places (between-numbers a) (cost_in net) (λ i j h k. refl) w

  pub between_is : (u v : Place) → u ∈ vertices_of net → v ∈ vertices_of net →
      cost_in net u v ≡ between-numbers a (number_of (vertices_of net) u) (number_of (vertices_of net) v)
  between_is u v i k =
      sym (ap₂ (cost_in net) (vertex-of-number vs (vertices-ascending net) u i) (vertex-of-number vs (vertices-ascending net) v k))

  pub long-numbers : {u v : Place} {qs : List Place} → Way (spanning net) u qs v →
      long (cost_in net) u qs ≡ long (between-numbers a) (number_of (vertices_of net) u) (map (number_of (vertices_of net)) qs)
  long-numbers w = long-carried to-numbers (cost_in net) (between-numbers a) between_is w

  pub length-by-places : (t : TerminalPath (pairs G) pins) → length_of (between-numbers a) t ≡ length_of (cost_in net)
      (path-carried to-places t)
  length-by-places t = length-carried to-places (between-numbers a) (cost_in net) (λ i j h k. refl) t

  pub length-by-numbers : (t : PathOf net) → length_of (cost_in net) t ≡ length_of (between-numbers a) (path-carried to-numbers t)
  length-by-numbers t = length-carried to-numbers (cost_in net) (between-numbers a) between_is t

  -- Roots

  pub root-by-number : (v : Place) → root_of net v ≡ vertex_at (vertices_of net) (root T (number_of (vertices_of net) v))
  unfolding root_of tree_of terminal
  root-by-number v = refl

  pub root_below : (i : ℕ) → i < length (vertices_of net) → root T i < length (vertices_of net)
  root_below i h = (setting a).sources-in _ (root-source (setting a) (whole a) i h)

  pub root-number : (i : ℕ) → i < length (vertices_of net) → number_of (vertices_of net) (vertex_at (vertices_of net) (root T i)) ≡ root T i
  root-number i h = number-of-vertex vs (vertices-ascending net) (root T i) (root_below i h)

  -- Kept paths

  abbrev pub kept : List ℕ
  kept = kept_bridges G T P

  abbrev pub weight : ℕ → ℕ
  weight = path_length G T.fars P

  -- what is given for the path of edge k, and the number of the edge of which that is given
  abbrev pub given : ℕ → KeptPath
  given k = (edge_at (spanning net) k, weight k)

  abbrev pub bridge_number : KeptPath → ℕ
  bridge_number b = position before_edge (spanning net) b.0

  pub paths-are : paths_of net ≡ map given kept
  unfolding paths_of tree_of terminal
  paths-are = refl

  pub kept-below : (k : ℕ) → k ∈ kept → k < G.count
  kept-below k m = (of-kept G T P k m).0

  pub edge-below : (k : ℕ) → k < G.count → k < length (spanning net)
  edge-below k h = rw (count_of net.weights vs es) at h

  pub number-given : (k : ℕ) → k ∈ kept → bridge_number (given k) ≡ k
  number-given k m = position_at before_edge edge_order es (spanning-ascending net) k _ (edge-below k (kept-below k m))

  pub given-in : (k : ℕ) → k ∈ kept → given k ∈ paths_of net
  given-in k m = rw paths-are (in_map given m)

  -- each given path is that of a kept bridge
  pub of-given : (b : KeptPath) → b ∈ paths_of net → Source given kept b
  of-given b m = of_map given kept (rw paths-are at m)

  -- its ends are roots
  pub given-follows : (k : ℕ) → k < G.count → Follows (vertex_at (vertices_of net)) given (roots_by G T) (kept_ends net) k
  unfolding roots_of
  given-follows k h = (
    root-by-number _ ∙ ap (λ (i : ℕ). vertex_at vs (root T i)) (sym (one_of net.weights vs es k (edge-below k h))),
    root-by-number _ ∙ ap (λ (i : ℕ). vertex_at vs (root T i)) (sym (two-of net.weights vs es k (edge-below k h))),
  )

  pub number_in : (b : KeptPath) → b ∈ paths_of net → bridge_number b ∈ kept
  number_in b m =
      let s = of-given b m in
      Memᴰ.cast (ap bridge_number s.is ∙ number-given s.entry s.stands) s.stands

  pub given-number : (b : KeptPath) → b ∈ paths_of net → given (bridge_number b) ≡ b
  given-number b m =
      let s = of-given b m in
      ap given (ap bridge_number s.is ∙ number-given s.entry s.stands) ∙ sym s.is

  pub number-follows : (b : KeptPath) → b ∈ paths_of net →
      Follows (number_of (vertices_of net)) bridge_number (kept_ends net) (roots_by G T) b
  number-follows b m = (
    sym (root-number _ ((setting a).one_in _ h)) ∙ ap (number_of vs) (sym f.0 ∙ ap (λ (c : KeptPath). (kept_ends net c).0) e),
    sym (root-number _ ((setting a).two_in _ h)) ∙ ap (number_of vs) (sym f.1 ∙ ap (λ (c : KeptPath). (kept_ends net c).1) e),
  )
    where
      k : ℕ
      k = bridge_number b

      e : given k ≡ b
      e = given-number b m

      h : k < G.count
      h = kept-below k (number_in b m)

      f : Follows (vertex_at vs) given (roots_by G T) (kept_ends net) k
      f = given-follows k h
