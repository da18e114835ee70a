-- The union of the kept paths of an allowed net is a sound start for the refiner: one tree over its points in order, with all pins and
-- every edge clear and in order; it costs no more than the terminal tree, and leaves room for a point a round.
-- Assumes nothing.
use mathlib.Core.Path.{◌≡◌, refl, sym, ap, ap₂, ◌∙◌}
use mathlib.Core.Bool.{true}
use mathlib.Core.Logic.{◌⊎◌, inl, inr}
use mathlib.Core.List.Memᴰ
use mathlib.Core.List.{List, ◌++◌, map}
use Prim.Native.Nat.{ℕ, suc, ◌+◌, ◌*◌, ◌≤◌, ◌<◌}
use native.Mathlib.Omega.{arith}
use lib.Dec.{ltb}
use borrow.Author.Tests.{lt-ltb, ltb-true}
use lib.IntN.{ℤ}
use lib.ListN.{length, get_or}
use Rattle.lists.specs.Member.{◌∈◌, Among}
use Rattle.lists.specs.Sorted.{Ascending, position, first_then}
use Rattle.lists.specs.Total.{total}
use Rattle.lists.proofs.TestLaws.{by, differ, either}
use Rattle.lists.proofs.MemberLaws.{get_d-in}
use Rattle.lists.proofs.MapLaws.{of_map}
use Rattle.lists.proofs.OrderLaws.{number-order}
use Rattle.lists.proofs.PermLaws.{before-differs}
use Rattle.lists.proofs.SortedLaws.{position-small, at_position}
use Rattle.lists.proofs.ThoseLaws.{those-split}
use Rattle.lent.specs.Entries.{flat}
use Rattle.joined.specs.Joined.{Joined}
use Rattle.joined.specs.Tree as joined
use Rattle.joined.proofs.JoinedLaws.{one as one_link, between, carried, firsts, seconds}
use Rattle.plane.specs.declared.Place.{Place}
use Rattle.plane.specs.Place.{before}
use Rattle.plane.specs.Macro.{clear}
use Rattle.plane.specs.Flat.{place_at}
use Rattle.plane.specs.Rank.{InOrder}
use Rattle.plane.proofs.PlaceOrder.{place-order}
use Rattle.net.specs.Allowed.{Allowed}
use Rattle.net.specs.Net.{Net, cost_in}
use Rattle.sorted.proofs.NumberLaws.{ascending-at}
use Rattle.graph.specs.Spanning.{vertices_of, spanning}
use Rattle.graph.specs.Edges.{before_edge}
use Rattle.graph.proofs.VertexLaws.{pin-vertex, vertices-ascending}
use Rattle.graph.proofs.GraphBounds.{few-vertices, spanning-ascending}
use Rattle.forest.specs.Edges.{Graph, one, two, len, from}
use Rattle.keeping.specs.Kept.{terminal}
use Rattle.forest.specs.Setting.{ends}
use Rattle.forest.proofs.EdgeLaws.{length_from}
use Rattle.terminal.specs.Number.{edge_at, number_of, vertex_at, pin_numbers}
use Rattle.terminal.specs.Tree.{graph_of, tree_of, total_of}
use Rattle.terminal.proofs.NumberLaws.{vertex-in, count_of, one_of, vertex-order, vertex-of-number, pin-number-in}
use Rattle.terminal.proofs.SettingOf.{setting, whole, edge-at, one-vertex, two-vertex}
use Rattle.tree.specs.Table.{key, first_end, second_end, tree_bound}
use Rattle.tree.specs.Places.{ends_of, points_of, edges_of, key_cost, Ranked, Sound}
use Rattle.tree.specs.Places.{tree_total}
use Rattle.tree.specs.Sum.{below}
use Rattle.tree.proofs.ListingLaws.{listing-length, in-listing, of-listing, listing-once}
use Rattle.tree.proofs.SumLaws.{below-same}
use Rattle.union.specs.Union.{listed, both_ends, kept_edges, union_edges, union_points, start_of, union_of}
use Rattle.union.proofs.ListedLaws.{picked-ascending}
use Rattle.union.proofs.UnionTree.{pin-point, first-point, second-point, point-inside, edge-inside, union-size, union-tree}
use Rattle.union.proofs.UnionTree.{union-total}
use Rattle.union.proofs.PlacedLaws.{point_table, edge_table, points-length, edges-length, point_at, key-at, position-rises}
use Rattle.union.proofs.PlacedLaws.{point-of, first-at, second_at, keys-within, below_total}

module _ {net : Net} (a : Allowed net) where
  abbrev vs : List Place
  vs = vertices_of net

  abbrev g : Graph
  g = graph_of net

  abbrev n : ℕ
  n = length (vertices_of net)

  abbrev pins : List ℕ
  pins = pin_numbers (vertices_of net) net.pins

  abbrev E : List ℕ
  E = union_edges (graph_of net) (tree_of net).labels.fars (tree_of net).parents (tree_of net).bridges

  abbrev W : List ℕ
  W = union_points (graph_of net) (tree_of net).labels.fars (tree_of net).parents (tree_of net).bridges (length (vertices_of net))
      (pin_numbers (vertices_of net) net.pins)

  abbrev at : ℕ → Place
  at v = vertex_at (vertices_of net) v

  -- By numbers

  number-tree : joined.TreeOn W (map (ends g) E)
  unfolding tree_of terminal
  number-tree = union-tree (setting a) (whole a)

  number_size : suc (length E) ≡ length W
  unfolding tree_of terminal
  number_size = union-size (setting a) (whole a)

  number-total : total (map (len g) E) ≤ total_of net
  unfolding tree_of terminal
  number-total = union-total (setting a) (whole a)

  one_at : (k : ℕ) → k ∈ E → one g k ∈ W
  unfolding tree_of terminal
  one_at k m = first-point (setting a) (whole a) k m

  two_at : (k : ℕ) → k ∈ E → two g k ∈ W
  unfolding tree_of terminal
  two_at k m = second-point (setting a) (whole a) k m

  pin_at : Among pins W
  unfolding tree_of terminal
  pin_at = pin-point (setting a) (whole a)

  -- points are vertices
  pub union-below : (v : ℕ) →
      v ∈ union_points (graph_of net) (tree_of net).labels.fars (tree_of net).parents (tree_of net).bridges (length (vertices_of net))
      (pin_numbers (vertices_of net) net.pins) → v < length (vertices_of net)
  unfolding tree_of terminal
  union-below v m = point-inside (setting a) (whole a) v m

  edge-below : (k : ℕ) → k ∈ E → k < g.count
  unfolding tree_of terminal
  edge-below k m = edge-inside (setting a) (whole a) k m

  points-ascending : Ascending ltb W
  unfolding union_points
  points-ascending = picked-ascending (λ v. listed v (pins ++ flat (both_ends g.ones g.twos) E)) n

  union-ascending : Ascending ltb E
  unfolding union_edges
  union-ascending = picked-ascending (λ k. listed k
      (kept_edges g (tree_of net).labels.fars (tree_of net).parents (tree_of net).bridges)) g.count

  few-points : length W ≤ n
  unfolding union_points
  few-points = omega (arith, those-split (λ v. listed v (pins ++ flat (both_ends g.ones g.twos) E)) (from 0 n), length_from 0 n)

  room : length W ≤ tree_bound
  room = omega (arith, few-points, few-vertices a)

  -- the refiner's tables have room for the edges
  pub union-less : length (union_edges (graph_of net) (tree_of net).labels.fars (tree_of net).parents (tree_of net).bridges)
      ≤ tree_bound
  union-less = omega (arith, room, number_size)

  -- By places

  abbrev points : List ℤ
  points = point_table at g W E points-ascending room union-less one_at two_at

  abbrev keys : List ℕ
  keys = edge_table at g W E points-ascending room union-less one_at two_at

  point : (i : ℕ) → i < length W → place_at points i ≡ at (get_or W i 0)
  point = point_at at g W E points-ascending room union-less one_at two_at

  first : (i : ℕ) → i < length E → (ends_of points (get_or keys i 0)).0 ≡ at (one g (get_or E i 0))
  first = first-at at g W E points-ascending room union-less one_at two_at

  second : (i : ℕ) → i < length E → (ends_of points (get_or keys i 0)).1 ≡ at (two g (get_or E i 0))
  second = second_at at g W E points-ascending room union-less one_at two_at

  ordered : InOrder points (length W)
  ordered i j e f =
      let u = get_or W i 0 in
      let v = get_or W j 0 in
      let l : u < v = ltb-true u v (ascending-at ltb W points-ascending i j 0 e f) in
      let x = union-below u (get_d-in W i 0 (omega arith)) in
      let y = union-below v (get_d-in W j 0 f) in
      rw (point i (omega arith), point j f) (vertex-order vs (vertices-ascending net) u v x y ∙ lt-ltb u v l)

  edge-of : (k : ℕ) → k ∈ E → (i : ℕ) × (i < length E) × (get_or E i 0 ≡ k)
  edge-of k m = (
    position ltb E k,
    position-small ltb number-order E union-ascending k m,
    at_position ltb number-order E union-ascending k
        0 m,
  )

  abbrev links : List (Place × Place)
  links = edges_of points keys (length E)

  linked : (u v : ℕ) → (u, v) ∈ map (ends g) E → Joined links (at u) (at v)
  unfolding ends
  linked u v m =
      let r = of_map (ends g) E m in
      let i = edge-of r.entry r.stands in
      between
      (ap at (firsts r.is) ∙ ap (λ (k : ℕ). at (one g k)) (sym i.2) ∙ sym (first i.0 i.1))
      (ap at (seconds r.is) ∙ ap (λ (k : ℕ). at (two g k)) (sym i.2) ∙ sym (second i.0 i.1))
      (one_link (inl (in-listing (λ j. ends_of points (get_or keys j 0)) (length E) i.0 i.1)))

  place-tree : joined.TreeOn (points_of points (length W)) links
  place-tree = record {
    once = listing-once (place_at points) (length W) (λ i j e f q. before-differs place-order _ _ (ordered i j e f) q);
    joins =
        λ x y i j.
        let u = of-listing (place_at points) (length W) x i in
        let v = of-listing (place_at points) (length W) y j in
        between (u.1.1 ∙ point u.0 u.1.0) (v.1.1 ∙ point v.0 v.1.0)
        (carried at linked (number-tree.joins _ _ (get_d-in W u.0 0 u.1.0) (get_d-in W v.0 0 v.1.0)));
    size =
        omega (
          arith,
          listing-length (place_at points) (length W),
          listing-length (λ j. ends_of points (get_or keys j 0)) (length E),
          number_size,
        );
  }

  edge-free : (i : ℕ) → i < length E → clear (ends_of points (get_or keys i 0)).0 (ends_of points (get_or keys i 0)).1 net.macros ≡ true
  edge-free i h =
      let k = get_or E i 0 in
      let c = edge-below k (get_d-in E i 0 h) in
      rw (first i h, second i h, one-vertex a k c, two-vertex a k c) (edge-at a k c).is-clear

  edge-long : (i : ℕ) → i < length E → key_cost net.weights points (get_or keys i 0) ≡ len g (get_or E i 0)
  edge-long i h =
      let k = get_or E i 0 in
      ap₂ (cost_in net) (first i h) (second i h) ∙ (setting a).measured k (edge-below k (get_d-in E i 0 h))

  pin-stands : Among net.pins (points_of points (length W))
  pin-stands p m =
      let v = number_of vs p in
      let i = pin_at v (pin-number-in vs net.pins p m) in
      let q = position ltb W v in
      Memᴰ.cast
      (sym (point-of at g W E points-ascending room union-less one_at two_at v i ∙ vertex-of-number vs (vertices-ascending net) p
      (pin-vertex net m)))
      (in-listing (place_at points) (length W) q (position-small ltb number-order W points-ascending v i))

  -- the union is a tree over its points in order, with all pins, every edge clear
  pub union-sound : Sound net (union_of net)
  unfolding union_of start_of
  union-sound = record {
    ordered = ordered;
    within = keys-within at g W E points-ascending room union-less one_at two_at (omega (arith, number_size));
    whole = place-tree;
    free = edge-free;
    pinned = pin-stands;
  }

  -- its points are vertices
  pub union-vertices : Among (points_of (union_of net).points (union_of net).count) (vertices_of net)
  unfolding union_of start_of
  union-vertices p m =
      let r = of-listing (place_at points) (length W) p m in
      Memᴰ.cast (r.1.1 ∙ point_at at g W E points-ascending room union-less one_at two_at r.0 r.1.0)
      (vertex-in vs (get_or W r.0 0) (union-below (get_or W r.0 0) (get_d-in W r.0 0 r.1.0)))

  -- Its edges in order

  -- the ends of an edge of the union, by numbers and by places
  module _ (k : ℕ) (m : k ∈ E) where
    c : k < g.count
    c = edge-below k m

    upward : one g k < two g k
    upward =
        ltb-true (one g k) (two g k)
        (sym (vertex-order vs (vertices-ascending net) (one g k) (two g k) ((setting a).one_in k c) ((setting a).two_in k c))
        ∙ ap₂ before (one-vertex a k c) (two-vertex a k c) ∙ (edge-at a k c).smaller-first)

  edge-cases : (e f : Place × Place) → before_edge e f ≡ true → (before e.0 f.0 ≡ true)
      ⊎ ((e.0 ≡ f.0) × (before e.1 f.1 ≡ true))
  unfolding before_edge first_then
  edge-cases e f h =
      by (before e.0 f.0) inl
      (λ p. by (before f.0 e.0)
      (λ q. differ (rw (before_edge, first_then, p, q) at h) refl)
      (λ q. inr (place-order.tie e.0 f.0 p q, rw (before_edge, first_then, p, q) at h)))

  -- a later edge has a greater first end, or the same and a greater second one
  later : (k l : ℕ) → k ∈ E → l ∈ E → k < l → (one g k < one g l) ⊎ ((one g k ≡ one g l) × (two g k < two g l))
  later k l i j h =
      let x = edge-below k i in
      let y = edge-below l j in
      let b = ascending-at before_edge (spanning net) (spanning-ascending net) k l _ h
      (rw (count_of net.weights vs (spanning net)) at y) in
      either
      (λ e. inl
      (ltb-true (one g k) (one g l)
      (sym (vertex-order vs (vertices-ascending net) (one g k) (one g l) ((setting a).one_in k x) ((setting a).one_in l y))
      ∙ ap₂ before (one-vertex a k x) (one-vertex a l y) ∙ e)))
      (λ e. inr (
        one_of net.weights vs (spanning net) k (rw (count_of net.weights vs (spanning net)) at x)
            ∙ ap (number_of vs) e.0
            ∙ sym (one_of net.weights vs (spanning net) l (rw (count_of net.weights vs (spanning net)) at y)),
        ltb-true (two g k) (two g l)
            (sym (vertex-order vs (vertices-ascending net) (two g k) (two g l) ((setting a).two_in k x) ((setting a).two_in l y))
            ∙ ap₂ before (two-vertex a k x) (two-vertex a l y) ∙ e.1),
      ))
      (edge-cases (edge_at (spanning net) k) (edge_at (spanning net) l) b)

  rank : ℕ → ℕ
  rank v = position ltb W v

  rank-small : (v : ℕ) → v ∈ W → rank v < tree_bound
  unfolding rank
  rank-small v m = omega (arith, position-small ltb number-order W points-ascending v m, room)

  key-is : (i : ℕ) → i < length E → get_or keys i 0 ≡ key (rank (one g (get_or E i 0))) (rank (two g (get_or E i 0)))
  unfolding rank
  key-is = key-at at g W E points-ascending room union-less one_at two_at

  rises : (u v : ℕ) → u ∈ W → v ∈ W → u < v → rank u < rank v
  unfolding rank
  rises = position-rises at g W E points-ascending room union-less one_at two_at

  -- N16: the smaller place comes first, and edges are in order
  pub union-ranked : Ranked (union_of net).edges.keys (union_of net).edges.size
  unfolding union_of start_of
  union-ranked = record { upward = over; rising = after }
    where
      over : (i : ℕ) → i < length E → first_end (get_or keys i 0) < second_end (get_or keys i 0)
      over i h =
          let k = get_or E i 0 in
          let m = get_d-in E i 0 h in
          let s = rank-small (two g k) (two_at k m) in
          let r = rises (one g k) (two g k) (one_at k m) (two_at k m) (upward k m) in
          rw (key-is i h) (omega arith)

      after : (i j : ℕ) → i < j → j < length E → get_or keys i 0 < get_or keys j 0
      after i j e h =
          let k = get_or E i 0 in
          let l = get_or E j 0 in
          let m = get_d-in E i 0 (omega arith) in
          let q = get_d-in E j 0 h in
          let s = rank-small (two g k) (two_at k m) in
          rw (key-is i (omega arith), key-is j h)
          (either
          (λ b. let r = rises (one g k) (one g l) (one_at k m) (one_at l q) b in omega arith)
          (λ b.
          let r = rises (two g k) (two g l) (two_at k m) (two_at l q) b.1 in
          let z : rank (one g k) ≡ rank (one g l) = ap rank b.0 in
          omega arith)
          (later k l m q (ltb-true k l (ascending-at ltb E union-ascending i j 0 e h))))

  -- it costs no more than the kept paths
  pub union-cost : tree_total net.weights (union_of net) ≤ total_of net
  unfolding union_of start_of
  union-cost =
      let e : below (λ i. key_cost net.weights points (get_or keys i 0)) (length E) ≡ total (map (len g) E) =
      below-same (λ i. key_cost net.weights points (get_or keys i 0)) (λ i. len g (get_or E i 0)) (length E) edge-long ∙
      below_total (len g) E in
      omega (arith, e, number-total)

  -- a round may bring a point, and there are as many rounds as pins
  -- its points are vertices
  pub union-few : (union_of net).count ≤ length (vertices_of net)
  unfolding union_of start_of
  union-few = few-points

  pub union-room : (union_of net).count + length net.pins ≤ tree_bound
  unfolding union_of start_of
  union-room = omega (arith, few-points, few-vertices a, a.few-pins)

  pub union-size-is : suc (union_of net).edges.size ≡ (union_of net).count
  unfolding union_of start_of
  union-size-is = number_size

  pub union-points : length (union_of net).points ≡ tree_bound * 2
  unfolding union_of start_of
  union-points = points-length at g W E points-ascending room union-less one_at two_at

  pub union-keys : length (union_of net).edges.keys ≡ tree_bound
  unfolding union_of start_of
  union-keys = edges-length at g W E points-ascending room union-less one_at two_at

  -- its edges are those of the graph that stand in the union
  abbrev pub union_list : List ℕ
  union_list = union_edges (graph_of net) (tree_of net).labels.fars (tree_of net).parents (tree_of net).bridges

  edge-is : (i : ℕ) → i < length E → ends_of points (get_or keys i 0) ≡ edge_at (spanning net) (get_or E i 0)
  edge-is i h =
      let c = edge-below (get_or E i 0) (get_d-in E i 0 h) in
      ap₂ (λ (x y : Place). (x, y)) (first i h ∙ one-vertex a (get_or E i 0) c) (second i h ∙ two-vertex a (get_or E i 0) c)

  pub union-edge : (e : Place × Place) → e ∈ edges_of (union_of net).points (union_of net).edges.keys (union_of net).edges.size →
      (k : ℕ) × ((k ∈ union_list) × (e ≡ edge_at (spanning net) k))
  unfolding union_of start_of
  union-edge e m =
      let r = of-listing (λ j. ends_of points (get_or keys j 0)) (length E) e m in
      (get_or E r.0 0, (get_d-in E r.0 0 r.1.0, r.1.1 ∙ edge-is r.0 r.1.0))

  pub union-has : (k : ℕ) → k ∈ union_list → edge_at (spanning net) k ∈ edges_of (union_of net).points (union_of net).edges.keys
      (union_of net).edges.size
  unfolding union_of start_of
  union-has k m =
      let i = edge-of k m in
      Memᴰ.cast (ap (edge_at (spanning net)) (sym i.2) ∙ sym (edge-is i.0 i.1))
      (in-listing (λ j. ends_of points (get_or keys j 0)) (length E) i.0 i.1)
