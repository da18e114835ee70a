-- The spanning graph of an allowed net is a ground to refine on, and the union of its kept paths is ready for its rounds: its points are
-- all vertices, so there is room for one further point for each pin.
-- Assumes nothing.
use mathlib.Core.Path.{◌≡◌, refl, sym, ap₂, ◌∙◌}
use mathlib.Core.Bool.{true}
use mathlib.Core.List.Memᴰ
use mathlib.Core.List.{List, [], ◌∷◌}
use Prim.Native.Nat.{ℕ, ◌+◌, ◌*◌, ◌≤◌, ◌<◌}
use native.Mathlib.Omega.{arith}
use lib.IntN.{ℤ, pos}
use lib.ListN.{length, replicate, length-replicate}
use Rattle.lists.specs.Member.{◌∈◌, here}
use Rattle.lent.specs.Over.{over}
use Rattle.lent.specs.Entries.{flat}
use Rattle.lent.proofs.OverLaws.{length_over}
use Rattle.plane.specs.declared.Place.{Place}
use Rattle.plane.specs.Place.{before}
use Rattle.plane.specs.Macro.{clear}
use Rattle.plane.specs.Flat.{place_at}
use Rattle.plane.specs.Rank.{InOrder}
use Rattle.plane.proofs.CostLaws.{cost-comm}
use Rattle.net.specs.Net.{Net, cost_in}
use Rattle.net.specs.Allowed.{Allowed}
use Rattle.sorted.proofs.NumberLaws.{ascending-at}
use Rattle.graph.specs.Spanning.{vertices_of}
use Rattle.graph.specs.Numbers.{place_numbers}
use Rattle.graph.proofs.VertexLaws.{vertices-ascending, pin-vertex}
use Rattle.graph.proofs.GraphBounds.{few-vertices}
use Rattle.forest.specs.Bounds.{point_bound}
use Rattle.forest.specs.Edges.{one, two}
use Rattle.forest.specs.Setting.{Setting}
use Rattle.terminal.specs.Number.{number_of, vertex_at}
use Rattle.terminal.specs.Tree.{graph_of}
use Rattle.terminal.proofs.NumberLaws.{vertex-of-number, number_small}
use Rattle.terminal.proofs.SettingOf.{edge-at, one-vertex, two-vertex, setting, whole}
use Rattle.tree.specs.Table.{tree_bound}
use Rattle.tree.specs.Places.{points_of}
use Rattle.tree.specs.Outside.{strangers}
use Rattle.tree.proofs.ListingLaws.{in-listing}
use Rattle.tree.proofs.OutsideLaws.{outside-none}
use Rattle.union.specs.Union.{union_of}
use Rattle.union.proofs.PlacedLaws.{place-at}
use Rattle.union.proofs.UnionSound.{union-sound, union-ranked, union-points, union-keys, union-vertices}
use Rattle.refiner.specs.Ready.{Grounded, Ready}
use Rattle.refiner.specs.Ready as ready
use Rattle.refined.specs.Ground.{ground_of}

flat-long : (ps : List Place) → length (flat place_numbers ps) ≡ length ps * 2
unfolding flat
flat-long [] = refl
flat-long (p ∷ ps) = omega (arith, flat-long ps)

module _ {net : Net} (a : Allowed net) where
  abbrev vs : List Place
  vs = vertices_of net

  abbrev n : ℕ
  n = length (vertices_of net)

  abbrev places : List ℤ
  places = over (flat place_numbers (vertices_of net)) (replicate (point_bound * 2) (pos 0))

  -- the places of the table are the vertices
  pub place_is : (i : ℕ) → i < length (vertices_of net) →
      place_at (over (flat place_numbers (vertices_of net)) (replicate (point_bound * 2) (pos 0))) i ≡ vertex_at (vertices_of net) i
  place_is i h = place-at vs (replicate (point_bound * 2) (pos 0)) i h

  one_in : (k : ℕ) → k < (graph_of net).count → one (graph_of net) k < n
  one_in k h = (setting a).one_in k h

  two_in : (k : ℕ) → k < (graph_of net).count → two (graph_of net) k < n
  two_in k h = (setting a).two_in k h

  in_order : InOrder places n
  in_order i j h l =
      ap₂ before (place_is i (omega arith)) (place_is j l) ∙ ascending-at before vs (vertices-ascending net) i j _ h l

  costs : Setting (graph_of net) n (λ i j. cost_in net (place_at places i) (place_at places j)) []
  costs =
      let s = setting a in
      record {
        vertices = s.vertices;
        edges = s.edges;
        one_in = s.one_in;
        two_in = s.two_in;
        measured = λ k h. ap₂ (cost_in net) (place_is _ (one_in k h)) (place_is _ (two_in k h)) ∙ s.measured k h;
        some = s.some;
        short = s.short;
        even = λ i j. cost-comm net.weights (place_at places i) (place_at places j);
        sources-in = λ v m. elim m [ ];
      }

  clear-edges : (k : ℕ) → k < (graph_of net).count →
      clear (place_at places (one (graph_of net) k)) (place_at places (two (graph_of net) k)) net.macros ≡ true
  clear-edges k h =
      rw (place_is _ (one_in k h), place_is _ (two_in k h), one-vertex a k h, two-vertex a k h) (edge-at a k h).is-clear

  -- a vertex stands in the table
  pub vertex-stands : (p : Place) → p ∈ vertices_of net →
      p ∈ points_of (over (flat place_numbers (vertices_of net)) (replicate (point_bound * 2) (pos 0))) (length (vertices_of net))
  vertex-stands p m =
      let i = number_of vs p in
      let h = number_small vs (vertices-ascending net) p m in
      Memᴰ.cast (sym (place_is i h ∙ vertex-of-number vs (vertices-ascending net) p m)) (in-listing (place_at places) n i h)

  first-pin : (l : List Place) → 1 ≤ length l → (p : Place) × (p ∈ l)
  first-pin [] h = absurd (let z : ⊥ = omega arith in z)
  first-pin (p ∷ l) h = (p, here refl)

  pub net-grounded : Grounded net (ground_of net)
  unfolding ground_of
  net-grounded =
      let p = first-pin net.pins a.some-pin in
      record {
        ordered = in_order;
        sized =
            length_over (flat place_numbers vs) (replicate (point_bound * 2) (pos 0))
            (omega (arith, flat-long vs, few-vertices a, length-replicate (point_bound * 2) (pos 0)))
            ∙ length-replicate (point_bound * 2) (pos 0);
        few-vertices = few-vertices a;
        setting = costs;
        joined = (whole a).joined;
        free = clear-edges;
        pinned = λ q m. vertex-stands q (pin-vertex net m);
        pin = p.0;
        is-pin = p.1;
      }

  pub union-strangers : strangers (ready.vertices_of (ground_of net)) (union_of net) ≡ 0
  unfolding ground_of
  union-strangers =
      outside-none (points_of places n) (points_of (union_of net).points (union_of net).count) (λ q m. vertex-stands q (union-vertices a q m))

  pub ground-count : (ground_of net).count ≡ length (vertices_of net)
  unfolding ground_of
  ground-count = refl

  pub union-ready : Ready net (ground_of net) (union_of net) (length net.pins)
  union-ready = record {
    grounded = net-grounded;
    sound = union-sound a;
    ranked = union-ranked a;
    room = omega (arith, union-strangers, ground-count, few-room);
    places = union-points a;
    rows = union-keys a;
  }
    where
      few-room : length (vertices_of net) + length net.pins ≤ tree_bound
      few-room = omega (arith, few-vertices a, a.few-pins)
