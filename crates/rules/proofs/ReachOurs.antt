-- R23: the label of a vertex beside the tree is its v and what its way costs, and its parents are the way: by the theorems on roots and
-- parents, which speak of any sources, carried over from numbers to places.
-- Assumes nothing.
use mathlib.Core.Path.{◌≡◌, refl, sym, ap, ap₂, ◌∙◌, subst}
use mathlib.Core.Bool.{true, false}
use mathlib.Core.Logic.{inl, inr}
use mathlib.Core.List.Memᴰ
use mathlib.Core.List.{List, [], ◌∷◌, map}
use Prim.Native.Nat.{ℕ, ◌+◌, ◌≤◌, ◌<◌}
use native.Mathlib.Omega.{arith}
use lib.Dec.{ltb}
use lib.ListN.{get_or}
use borrow.Author.Tests.{ltb-true, ltb-false}
use Rattle.lists.specs.Member.{◌∈◌}
use Rattle.lists.proofs.TestLaws.{by, differ}
use Rattle.plane.specs.declared.Place.{Place}
use Rattle.plane.specs.Place.{before}
use Rattle.plane.specs.Flat.{place_at}
use Rattle.plane.proofs.PlaceOrder.{place-order}
use Rattle.net.specs.Net.{Net, cost_in}
use Rattle.joined.specs.Joined.{Link}
use Rattle.joined.specs.Way.{Way, stop, go, long}
use Rattle.joined.specs.OneTree.{Point}
use Rattle.forest.specs.Labels.{far, root, labelled}
use Rattle.forest.specs.Parents.{up, parented, way_after}
use Rattle.forest.specs.Setting.{pairs}
use Rattle.forest.proofs.Nearest.{link-in, nearest-source}
use Rattle.forest.proofs.Homeward.{root-source, onward-of, parent_is, Upward, arrived, onto, way-upward}
use Rattle.tree.specs.Table.{Tree}
use Rattle.tree.specs.Places.{points_of, Sound}
use Rattle.beside.specs.Beside.{Ground, labels_in, parents_in, seats_in}
use Rattle.refiner.specs.Ready.{vertex_at, Grounded}
use Rattle.refiner.proofs.WayFound.{sources, distance, in_source, setting, whole}
use Rattle.refiner.proofs.WayBeside.{way_of, on-near, root-on, vertex-one, way-along, way_long, long-places}
use Rattle.rules.specs.Edges.{Edge}
use Rattle.rules.specs.Spanning.{Vertex}
use Rattle.rules.specs.Refined.{Shortest, Lowest, Beside}
use Rattle.rules.proofs.BesideOnly.{Lawful}

-- the ground g is the graph of edges G
pub record Charts (net : Net) (G : List Edge) (g : Ground) : Type 0 where
  pub grounded : Grounded net g
  pub vertex-to : (i : ℕ) → i < g.count → Vertex net (vertex_at g i)
  pub number : (x : Place) → Vertex net x → (i : ℕ) × ((i < g.count) × (x ≡ vertex_at g i))
  pub link-to : (i j : ℕ) → Link (pairs g.graph) i j → Link G (vertex_at g i) (vertex_at g j)
  pub link-from : (i j : ℕ) → i < g.count → j < g.count → Link G (vertex_at g i) (vertex_at g j) → Link (pairs g.graph) i j
  pub closed : (x y : Place) → Link G x y → Vertex net x × Vertex net y
  -- its edges are written smaller place first
  pub upward : (e : Edge) → e ∈ G → before e.0 e.1 ≡ true

module _ {net : Net} {G : List Edge} {g : Ground} (charts : Charts net G g) (t : Tree) (sound : Sound net t) where
  abbrev ground : Grounded net g
  ground = charts.grounded

  -- Ways by numbers and by places

  -- the way from the vertex i through rs to y, by numbers
  record Numbers (i : ℕ) (rs : List Place) (y : Place) : Type 0 where
    pub last : ℕ
    pub low : last < g.count
    pub points : List ℕ
    pub way : Way (pairs g.graph) i points last
    pub places : rs ≡ map (vertex_at g) points
    pub end : y ≡ vertex_at g last

  numbers : {x y : Place} {rs : List Place} → Way G x rs y → (i : ℕ) → i < g.count → x ≡ vertex_at g i → Numbers i rs y
  numbers (stop e) i h at = record { last = i; low = h; points = []; way = stop refl; places = refl; end = sym e ∙ at }
  numbers (go {x = x} {y = z} l w) i h at =
      let n = charts.number z (charts.closed x z l).1 in
      let r = numbers w n.0 n.1.0 n.1.1 in
      let k = charts.link-from i n.0 h n.1.0 (subst (λ (c : Place). Link G c (vertex_at g n.0)) at
      (subst (λ (c : Place). Link G x c) n.1.1 l)) in
      record {
        last = r.last;
        low = r.low;
        points = n.0 ∷ r.points;
        way = go k r.way;
        places = ap₂ (λ (c : Place) (cs : List Place). c ∷ cs) n.1.1 r.places;
        end = r.end;
      }

  numbers-long : {i : ℕ} {rs : List Place} {y : Place} (r : Numbers i rs y) →
      long (cost_in net) (vertex_at g i) rs ≡ long (distance net g t ground sound) i r.points
  numbers-long {i} r =
      ap (long (cost_in net) (vertex_at g i)) r.places ∙ long-places net g t ground sound r.way

  to-places : {i j : ℕ} {ps : List ℕ} → Way (pairs g.graph) i ps j → Way G (vertex_at g i) (map (vertex_at g) ps) (vertex_at g j)
  to-places (stop e) = stop (ap (vertex_at g) e)
  to-places (go {x = x} {y = y} l w) = go (charts.link-to x y l) (to-places w)

  pub vertex-not : (i j : ℕ) → i ≤ j → j < g.count → before (vertex_at g j) (vertex_at g i) ≡ false
  vertex-not i j h k =
      by (ltb i j)
      (λ b.
      by (before (vertex_at g j) (vertex_at g i))
      (λ q. differ (place-order.along (vertex_at g i) (vertex_at g j) (vertex_at g i) (ground.ordered i j (ltb-true i j b) k) q)
      (place-order.never (vertex_at g i)))
      (λ q. q))
      (λ b.
      let e : j ≡ i = omega (arith, ltb-false i j b) in
      ap (λ (x : ℕ). before (vertex_at g x) (vertex_at g i)) e ∙ place-order.never (vertex_at g i))

  -- The nearest tree point

  far-least : (u : ℕ) → u < g.count → (w : Place) (rs : List Place) → w ∈ points_of t.points t.count → Way G (vertex_at g u) rs w →
      (far (labels_in g t) u ≤ long (cost_in net) (vertex_at g u) rs)
      × (long (cost_in net) (vertex_at g u) rs ≡ far (labels_in g t) u → before w (vertex_at g (root (labels_in g t) u)) ≡ false)
  unfolding labels_in
  far-least u h w rs m way =
      let r = numbers way u h refl in
      let s = in_source net g t ground sound r.last r.low (Memᴰ.cast (sym r.end) m) in
      let n = nearest-source (setting net g t ground sound) (whole net g t ground sound) u h in
      let e = numbers-long r in (
        omega (arith, n.nearest r.last r.points s r.way, e),
        λ q.
            ap (λ (c : Place). before c (vertex_at g (root (labelled g.graph g.count (sources net g t ground sound)) u))) r.end
            ∙ vertex-not _ r.last (n.smallest r.last r.points s r.way (sym e ∙ q)) r.low,
      )

  -- the next vertex of a shortest way is not below the parent
  next-least : (x : ℕ) → x < g.count → (x ∈ sources net g t ground sound → ⊥) → {z : Place} {rs : List Place} →
      Link G (vertex_at g x) z → Way G z rs (vertex_at g (root (labels_in g t) x)) →
      cost_in net (vertex_at g x) z + long (cost_in net) z rs ≡ far (labels_in g t) x →
      before z (vertex_at g (up (parents_in g t) x)) ≡ false
  unfolding labels_in parents_in
  next-least x h off {z} {rs} l w e =
      let s = setting net g t ground sound in
      let all = whole net g t ground sound in
      let n = charts.number z (charts.closed (vertex_at g x) z l).1 in
      let j = n.0 in
      let r = numbers w j n.1.0 n.1.1 in
      let k = charts.link-from x j h n.1.0 (subst (λ (c : Place). Link G (vertex_at g x) c) n.1.1 l) in
      let root-low = (root-on net g t ground sound x h).0 in
      let same : r.last ≡ root (labelled g.graph g.count (sources net g t ground sound)) x
      = vertex-one net g t ground sound _ _ r.low root-low (sym r.end) in
      let cost-is : cost_in net (vertex_at g x) z ≡ distance net g t ground sound x j = ap (cost_in net (vertex_at g x)) n.1.1 in
      let rest : long (cost_in net) z rs ≡ long (distance net g t ground sound) j r.points
      = ap (λ (c : Place). long (cost_in net) c rs) n.1.1 ∙ numbers-long r in
      let o = onward-of s all x j r.points k
      (subst (λ (i : ℕ). Way (pairs g.graph) j r.points i) same r.way) (root-source s all x h) (omega (arith, e, cost-is, rest)) in
      ap (λ (c : Place). before c (vertex_at g (up (parented g.graph g.count (labelled g.graph g.count
      (sources net g t ground sound))) x))) n.1.1
      ∙ vertex-not _ j ((parent_is s all x h off).smallest j o) n.1.0

  -- a shortest way to the root is as long as the label says
  shortest-far : (x : ℕ) → x < g.count → (qs : List Place) → Shortest net G (vertex_at g x) qs (vertex_at g (root (labels_in g t) x)) →
      long (cost_in net) (vertex_at g x) qs ≡ far (labels_in g t) x
  shortest-far x h qs s =
      let f = (far-least x h (vertex_at g (root (labels_in g t) x)) qs (root-on net g t ground sound x h).1 s.0).0 in
      let m = s.1 (map (vertex_at g) (way_of net g t ground sound x)) (to-places (way-along net g t ground sound x h)) in
      omega (arith, f, m, way_long net g t ground sound x h)

  step-least : (x : ℕ) → x < g.count → (x ∈ sources net g t ground sound → ⊥) → (z : Place) (rs : List Place) →
      Shortest net G (vertex_at g x) (z ∷ rs) (vertex_at g (root (labels_in g t) x)) → before z (vertex_at g (up (parents_in g t) x)) ≡ false
  unfolding long
  step-least x h off z rs (go l w, least) = next-least x h off l w (shortest-far x h (z ∷ rs) (go l w, least))

  -- R23: at each step the smallest next vertex
  lowest : (r : ℕ) {x : ℕ} {ys : List ℕ} → Upward (setting net g t ground sound) (whole net g t ground sound) x ys → x < g.count →
      root (labels_in g t) x ≡ r → Lowest net G (vertex_at g x) (map (vertex_at g) ys) (vertex_at g r)
  unfolding labels_in parents_in
  lowest r (arrived m) h e = tt
  lowest r (onto {v = x} off above) h e =
      let p = parent_is (setting net g t ground sound) (whole net g t ground sound) x h off in (
        λ z rs q. step-least x h off z rs (subst (λ (i : ℕ). Shortest net G (vertex_at g x) (z ∷ rs) (vertex_at g i)) (sym e) q),
        lowest r above p.inside (p.is.same-root ∙ e),
      )

  way-lowest : (u : ℕ) → u < g.count →
      Lowest net G (vertex_at g u) (map (vertex_at g) (way_of net g t ground sound u)) (vertex_at g (root (labels_in g t) u))
  unfolding labels_in parents_in way_after
  way-lowest u h = lowest _ (way-upward (setting net g t ground sound) (whole net g t ground sound) u h) h refl

  -- All of it, where the tree's points are those of its edges and its pins

  module _ {T : List Edge} (point-in : (v : Place) → Point net.pins T v → v ∈ points_of t.points t.count)
      (in-point : (v : Place) → v ∈ points_of t.points t.count → Point net.pins T v) where
    pub beside-ours : (u : ℕ) → u < g.count → (far (labels_in g t) u ≡ 0 → ⊥) →
        Beside net G T (vertex_at g u) (vertex_at g (root (labels_in g t) u)) (map (vertex_at g) (way_of net g t ground sound u))
    beside-ours u h off =
        let r = root-on net g t ground sound u h in
        let long-is = way_long net g t ground sound u h in
        record {
          vertex = charts.vertex-to u h;
          off = λ p. off (on-near net g t ground sound u h (point-in _ p));
          point = in-point _ r.1;
          itself = charts.vertex-to _ r.0;
          way = to-places (way-along net g t ground sound u h);
          nearest = λ w rs p _ way. omega (arith, long-is, (far-least u h w rs (point-in w p) way).0);
          smallest = λ w rs p _ way e. (far-least u h w rs (point-in w p) way).1 (e ∙ long-is);
          lowest = way-lowest u h;
        }

  pub charts-lawful : Lawful net G
  charts-lawful = record {
    positive =
        λ x y l.
        let i = charts.number x (charts.closed x y l).0 in
        let j = charts.number y (charts.closed x y l).1 in
        let k = charts.link-from i.0 j.0 i.1.0 j.1.0
        (subst (λ (c : Place). Link G c (vertex_at g j.0)) i.1.1 (subst (λ (c : Place). Link G x c) j.1.1 l)) in
        omega (arith, (link-in (setting net g t ground sound) i.0 j.0 k).some, ap₂ (cost_in net) i.1.1 j.1.1);
    vertex = λ x y l. (charts.closed x y l).1;
  }
