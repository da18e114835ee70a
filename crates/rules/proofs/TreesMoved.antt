-- The trees move with the net: a map of the plane onto itself that keeps the order of places, quadrants, costs, middles, vertices and what
-- is clear carries the trees of a net to the trees of the moved net.
-- Assumes nothing.
use mathlib.Core.Path.{◌≡◌, refl, sym, ap, ap₂, ◌∙◌, subst}
use mathlib.Core.Bool.{Bool, true, false}
use mathlib.Core.Logic.{◌⊎◌, inl, inr, ◌↔◌}
use mathlib.Core.List.Memᴰ
use mathlib.Core.List.{List, [], ◌∷◌, map}
use Prim.Native.Nat.{ℕ, zero, suc, ◌+◌}
use native.Mathlib.Omega.{arith}
use lib.Dec.{ltb}
use lib.ListN.{length}
use Rattle.lists.specs.Member.{◌∈◌, here, there}
use Rattle.lists.specs.Sorted.{first_then, Ascending}
use Rattle.lists.proofs.TestLaws.{either}
use Rattle.lists.proofs.MapLaws.{in_map, of_map, map-once, map-undone}
use Rattle.plane.specs.declared.Place.{Place}
use Rattle.plane.specs.Place.{before}
use Rattle.plane.specs.Middle.{middle_place}
use Rattle.plane.specs.Macro.{clear}
use Rattle.net.specs.Net.{Net, cost_in}
use Rattle.joined.specs.Joined.{Joined}
use Rattle.joined.specs.Way.{Way, long, On, turned}
use Rattle.joined.specs.Keep.{Keeping, over, takes, leaves}
use Rattle.joined.specs.Exchange.{Toward, steps}
use Rattle.joined.specs.OneTree.{Point}
use Rattle.joined.proofs.JoinedLaws.{one, carried, firsts, seconds}
use Rattle.joined.proofs.CarriedLaws.{alike-carried, on-carried, turned-carried, link-carried, way-carried}
use Rattle.rules.specs.Edges.{Edge, edge_before, edge_cost, Same}
use Rattle.rules.specs.Spanning.{Vertex, Quadrant, Lies, May, Picks, Neighbours, Spanning}
use Rattle.rules.specs.Terminal.{Path, path_ends, path_cost, taken_first, Root, Through, Parent, Up, arrived, upward, Bridge, Terminal}
use Rattle.rules.specs.Trees.{Trees}
use Rattle.rules.specs.Moved.{moved_edge, moved_path}

-- f carries what is known of the net to the other, and h undoes it
pub record Carries (f h : Place → Place) (net other : Net) : Type 0 where
  pub undone : (x : Place) → h (f x) ≡ x
  pub order : (x y : Place) → before (f x) (f y) ≡ before x y
  pub lies : (q : Quadrant) (x y : Place) → Lies q x y → Lies q (f x) (f y)
  pub costs : (x y : Place) → cost_in other (f x) (f y) ≡ cost_in net x y
  pub middle : (a b u : Place) → middle_place (f a) (f b) (f u) ≡ f (middle_place a b u)
  pub clears : (x y : Place) → clear (f x) (f y) other.macros ≡ clear x y net.macros
  pub pin : (x : Place) → x ∈ net.pins → f x ∈ other.pins
  pub vertex : (x : Place) → Vertex net x → Vertex other (f x)

-- both ways, with as many pins
pub record Moves (f h : Place → Place) (net other : Net) : Type 0 where
  pub to : Carries f h net other
  pub back : Carries h f other net
  pub count : length net.pins ≡ length other.pins

pub turned_back : {f h : Place → Place} {net other : Net} → Moves f h net other → Moves h f other net
turned_back m = record { to = m.back; back = m.to; count = sym m.count }

-- the places ws are the places vs moved, the edges U the edges T
abbrev pub MovedPlaces : (Place → Place) → (Place → Place) → List Place → List Place → Type 0
MovedPlaces f h vs ws = ((v : Place) → v ∈ vs → f v ∈ ws) × ((w : Place) → w ∈ ws → h w ∈ vs)

abbrev pub Moved : (Place → Place) → (Place → Place) → List Edge → List Edge → Type 0
Moved f h T U = ((e : Edge) → e ∈ T → moved_edge f e ∈ U) × ((e : Edge) → e ∈ U → moved_edge h e ∈ T)

-- an order by first parts, then second, from its three tests
unfoldable pub choose : Bool → Bool → Bool → Bool
choose x y z = elim x [ true ↦ true | false ↦ elim y [ true ↦ false | false ↦ z ] ]

-- What is ascending stays so

pub ascending-there : {A B : Type 0} (f : A → B) (p : A → A → Bool) (q : B → B → Bool) → ((x y : A) → q (f x) (f y) ≡ p x y) →
    (l : List A) → Ascending p l → Ascending q (map f l)
ascending-there f p q k [] h = tt
ascending-there f p q k (x ∷ l) h = (
  λ y i. let s = of_map f l i in subst (λ z. q (f x) z ≡ true) (sym s.is) (k x s.entry ∙ h.0 s.entry s.stands),
  ascending-there f p q k l h.1,
)

module _ {f h : Place → Place} {net other : Net} (m : Moves f h net other) where
  pub only : (x y : Place) → f x ≡ f y → x ≡ y
  only x y e = sym (m.to.undone x) ∙ ap h e ∙ m.to.undone y

  -- x is y moved back
  pub across : (x y : Place) → h y ≡ x → y ≡ f x
  across x y e = sym (m.back.undone y) ∙ ap f e

  pub edge-back : (e : Edge) → moved_edge f (moved_edge h e) ≡ e
  edge-back e = ap₂ (λ (x y : Place). (x, y)) (m.back.undone e.0) (m.back.undone e.1)

  pub edge-only : (e d : Edge) → moved_edge f e ≡ moved_edge f d → e ≡ d
  edge-only e d q = ap₂ (λ (x y : Place). (x, y)) (only _ _ (firsts q)) (only _ _ (seconds q))

  pub edges-there : (e d : Edge) → edge_before (moved_edge f e) (moved_edge f d) ≡ edge_before e d
  unfolding first_then choose
  edges-there e d =
      ap (λ (x : Bool). choose x (before (f d.0) (f e.0)) (before (f e.1) (f d.1))) (m.to.order e.0 d.0)
      ∙ ap₂ (λ (y z : Bool). choose (before e.0 d.0) y z) (m.to.order d.0 e.0) (m.to.order e.1 d.1)

  -- against a place of the other net
  pub cost-to : (u w : Place) → cost_in other (f u) w ≡ cost_in net u (h w)
  cost-to u w = ap (cost_in other (f u)) (sym (m.back.undone w)) ∙ m.to.costs u (h w)

  pub before-to : (w v : Place) → before w (f v) ≡ before (h w) v
  before-to w v = ap (λ (z : Place). before z (f v)) (sym (m.back.undone w)) ∙ m.to.order (h w) v

  pub moved-map : (X : List Edge) → Moved f h X (map (moved_edge f) X)
  moved-map X = (
    λ e i. in_map (moved_edge f) i,
    λ e i.
        let s = of_map (moved_edge f) X i in
        Memᴰ.cast (ap (moved_edge h) s.is ∙ ap₂ (λ (x y : Place). (x, y)) (m.to.undone s.entry.0) (m.to.undone s.entry.1))
        s.stands,
  )

  pub places-map : (vs : List Place) → MovedPlaces f h vs (map f vs)
  places-map vs = (
    λ v i. in_map f i,
    λ w i. let s = of_map f vs i in Memᴰ.cast (ap h s.is ∙ m.to.undone s.entry) s.stands,
  )

  pub in_moved : (X : List Edge) (e : Edge) → moved_edge h e ∈ X → e ∈ map (moved_edge f) X
  in_moved X e i = Memᴰ.cast (sym (edge-back e)) (in_map (moved_edge f) i)

  pub in-places : (vs : List Place) (v : Place) → h v ∈ vs → v ∈ map f vs
  in-places vs v i = Memᴰ.cast (sym (m.back.undone v)) (in_map f i)

  -- Ways

  pub long-there : (x : Place) (qs : List Place) → long (cost_in other) (f x) (map f qs) ≡ long (cost_in net) x qs
  unfolding long
  long-there x [] = refl
  long-there x (y ∷ qs) = ap₂ ◌+◌ (m.to.costs x y) (long-there y qs)

  pub long-to : (x : Place) (qs : List Place) → long (cost_in other) (f x) qs ≡ long (cost_in net) x (map h qs)
  long-to x qs =
      ap (long (cost_in other) (f x)) (sym (map-undone h f qs (λ z i. m.back.undone z))) ∙ long-there x (map h qs)

  module _ {G H : List Edge} (k : Moved f h G H) where
    pub way-there : {x y : Place} {qs : List Place} → Way G x qs y → Way H (f x) (map f qs) (f y)
    way-there w = way-carried f (λ a b i. k.0 (a, b) i) w

    pub way_back : {x y : Place} {qs : List Place} → Way H (f x) qs y → Way G x (map h qs) (h y)
    way_back {x} {y} {qs} w =
        subst (λ (z : Place). Way G z (map h qs) (h y)) (m.to.undone x) (way-carried h (λ a b i. k.1 (a, b) i) w)

-- The graph

module _ {f h : Place → Place} {net other : Net} (m : Moves f h net other) {vs ws : List Place} (k : MovedPlaces f h vs ws) where
  may-there : {q : Quadrant} {u v : Place} → May net vs q u v → May other ws q (f u) (f v)
  may-there {q} {u} {v} x = record {
    vertex = k.0 v x.vertex;
    lies = m.to.lies q u v x.lies;
    seen = m.to.clears u v ∙ x.seen;
  }

module _ {f h : Place → Place} {net other : Net} (m : Moves f h net other) {vs ws : List Place} (k : MovedPlaces f h vs ws) where
  may-back : {q : Quadrant} {u w : Place} → May other ws q (f u) w → May net vs q u (h w)
  may-back {q} {u} {w} x =
      subst (λ (z : Place). May net vs q z (h w)) (m.to.undone u) (may-there (turned_back m) (k.1, k.0) x)

  picks-there : {u v : Place} → Picks net vs u v → Picks other ws (f u) (f v)
  picks-there {u} {v} p = record {
    quadrant = p.quadrant;
    may = may-there m k p.may;
    nearest = λ w x. omega (arith, p.nearest (h w) (may-back x), m.to.costs u v, cost-to m u w);
    smallest = λ w x e. before-to m w v ∙ p.smallest (h w) (may-back x) (sym (cost-to m u w) ∙ e ∙ m.to.costs u v);
  }

  neighbours-there : {u v : Place} → Neighbours net vs u v → Neighbours other ws (f u) (f v)
  neighbours-there {u} {v} j = record {
    smaller = m.to.order u v ∙ j.smaller;
    one = k.0 u j.one;
    other = k.0 v j.other;
    picked = either (λ p. inl (picks-there p)) (λ p. inr (picks-there p)) j.picked;
  }

module _ {f h : Place → Place} {net other : Net} (m : Moves f h net other) where
  pub spanning-there : {vs : List Place} {es : List Edge} → Spanning net vs es → Spanning other (map f vs) (map (moved_edge f) es)
  spanning-there {vs} {es} s = record {
    vertices =
        λ v. (
          λ i.
              let r = of_map f vs i in
              subst (Vertex other) (sym r.is) (m.to.vertex r.entry ((s.vertices r.entry).0 r.stands)),
          λ x. in-places m vs v ((s.vertices (h v)).1 (m.back.vertex v x)),
        );
    vertices-in-order = ascending-there f before before m.to.order vs s.vertices-in-order;
    edges =
        λ u v. (
          λ i.
              let r = of_map (moved_edge f) es i in
              subst (λ (z : Edge). Neighbours other (map f vs) z.0 z.1) (sym r.is)
              (neighbours-there m (places-map m vs) ((s.edges r.entry.0 r.entry.1).0 r.stands)),
          λ x. in_moved m es (u, v) ((s.edges (h u) (h v)).1 (neighbours-there (turned_back m) ((places-map m vs).1, (places-map m vs).0) x)),
        );
    edges-in-order = ascending-there (moved_edge f) edge_before edge_before (edges-there m) es s.edges-in-order;
  }

-- The terminal tree

module _ {f h : Place → Place} {net other : Net} (m : Moves f h net other) {G H : List Edge} (k : Moved f h G H) where
  root-there : {v p : Place} → Root net G v p → Root other H (f v) (f p)
  root-there {v} {p} r = record {
    pin = m.to.pin p r.pin;
    points = map f r.points;
    way = way-there m k r.way;
    nearest =
        λ q qs i w.
        omega (arith, r.nearest (h q) (map h qs) (m.back.pin q i) (way_back m k w), long-there m v r.points, long-to m v qs);
    smallest =
        λ q qs i w e.
        before-to m q p
        ∙ r.smallest (h q) (map h qs) (m.back.pin q i) (way_back m k w) (sym (long-to m v qs) ∙ e ∙ long-there m v r.points);
  }

  through-there : {v w : Place} → Through net G v w → Through other H (f v) (f w)
  through-there {v} {w} t = record {
    link = link-carried f (λ a b i. k.0 (a, b) i) t.link;
    root = f t.root;
    own = root-there t.own;
    same = root-there t.same;
    points = map f t.points;
    way = way-there m k t.way;
    shortest =
        λ qs x.
        let y : Way G v (map h qs) t.root = subst (Way G v (map h qs)) (m.to.undone t.root) (way_back m k x) in
        omega (arith, t.shortest (map h qs) y, m.to.costs v w, long-there m w t.points, long-to m v qs);
  }

module _ {f h : Place → Place} {net other : Net} (m : Moves f h net other) {G H : List Edge} (k : Moved f h G H) where
  root-back : {v p : Place} → Root other H (f v) p → Root net G v (h p)
  root-back {v} {p} r = subst (λ (z : Place). Root net G z (h p)) (m.to.undone v) (root-there (turned_back m) (k.1, k.0) r)

  through-back : {v w : Place} → Through other H (f v) w → Through net G v (h w)
  through-back {v} {w} t =
      subst (λ (z : Place). Through net G z (h w)) (m.to.undone v) (through-there (turned_back m) (k.1, k.0) t)

  parent-there : {v p : Place} → Parent net G v p → Parent other H (f v) (f p)
  parent-there {v} {p} r = record {
    through = through-there m k r.through;
    smallest = λ w t. before-to m w p ∙ r.smallest (h w) (through-back t);
  }

  up-there : {v : Place} {l : List Place} → Up net G v l → Up other H (f v) (map f l)
  up-there {v} (arrived i) = arrived (m.to.pin v i)
  up-there {v} (upward n p u) =
      upward (λ i. n (Memᴰ.cast (sym (m.to.undone v)) (m.back.pin (f v) i))) (parent-there p) (up-there u)

  bridge-there : (p : Path) → Bridge net G p → Bridge other H (moved_path f p)
  bridge-there p b = record {
    edge = k.0 p.bridge b.edge;
    start-root = root-there m k b.start-root;
    finish-root = root-there m k b.finish-root;
    apart = λ e. b.apart (only m _ _ e);
    first = map f b.first;
    first-up = up-there b.first-up;
    second = map f b.second;
    second-up = up-there b.second-up;
    points-are = ap (map f) b.points-are ∙ turned-carried f p.bridge.0 b.first (p.bridge.1 ∷ b.second);
  }

-- what is kept of moved paths
module _ {f h : Place → Place} {net other : Net} (m : Moves f h net other) where
  joined-there : (B : List Path) {x y : Place} → Joined (map path_ends B) x y →
      Joined (map path_ends (map (moved_path f) B)) (f x) (f y)
  joined-there B j =
      carried f (λ a b i.
      let s = of_map path_ends B i in
      subst (λ (z : Edge). Joined (map path_ends (map (moved_path f) B)) (f z.0) (f z.1)) (sym s.is)
      (one (inl (in_map path_ends (in_map (moved_path f) s.stands))))) j

  joined_back : (B : List Path) {x y : Place} → Joined (map path_ends (map (moved_path f) B)) (f x) (f y) → Joined (map path_ends B) x y
  joined_back B {x} {y} j =
      subst (λ (z : Place). Joined (map path_ends B) z y) (m.to.undone x)
      (subst (λ (z : Place). Joined (map path_ends B) (h (f x)) z) (m.to.undone y)
      (carried h (λ a b i.
      let r = of_map path_ends (map (moved_path f) B) i in
      let s = of_map (moved_path f) B r.stands in
      let is : (a, b) ≡ moved_edge f (path_ends s.entry) = r.is ∙ ap path_ends s.is in
      subst (λ (z : Edge). Joined (map path_ends B) (h z.0) (h z.1)) (sym is)
      (subst (λ (z : Place). Joined (map path_ends B) z (h (f s.entry.finish))) (sym (m.to.undone s.entry.start))
      (subst (Joined (map path_ends B) s.entry.start) (sym (m.to.undone s.entry.finish))
      (one (inl (in_map path_ends s.stands)))))) j))

  keeping-there : {B O K : List Path} → Keeping path_ends B O K →
      Keeping path_ends (map (moved_path f) B) (map (moved_path f) O) (map (moved_path f) K)
  keeping-there over = over
  keeping-there {B = B} (takes n r) = takes (λ j. n (joined_back B j)) (keeping-there r)
  keeping-there {B = B} (leaves j r) = leaves (joined-there B j) (keeping-there r)

  pub path-cost : (p : Path) → path_cost other (moved_path f p) ≡ path_cost net p
  path-cost p = long-there m p.start p.points

  taken-there : (j p : Path) → taken_first other (moved_path f j) (moved_path f p) ≡ taken_first net j p
  unfolding first_then choose
  taken-there j p =
      ap₂ (λ (a b : ℕ). choose (ltb a b) (ltb b a) (edge_before (moved_edge f j.bridge) (moved_edge f p.bridge)))
      (path-cost j) (path-cost p)
      ∙ ap (choose (ltb (path_cost net j) (path_cost net p)) (ltb (path_cost net p) (path_cost net j))) (edges-there m j.bridge p.bridge)

  module _ {G H : List Edge} (k : Moved f h G H) where
    pub terminal-there : {ks : List Path} → Terminal net G ks → Terminal other H (map (moved_path f) ks)
    terminal-there t = record {
      offered = map (moved_path f) t.offered;
      bridges =
          λ p i.
          let s = of_map (moved_path f) t.offered i in
          subst (Bridge other H) (sym s.is) (bridge-there m k s.entry (t.bridges s.entry s.stands));
      all =
          λ e i p q r s n.
          let u = t.all (moved_edge h e) (k.1 e i) (h p) (h q) (root-there (turned_back m) (k.1, k.0) r)
          (root-there (turned_back m) (k.1, k.0) s) (λ x. n (only (turned_back m) p q x)) in
          (moved_path f u.0, (in_map (moved_path f) u.1.0, ap (moved_edge f) u.1.1 ∙ edge-back m e));
      in-turn = ascending-there (moved_path f) (taken_first net) (taken_first other) taken-there t.offered t.in-turn;
      keeps = keeping-there t.keeps;
    }
