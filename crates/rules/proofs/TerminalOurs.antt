-- The terminal tree that is worked out is the one of the rules: roots, parents and ways by the tables are those by places, each bridge with
-- its path is offered in its turn, and what the tables keep is what is kept.
-- Assumes nothing.
use mathlib.Core.Path.{◌≡◌, refl, sym, ap, ◌∙◌, subst}
use mathlib.Core.Logic.{inl, inr}
use mathlib.Core.List.{List, [], ◌∷◌, map}
use Prim.Native.Nat.{ℕ}
use native.Mathlib.Omega.{arith}
use Rattle.lists.specs.Member.{◌∈◌}
use Rattle.lists.specs.Sorted.{Ascending}
use Rattle.lists.proofs.MapLaws.{in_map, map_in, map_in-then, map_in-of, map_in-has}
use Rattle.joined.specs.Joined.{Link}
use Rattle.joined.specs.Way.{Way, go, long}
use Rattle.joined.specs.Keep.{kept, Keeping}
use Rattle.joined.proofs.KeepingLaws.{keeping-kept, keeping-among}
use Rattle.joined.proofs.CarriedLaws.{kept-carried}
use Rattle.plane.specs.declared.Place.{Place}
use Rattle.plane.proofs.PlaceOrder.{place_same}
use Rattle.net.specs.Allowed.{Allowed}
use Rattle.net.specs.Net.{Net}
use Rattle.graph.specs.Spanning.{vertices_of, spanning}
use Rattle.graph.specs.Edges.{before_edge}
use Rattle.terminal.specs.Tree.{paths_of, root_of, roots_of}
use Rattle.terminal.specs.Roots as tables
use Rattle.terminal.specs.Stands.{KeptPath, kept_ends, Stands}
use Rattle.terminal.specs.KeptBridges.{taken_before, KeptBridges}
use Rattle.terminal.proofs.CrossingLaws.{to-numbers}
use Rattle.terminal.proofs.RootLaws.{nearest-root, smallest-parent}
use Rattle.terminal.proofs.KeptBridgeLaws.{kept-bridges}
use Rattle.rules.specs.Edges.{Edge}
use Rattle.rules.specs.Terminal.{Path, path_ends, given_for, taken_first}
use Rattle.rules.specs.Terminal.{Root, Through, Parent, Up, arrived, upward, Bridge, Terminal}
use Rattle.rules.proofs.TerminalOnly.{root-only, terminal-one}

module _ {net : Net} (a : Allowed net) where
  abbrev G : List Edge
  G = spanning net

  -- Roots, parents and ways

  pub root-ours : (v : Place) → v ∈ vertices_of net → Root net G v (root_of net v)
  root-ours v m =
      let r = nearest-root a v m in
      record {
        pin = r.is-pin;
        points = r.points;
        way = r.walk;
        nearest = λ q qs i w. omega (arith, r.nearest q qs i w, r.walk-long);
        smallest = λ q qs i w e. r.smallest q qs i w (e ∙ r.walk-long);
      }

  -- both ends of a link are vertices
  ends-in : (v w : Place) → Link G v w → (v ∈ vertices_of net) × (w ∈ vertices_of net)
  ends-in v w (inl i) = (to-numbers a).inside v w i
  ends-in v w (inr i) = let r = (to-numbers a).inside w v i in (r.1, r.0)

  through-to : (v w : Place) → tables.Through net v w → Through net G v w
  through-to v w t =
      let i = ends-in v w t.link in
      let r = nearest-root a v i.0 in
      record {
        link = t.link;
        root = root_of net v;
        own = root-ours v i.0;
        same = subst (Root net G w) t.same-root (root-ours w i.1);
        points = t.points;
        way = t.way;
        shortest = λ qs u. omega (arith, t.shortest, r.nearest (root_of net v) qs r.is-pin u);
      }

  through-from : (v w : Place) → Through net G v w → tables.Through net v w
  unfolding long
  through-from v w t =
      let i = ends-in v w t.link in
      let r = nearest-root a v i.0 in
      let e : t.root ≡ root_of net v = root-only t.own (root-ours v i.0) in
      let u : Way G w t.points (root_of net v) = subst (λ (z : Place). Way G w t.points z) e t.way in
      let low = t.shortest r.points (subst (λ (z : Place). Way G v r.points z) (sym e) r.walk) in
      let high = r.nearest (root_of net v) (w ∷ t.points) r.is-pin (go t.link u) in
      record {
        link = t.link;
        same-root = root-only (root-ours w i.1) t.same ∙ e;
        points = t.points;
        way = u;
        shortest = omega (arith, low, high, r.walk-long);
      }

  parent-ours : (v : Place) → v ∈ vertices_of net → (v ∈ net.pins → ⊥) → Parent net G v (tables.parent_of net v)
  parent-ours v m n =
      let p = smallest-parent a v m n in
      record { through = through-to v _ p.through; smallest = λ w t. p.smallest w (through-from v w t) }

  up-ours : (v : Place) (qs : List Place) → v ∈ vertices_of net → tables.WayUp net v qs → Up net G v qs
  up-ours v qs m (tables.arrived i) = arrived i
  up-ours v qs m (tables.upward n u) =
      let p = parent-ours v m n in
      upward n p (up-ours _ _ (ends-in v _ p.through.link).1 u)

  -- Bridges

  pub kb : KeptBridges net
  kb = kept-bridges a

  -- a bridge with its path
  abbrev path_for : (k : KeptPath) → Stands net k.0 k.1 → Path
  path_for k s = record { bridge = k.0; start = s.path.start; points = s.path.points; finish = s.path.finish }

  unfoldable pub offered : List Path
  offered = map_in kb.offered (λ k m. path_for k (kb.stands k m))

  offered-given : map (given_for net) offered ≡ kb.offered
  unfolding offered
  offered-given =
      map_in-then (given_for net) (λ (k : KeptPath). k) kb.offered _ (λ k m. ap (λ (n : ℕ). (k.0, n)) (kb.stands k m).length-is)
      ∙ map_same kb.offered
    where
      map_same : (l : List KeptPath) → map (λ (k : KeptPath). k) l ≡ l
      map_same [] = refl
      map_same (x ∷ l) = ap (λ (r : List KeptPath). x ∷ r) (map_same l)

  edge-ends : (e : Edge) → e ∈ G → (e.0 ∈ vertices_of net) × (e.1 ∈ vertices_of net)
  edge-ends e i = ends-in e.0 e.1 (inl i)

  bridge-for : (k : KeptPath) (m : k ∈ kb.offered) → Bridge net G (path_for k (kb.stands k m))
  bridge-for k m =
      let s = kb.stands k m in
      let i = edge-ends k.0 s.is-edge in
      record {
        edge = s.is-edge;
        start-root = subst (Root net G k.0.0) (sym s.start_is) (root-ours k.0.0 i.0);
        finish-root = subst (Root net G k.0.1) (sym s.finish-is) (root-ours k.0.1 i.1);
        apart = s.path.apart;
        first = s.first_way;
        first-up = up-ours k.0.0 _ i.0 s.first-up;
        second = s.second_way;
        second-up = up-ours k.0.1 _ i.1 s.second-up;
        points-are = s.points-are;
      }

  -- where an offered path comes from
  pub record Origin (k : Path) : Type 0 where
    pub given : KeptPath
    pub stands : Stands net given.0 given.1
    pub is : k ≡ path_for given stands
    pub bridge : Bridge net G k

  origin : (k : Path) → k ∈ offered → Origin k
  unfolding offered
  origin k m =
      let r = map_in-of {B = Path} kb.offered (λ k m. path_for k (kb.stands k m)) k m in
      record {
        given = r.0;
        stands = kb.stands r.0 r.1.0;
        is = r.1.1;
        bridge = subst (Bridge net G) (sym r.1.1) (bridge-for r.0 r.1.0);
      }

  all-offered : (e : Edge) → e ∈ G → (p q : Place) → Root net G e.0 p → Root net G e.1 q → (p ≡ q → ⊥) →
      (k : Path) × ((k ∈ offered) × (k.bridge ≡ e))
  unfolding offered
  all-offered e i p q r s n =
      let v = edge-ends e i in
      let x = root-only r (root-ours e.0 v.0) in
      let y = root-only s (root-ours e.1 v.1) in
      let o = kb.all e i (λ z. n (x ∙ z ∙ sym y)) in
      let h = map_in-has {B = Path} kb.offered (λ k m. path_for k (kb.stands k m)) (e, o.0) o.1 in
      (path_for h.0 (kb.stands h.0 h.1.0), (h.1.1.1, sym (ap (λ (z : KeptPath). z.0) h.1.1.0)))

  turn-same : (j k : Path) → taken_before (given_for net j) (given_for net k) ≡ taken_first net j k
  unfolding taken_before before_edge
  turn-same j k = refl

  in-turn : (l : List Path) → Ascending taken_before (map (given_for net) l) → Ascending (taken_first net) l
  in-turn [] h = tt
  in-turn (x ∷ l) h = (λ y i. sym (turn-same x y) ∙ h.0 (given_for net y) (in_map (given_for net) i), in-turn l h.1)

  -- The kept paths

  unfoldable pub our_paths : List Path
  our_paths = kept place_same path_ends offered

  ours-keeps : Keeping path_ends [] offered our_paths
  unfolding our_paths
  ours-keeps = keeping-kept path_ends place_same offered

  kept-offered : (k : Path) → k ∈ our_paths → k ∈ offered
  kept-offered = keeping-among path_ends ours-keeps

  -- what is worked out is the terminal tree
  pub terminal-ours : Terminal net G our_paths
  terminal-ours = record {
    offered = offered;
    bridges = λ k m. (origin k m).bridge;
    all = all-offered;
    in-turn = in-turn offered (subst (Ascending taken_before) (sym offered-given) kb.in_order);
    keeps = ours-keeps;
  }

  -- and there is no other
  pub terminal-only : (ks : List Path) → Terminal net G ks → ks ≡ our_paths
  terminal-only ks t = terminal-one t terminal-ours

  pub kept-origin : (k : Path) → k ∈ our_paths → Origin k
  kept-origin k m = origin k (kept-offered k m)

  -- the two pins of a bridge, by the tables
  ends-are : (k : Path) → k ∈ offered → (root_of net k.bridge.0 ≡ k.start) × (root_of net k.bridge.1 ≡ k.finish)
  ends-are k m =
      let b = (origin k m).bridge in
      let i = edge-ends k.bridge b.edge in
      (root-only (root-ours k.bridge.0 i.0) b.start-root, root-only (root-ours k.bridge.1 i.1) b.finish-root)

  pub kept-ends : (k : Path) → k ∈ our_paths → (root_of net k.bridge.0 ≡ k.start) × (root_of net k.bridge.1 ≡ k.finish)
  kept-ends k m = ends-are k (kept-offered k m)

  -- what is given for the kept paths is what the call gives
  pub paths-given : map (given_for net) our_paths ≡ paths_of net
  unfolding our_paths roots_of
  paths-given =
      kept-carried place_same place_same (λ x. x) (λ x. x) (given_for net) path_ends (kept_ends net) offered
      (λ k m. (ends-are k m, (refl, refl)))
      ∙ ap (kept place_same (kept_ends net)) offered-given ∙ sym (kb.kept-are place_same)
