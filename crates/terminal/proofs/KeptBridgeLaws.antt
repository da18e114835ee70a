-- Bridges of an allowed net and the kept ones among them, over places: the bridges by numbers are given as places, their order is kept
-- because the order of edge numbers is the order of edges, and what is kept of them is carried over.
-- Assumes nothing.
use mathlib.Core.Path.{◌≡◌, refl, sym, ap, ◌∙◌, subst}
use mathlib.Core.Bool.{Bool, true, false}
use mathlib.Core.List.Memᴰ
use mathlib.Core.List.{List, [], ◌∷◌, map}
use Prim.Native.Nat.{ℕ, ◌<◌}
use native.Mathlib.Decide.{ℕ_discrete}
use borrow.Author.Tests.{ltb-true, eqb-true}
use lib.Dec.{ltb}
use lib.ListN.{get_or}
use Rattle.lists.specs.Member.{◌∈◌, here, there}
use Rattle.lists.specs.Sorted.{Ascending, first_then, position}
use Rattle.lists.proofs.TestLaws.{by, differ}
use Rattle.lists.proofs.MapLaws.{Source, in_map, of_map}
use Rattle.lists.proofs.SortedLaws.{position-small, at_position}
use Rattle.joined.specs.Keep.{kept}
use Rattle.joined.proofs.CarriedLaws.{Matches, kept-carried}
use Rattle.plane.specs.declared.Place.{Place}
use Rattle.net.specs.Allowed.{Allowed}
use Rattle.net.specs.Net.{Net}
use Rattle.sorted.proofs.NumberLaws.{ascending-at}
use Rattle.graph.specs.Spanning.{vertices_of, spanning}
use Rattle.graph.specs.Edges.{before_edge}
use Rattle.graph.proofs.EdgeLaws.{edge_order}
use Rattle.graph.proofs.GraphBounds.{spanning-ascending}
use Rattle.bridges.specs.Bridges.{one_root, same_root, roots_of as roots_by, path_lengths, earlier, bridges}
use Rattle.keeping.proofs.WholeLaws.{path-lengths-at}
use Rattle.forest.proofs.Nearest.{fits}
use Rattle.keeping.proofs.OurTree.{bridge-is, is-bridge, bridges-in-order, kept-is}
use Rattle.terminal.specs.Number.{number_of, vertex_at, edge_at}
use Rattle.terminal.specs.Tree.{paths_of, root_of, roots_of}
use Rattle.terminal.specs.Stands.{KeptPath, kept_ends, Stands}
use Rattle.terminal.specs.KeptBridges.{taken_before, KeptBridges}
use Rattle.terminal.proofs.NumberLaws.{count_of}
use Rattle.terminal.proofs.SettingOf.{setting, whole}
use Rattle.terminal.proofs.CrossingLaws.{G, T, P, weight, given, paths-are, edge-below, root-number, given-follows}
use Rattle.terminal.proofs.BestJoiningLaws.{bridge-stands}

-- a map that keeps an order
map-ascending : {A B : Type 0} (p : A → A → Bool) (q : B → B → Bool) (f : A → B) (l : List A) →
    ((x y : A) → x ∈ l → y ∈ l → p x y ≡ true → q (f x) (f y) ≡ true) → Ascending p l → Ascending q (map f l)
map-ascending p q f [] h a = tt
map-ascending {B = B} p q f (x ∷ l) h a =
    (λ y m. first y (of_map f l m), map-ascending p q f l (λ u v i k. h u v (there i) (there k)) a.1)
  where
    first : (y : B) → Source f l y → q (f x) y ≡ true
    first y s = subst (λ (z : B). q (f x) z ≡ true) (sym s.is)
        (h x s.entry (here refl) (there s.stands) (a.0 s.entry s.stands))

-- the same first order, and another second one that goes with it
then_by : {A B C : Type 0} (p : A → A → Bool) (q : B → B → Bool) (r : C → C → Bool) (a b : A) (x y : B) (u v : C) →
    (q x y ≡ true → r u v ≡ true) → first_then p q (a, x) (b, y) ≡ true → first_then p r (a, u) (b, v) ≡ true
unfolding first_then
then_by p q r a b x y u v h e =
    by (p a b)
    (λ s. rw (first_then, s) refl)
    (λ s. by (p b a) (λ t. differ (rw (first_then, s, t) at e) refl) (λ t. rw (first_then, s, t) (h (rw (first_then, s, t) at e))))

module _ {net : Net} (a : Allowed net) where
  abbrev L : List ℕ
  L = bridges (G a) (T a) (P a)

  -- the bridges with the lengths of their paths
  abbrev pub offered : List KeptPath
  offered = map (given a) L

  below : (k : ℕ) → k ∈ L → k < (G a).count
  below k m = (bridge-is (setting a) (whole a) k m).0

  pub offered-stand : (k : KeptPath) → k ∈ offered → Stands net k.0 k.1
  offered-stand k m =
      let s = of_map (given a) L m in
      let r = bridge-is (setting a) (whole a) s.entry s.stands in
      subst (λ (b : KeptPath). Stands net b.0 b.1) (sym s.is) (bridge-stands a s.entry r.0 r.1)

  pub offered-apart : (k : KeptPath) → k ∈ offered → root_of net k.0.0 ≡ root_of net k.0.1 → ⊥
  offered-apart k m e = let s = offered-stand k m in s.path.apart (s.start_is ∙ e ∙ sym s.finish-is)

  -- an edge between vertices of different roots is among them
  different : (k : ℕ) → k < (G a).count → (root_of net (edge_at (spanning net) k).0 ≡ root_of net (edge_at (spanning net) k).1 → ⊥) →
      same_root (G a) (T a) k ≡ false
  unfolding one_root roots_of
  different k h n =
      let f = given-follows a k h in
      by (same_root (G a) (T a) k)
      (λ e. absurd (n (f.0 ∙ ap (vertex_at (vertices_of net)) (eqb-true _ _ e) ∙ sym f.1)))
      (λ e. e)

  pub offered-all : (e : Place × Place) → e ∈ spanning net → (root_of net e.0 ≡ root_of net e.1 → ⊥) → (l : ℕ)
      × ((e, l) ∈ offered)
  offered-all e m n = (weight a k, Memᴰ.cast (ap (λ (b : Place × Place). (b, weight a k)) (sym is)) (in_map (given a) bridge))
    where
      k : ℕ
      k = position before_edge (spanning net) e

      is : edge_at (spanning net) k ≡ e
      is = at_position before_edge edge_order (spanning net) (spanning-ascending net) e _ m

      inside : k < (G a).count
      inside =
          rw (count_of net.weights (vertices_of net) (spanning net))
          (position-small before_edge edge_order (spanning net) (spanning-ascending net) e m)

      bridge : k ∈ L
      bridge = is-bridge (setting a) (whole a) k inside (different k inside (λ q. n (rw is at q)))

  -- The order in which they are taken

  edge-before : (j k : ℕ) → k < (G a).count → j < k → before_edge (edge_at (spanning net) j) (edge_at (spanning net) k) ≡ true
  edge-before j k h l = ascending-at before_edge (spanning net) (spanning-ascending net) j k _ l (edge-below a k h)

  weight-at : (k : ℕ) → k < (G a).count → get_or (path_lengths (G a) (T a).fars (P a)) k 0 ≡ weight a k
  weight-at k h = path-lengths-at (G a) (T a) (P a) (fits (setting a)) k h

  taken-first : (j k : ℕ) → j < (G a).count → k < (G a).count → earlier (path_lengths (G a) (T a).fars (P a)) j k ≡ true →
      taken_before (given a j) (given a k) ≡ true
  unfolding earlier taken_before
  taken-first j k i h e =
      then_by ltb ltb before_edge (weight a j) (weight a k) j k (edge_at (spanning net) j) (edge_at (spanning net) k)
      (λ l. edge-before j k h (ltb-true j k l))
      (subst (λ (w : ℕ). first_then ltb ltb (weight a j, j) (w, k) ≡ true) (weight-at k h)
      (subst (λ (w : ℕ). first_then ltb ltb (w, j) (get_or (path_lengths (G a) (T a).fars (P a)) k 0, k) ≡ true) (weight-at j i) e))

  pub offered-in-order : Ascending taken_before offered
  offered-in-order =
      map-ascending (earlier (path_lengths (G a) (T a).fars (P a))) taken_before (given a) L
      (λ j k m n. taken-first j k (below j m) (below k n)) (bridges-in-order (setting a) (whole a))

  -- Those that are kept

  matches : (same : Discrete Place) (k : ℕ) → k ∈ L →
      Matches ℕ_discrete same (vertex_at (vertices_of net)) (number_of (vertices_of net)) (given a) (roots_by (G a) (T a)) (kept_ends net) k
  matches same k m =
      let h = below k m in
      (given-follows a k h, (root-number a _ ((setting a).one_in k h), root-number a _ ((setting a).two_in k h)))

  pub paths-kept : (same : Discrete Place) → paths_of net ≡ kept same (kept_ends net) offered
  paths-kept same =
      paths-are a
      ∙ ap (map (given a)) (kept-is (setting a) (whole a))
      ∙ kept-carried ℕ_discrete same (vertex_at (vertices_of net)) (number_of (vertices_of net)) (given a) (roots_by (G a) (T a))
      (kept_ends net) L
      (matches same)

  pub kept-bridges : KeptBridges net
  kept-bridges = record {
    offered = offered;
    stands = offered-stand;
    apart = offered-apart;
    all = offered-all;
    in_order = offered-in-order;
    kept-are = paths-kept;
  }
