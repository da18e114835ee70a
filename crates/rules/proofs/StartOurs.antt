-- R1: an edge is in the union of the tables exactly when it is on a kept path. The marks of the tables go along the ways of the kept
-- bridges, and so do the paths.
-- Assumes nothing.
use mathlib.Core.Path.{◌≡◌, refl, sym, ap, ap₂, ◌∙◌, subst}
use mathlib.Core.Bool.{true}
use mathlib.Core.Logic.{inl, inr, ◌↔◌}
use mathlib.Core.List.Memᴰ
use mathlib.Core.List.{List, [], ◌∷◌, map}
use Prim.Native.Nat.{ℕ, ◌<◌}
use Rattle.lists.specs.Member.{◌∈◌}
use Rattle.lists.proofs.TestLaws.{differ, either}
use Rattle.lists.proofs.MapLaws.{in_map, of_map}
use Rattle.joined.specs.Joined.{Link, Alike}
use Rattle.joined.specs.Way.{On, turned}
use Rattle.joined.proofs.JoinedLaws.{firsts, seconds}
use Rattle.joined.proofs.OtherLaws.{alike-trans}
use Rattle.joined.proofs.WayLaws.{on-link}
use Rattle.joined.proofs.CarriedLaws.{on-carried, turned-carried}
use Rattle.plane.specs.declared.Place.{Place}
use Rattle.plane.specs.Place.{before}
use Rattle.plane.proofs.PlaceOrder.{place-order}
use Rattle.net.specs.Allowed.{Allowed}
use Rattle.net.specs.Net.{Net}
use Rattle.graph.specs.Spanning.{vertices_of, spanning}
use Rattle.forest.specs.Edges.{one, two}
use Rattle.bridges.specs.Bridges.{path as path_edges}
use Rattle.keeping.specs.Kept.{terminal}
use Rattle.forest.specs.Setting.{ends}
use Rattle.keeping.proofs.WholeLaws.{of-kept}
use Rattle.keeping.proofs.OurTree as numbers
use Rattle.terminal.specs.Number.{vertex_at, edge_at}
use Rattle.terminal.specs.Tree.{tree_of, roots_of}
use Rattle.terminal.specs.Roots.{WayUp, arrived, upward, parent_of}
use Rattle.terminal.specs.Stands.{KeptPath, Stands}
use Rattle.terminal.proofs.SettingOf.{one-vertex, two-vertex, setting, whole}
use Rattle.terminal.proofs.CrossingLaws.{G, T, P, kept, weight, given, kept-below, given-in, of-given, given-follows}
use Rattle.terminal.proofs.RootLaws.{way_places, way_up}
use Rattle.union.specs.Union.{union_of}
use Rattle.union.proofs.UnionTree.{OnKept, of-union, bridge_in, one_in, two_in, home, walk}
use Rattle.union.proofs.UnionSound.{union-sound, union-ranked, union_list, union-edge, union-has}
use Rattle.rules.specs.Edges.{Edge, Same}
use Rattle.rules.specs.Terminal.{Path, given_for}
use Rattle.rules.proofs.GainOurs.{not_after, edges_in}
use Rattle.rules.proofs.RoundOurs as ours
use Rattle.rules.proofs.TerminalOurs.{our_paths, kept-origin, paths-given}
use Rattle.rules.specs.Refined.{OnSome, Union}

module _ {A B : Type 0} where
  -- a step of a way that was carried over comes from one
  on-back : (f : A → B) (x y : B) (u : A) (qs : List A) → On x y (f u) (map f qs) → (p : A)
      × ((q : A) × (On p q u qs × Alike x y (f p) (f q)))
  on-back f x y u [] o = absurd o
  on-back f x y u (v ∷ qs) (inl e) = (u, (v, (inl (inl (refl, refl)), e)))
  on-back f x y u (v ∷ qs) (inr o) = let r = on-back f x y v qs o in (r.0, (r.1.0, (inr r.1.1.0, r.1.1.1)))

-- a way up is determined
up-only : {net : Net} {v : Place} {qs rs : List Place} → WayUp net v qs → WayUp net v rs → qs ≡ rs
up-only (arrived m) (arrived n) = refl
up-only (arrived m) (upward n w) = absurd (n m)
up-only (upward n w) (arrived m) = absurd (n m)
up-only {net} {v} (upward n w) (upward k u) = ap (λ (l : List Place). parent_of net v ∷ l) (up-only w u)

module _ {net : Net} (a : Allowed net) where
  abbrev at : ℕ → Place
  at = vertex_at (vertices_of net)

  -- The path of a kept bridge, by numbers

  module _ (j : ℕ) (m : j ∈ kept a) where
    below : j < (G a).count
    below = kept-below a j m

    by_number : numbers.Stands (setting a) (whole a) j
    by_number = numbers.stands (setting a) (whole a) j below (of-kept (G a) (T a) (P a) j m).1

    -- any path that the bridge stands for has its points
    points-same : (l : ℕ) (s : Stands net (edge_at (spanning net) j) l) → s.path.points ≡ map at by_number.path.points
    points-same l s =
        s.points-are
        ∙ ap₂ (λ (u v : List Place). turned (edge_at (spanning net) j).0 u ((edge_at (spanning net) j).1 ∷ v))
        (up-only s.first-up (subst (λ (u : Place). WayUp net u (way_places a (one (G a) j))) (one-vertex a j below)
        (way_up a _ ((setting a).one_in j below))))
        (up-only s.second-up (subst (λ (u : Place). WayUp net u (way_places a (two (G a) j))) (two-vertex a j below)
        (way_up a _ ((setting a).two_in j below))))
        ∙ sym (ap (map at) by_number.points-are
        ∙ turned-carried at (one (G a) j) _ _
        ∙ ap₂ (λ (u v : Place). turned u (way_places a (one (G a) j)) (v ∷ way_places a (two (G a) j))) (one-vertex a j below)
        (two-vertex a j below))

    start-same : (l : ℕ) (s : Stands net (edge_at (spanning net) j) l) → s.path.start ≡ at by_number.path.start
    unfolding roots_of
    start-same l s = s.start_is ∙ (given-follows a j below).0 ∙ ap at (sym by_number.start_is)

    -- an edge of the path is a step, and a step is an edge of the path
    abbrev Steps : Place → Place → Type 0
    Steps x y = On x y (at by_number.path.start) (map at by_number.path.points)

    edge-step : (k : ℕ) → k ∈ walk (setting a) (whole a) j → Steps (at (one (G a) k)) (at (two (G a) k))
    edge-step k i = on-carried at (one (G a) k) (two (G a) k) by_number.path.start by_number.path.points (by_number.each k i)

    step-edge : (x y : Place) → Steps x y → (k : ℕ) × ((k ∈ walk (setting a) (whole a) j) × Alike x y (at (one (G a) k)) (at (two (G a) k)))
    unfolding ends
    step-edge x y o =
        let r = on-back at x y by_number.path.start by_number.path.points o in
        from r.0 r.1.0 r.1.1.1 (on-link by_number.along r.0 r.1.0 r.1.1.0)
      where
        from : (p q : ℕ) → Alike x y (at p) (at q) → Link (map (ends (G a)) (walk (setting a) (whole a) j)) p q →
            (k : ℕ) × ((k ∈ walk (setting a) (whole a) j) × Alike x y (at (one (G a) k)) (at (two (G a) k)))
        from p q e (inl i) =
            let s = of_map (ends (G a)) (walk (setting a) (whole a) j) i in
            (s.entry, (s.stands, alike-trans e (inl (ap at (firsts s.is), ap at (seconds s.is)))))
        from p q e (inr i) =
            let s = of_map (ends (G a)) (walk (setting a) (whole a) j) i in
            (s.entry, (s.stands, alike-trans e (inr (ap at (seconds s.is), ap at (firsts s.is)))))

    on-path : (x y : Place) (l : ℕ) (s : Stands net (edge_at (spanning net) j) l) → On x y s.path.start s.path.points ↔ Steps x y
    on-path x y l s = (
      λ o. subst (λ (z : Place). On x y z (map at by_number.path.points)) (start-same l s)
          (subst (λ (qs : List Place). On x y s.path.start qs) (points-same l s) o),
      λ o. subst (λ (qs : List Place). On x y s.path.start qs) (sym (points-same l s))
          (subst (λ (z : Place). On x y z (map at by_number.path.points)) (sym (start-same l s)) o),
    )

    on-given : (x y : Place) (k : KeptPath) → k ≡ given a j → (s : Stands net k.0 k.1) → On x y s.path.start s.path.points
        ↔ Steps x y
    on-given x y k q =
        subst (λ (z : KeptPath). (s : Stands net z.0 z.1) → On x y s.path.start s.path.points ↔ Steps x y) (sym q)
        (on-path x y (weight a j))

    walk-in : (k : ℕ) → k ∈ walk (setting a) (whole a) j → k ∈ union_list a
    unfolding tree_of terminal path_edges
    walk-in k i =
        either (λ h. one_in (setting a) (whole a) j m k h)
        (λ h. either (λ q. Memᴰ.cast q (bridge_in (setting a) (whole a) j m)) (λ r. two_in (setting a) (whole a) j m k r)
        (Memᴰ.cases_cons h))
        (Memᴰ.append_cases (home (setting a) (whole a) (one (G a) j)) i)

  pub of-start : (k : ℕ) → k ∈ union_list a → OnKept (setting a) (whole a) k
  unfolding tree_of terminal
  of-start k m = of-union (setting a) (whole a) k m

  up : (e : Edge) → e ∈ edges_in (union_of net) → before e.0 e.1 ≡ true
  up = ours.upward (union_of net) (union-sound a) (union-ranked a)

  -- the steps of a kept path are those of its bridge's, by numbers
  on-kept : (k : Path) → k ∈ our_paths a → (j : ℕ) (m : j ∈ kept a) → given_for net k ≡ given a j → (x y : Place) →
      On x y k.start k.points ↔ Steps j m x y
  on-kept k i j m e x y =
      let o = kept-origin a k i in
      let g : given_for net k ≡ o.given = ap (given_for net) o.is ∙ ap (λ (n : ℕ). (o.given.0, n)) o.stands.length-is in
      subst (λ (c : Path). On x y c.start c.points ↔ Steps j m x y) (sym o.is)
      (on-given j m x y o.given (sym g ∙ e) o.stands)

  on_some : (e : Edge) → e ∈ edges_in (union_of net) → OnSome (our_paths a) e
  on_some e i =
      let r = union-edge a e i in
      let k = r.0 in
      let o = of-start k r.1.0 in
      let j = o.bridge in
      let c = of_map (given_for net) (our_paths a) (subst (λ (l : List KeptPath). given a j ∈ l) (sym (paths-given a))
      (given-in a j o.kept)) in
      let f : On (edge_at (spanning net) k).0 (edge_at (spanning net) k).1 c.entry.start c.entry.points
      = (on-kept c.entry c.stands j o.kept (sym c.is) _ _).1
      (subst (λ (x : Place). Steps j o.kept x (edge_at (spanning net) k).1) (one-vertex a k o.inside)
      (subst (λ (x : Place). Steps j o.kept (at (one (G a) k)) x) (two-vertex a k o.inside) (edge-step j o.kept k o.on))) in
      record {
        smaller = up e i;
        path = c.entry;
        among = c.stands;
        on = subst (λ (z : Edge). On z.0 z.1 c.entry.start c.entry.points) (sym r.1.1) f;
      }

  of_some : (e : Edge) → OnSome (our_paths a) e → e ∈ edges_in (union_of net)
  of_some e o =
      let g = of-given a (given_for net o.path) (subst (λ (l : List KeptPath). given_for net o.path ∈ l) (paths-given a)
      (in_map (given_for net) o.among)) in
      let k = step-edge g.entry g.stands e.0 e.1 ((on-kept o.path o.among g.entry g.stands g.is e.0 e.1).0
      o.on) in
      placed k.0 (walk-in g.entry g.stands k.0 k.1.0) k.1.1
    where
      turn : (k : ℕ) → k ∈ union_list a → Alike e.0 e.1 (edge_at (spanning net) k).0 (edge_at (spanning net) k).1 →
          e ∈ edges_in (union_of net)
      turn k i (inl q) = Memᴰ.cast (ap₂ (λ (x y : Place). (x, y)) q.0 q.1) (union-has a k i)
      turn k i (inr q) =
          differ (ap₂ before (sym q.0) (sym q.1) ∙ o.smaller)
          (not_after place-order _ _ (up (edge_at (spanning net) k) (union-has a k i)))

      placed : (k : ℕ) → k ∈ union_list a → Alike e.0 e.1 (at (one (G a) k)) (at (two (G a) k)) → e ∈ edges_in (union_of net)
      placed k i q =
          let h = (of-start k i).inside in
          turn k i (alike-trans q (inl (one-vertex a k h, two-vertex a k h)))

  -- R1: an edge is in the union exactly when it is on one of the kept paths
  pub start-ours : Union (our_paths a) (edges_in (union_of net))
  start-ours e = (on_some e, of_some e)

-- two unions of the same paths have the same edges
pub start-only : (ks : List Path) (T U : List Edge) → Union ks T → Union ks U → Same T U
start-only ks T U h k = (λ e i. (k e).1 ((h e).0 i), λ e i. (h e).1 ((k e).0 i))
