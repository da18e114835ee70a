-- The mission's demand on the terminal tree, over places: it is proved over vertex numbers (keeping/proofs/OurTree.antt) and carried over,
-- our paths and our way from numbers to places, the joinings and chains that they are compared with from places to numbers.
-- Assumes nothing.
use mathlib.Core.Path.{◌≡◌, refl, sym, ap, ap₂, ◌∙◌, subst}
use mathlib.Core.Bool.{false}
use mathlib.Core.List.{List, ◌∷◌, map}
use Prim.Native.Nat.{ℕ, suc, ◌≤◌, ◌<◌}
use native.Mathlib.Omega.{arith}
use lib.ListN.{length, length-map}
use Rattle.lists.specs.Member.{◌∈◌}
use Rattle.lists.specs.Total.{total, most}
use Rattle.lists.proofs.MapLaws.{in_map, map-then}
use Rattle.joined.specs.Way.{turned}
use Rattle.joined.specs.Path.{TerminalPath, ends_of, length_of}
use Rattle.joined.specs.Chain.{Chain, Joining, OurWay}
use Rattle.joined.proofs.CarriedLaws.{turned-carried, same_point, path-carried, start-carried, finish-carried, points-carried, step-carried}
use Rattle.joined.proofs.CarriedLaws.{Follows, chain-carried, joining-carried, our-way-carried, chain-ends}
use Rattle.plane.specs.declared.Place.{Place}
use Rattle.net.specs.Allowed.{Allowed}
use Rattle.net.specs.Net.{Net, cost_in}
use Rattle.graph.specs.Spanning.{vertices_of, spanning}
use Rattle.forest.specs.Edges.{one, two}
use Rattle.bridges.specs.Bridges.{same_root, roots_of as roots_by}
use Rattle.keeping.specs.Kept.{terminal, kept_lengths}
use Rattle.forest.specs.Setting.{pairs}
use Rattle.keeping.proofs.OurTree.{stands, kept-joining, none-shorter, none-lower}
use Rattle.terminal.specs.Number.{number_of, vertex_at, edge_at}
use Rattle.terminal.specs.Tree.{tree_of, bridges_of, lengths_of, paths_of, total_of, roots_of}
use Rattle.terminal.specs.Roots.{WayUp}
use Rattle.terminal.specs.Stands.{KeptPath, PathOf, kept_ends, Stands}
use Rattle.terminal.proofs.SettingOf.{between-numbers, edge_in, one-vertex, two-vertex, setting, whole, paths-count}
use Rattle.terminal.proofs.CrossingLaws.{G, pins, T, to-places, to-numbers, length-by-places, length-by-numbers}
use Rattle.terminal.proofs.CrossingLaws.{kept, weight, given, bridge_number, kept-below, given-in, given-follows}
use Rattle.terminal.proofs.CrossingLaws.{number_in, given-number, number-follows}
use Rattle.terminal.proofs.RootLaws.{way_places, way_up}

module _ {net : Net} (a : Allowed net) where
  -- What is given for a kept path

  pub paths-length : suc (length (paths_of net)) ≡ length net.pins
  unfolding paths_of
  paths-length = ap suc (length-map (tree_of net).bridges _) ∙ paths-count a

  pub paths-bridges : map (λ k. k.0) (paths_of net) ≡ bridges_of net
  unfolding tree_of terminal paths_of bridges_of
  paths-bridges = map-then (given a) (λ (k : KeptPath). k.0) (edge_at (spanning net)) (kept a) (λ k m. refl)

  pub paths-lengths : map (λ k. k.1) (paths_of net) ≡ lengths_of net
  unfolding tree_of terminal kept_lengths paths_of
  paths-lengths = map-then (given a) (λ (k : KeptPath). k.1) (weight a) (kept a) (λ k m. refl)

  pub paths-sum : total_of net ≡ total (map (λ k. k.1) (paths_of net))
  unfolding tree_of terminal
  paths-sum = ap total (sym paths-lengths)

  -- the path that a bridge stands for
  pub bridge-stands : (k : ℕ) → k < (G a).count → same_root (G a) (T a) k ≡ false → Stands net (edge_at (spanning net) k) (weight a k)
  unfolding roots_of
  bridge-stands k h e =
      let s = stands (setting a) (whole a) k h e in
      let f = given-follows a k h in
      record {
        path = path-carried (to-places a) s.path;
        start_is = start-carried (to-places a) s.path ∙ ap (vertex_at (vertices_of net)) s.start_is ∙ sym f.0;
        finish-is = finish-carried (to-places a) s.path ∙ ap (vertex_at (vertices_of net)) s.finish-is ∙ sym f.1;
        is-edge = edge_in a k h;
        first_way = way_places a (one (G a) k);
        first-up = subst (λ (u : Place). WayUp net u (way_places a (one (G a) k))) (one-vertex a k h) (way_up a _ ((setting a).one_in k h));
        second_way = way_places a (two (G a) k);
        second-up = subst (λ (u : Place). WayUp net u (way_places a (two (G a) k))) (two-vertex a k h)
            (way_up a _ ((setting a).two_in k h));
        points-are =
            points-carried (to-places a) s.path ∙ ap (map (vertex_at (vertices_of net))) s.points-are
            ∙ turned-carried (vertex_at (vertices_of net)) (one (G a) k) _ _
            ∙ ap₂ (λ (u v : Place). turned u (way_places a (one (G a) k)) (v ∷ way_places a (two (G a) k))) (one-vertex a k h)
            (two-vertex a k h);
        over-bridge = rw (sym (one-vertex a k h), sym (two-vertex a k h)) (step-carried (to-places a) s.path _ _ s.over-bridge);
        length-is = sym (length-by-places a s.path) ∙ s.length-is;
      }

  -- Our joining

  kept-follows : (k : ℕ) → k ∈ kept a → Follows (vertex_at (vertices_of net)) (given a) (roots_by (G a) (T a)) (kept_ends net) k
  kept-follows k m = given-follows a k (kept-below a k m)

  pub paths-joining : Joining (kept_ends net) net.pins (paths_of net)
  paths-joining =
      joining-carried (vertex_at (vertices_of net)) (given a) (roots_by (G a) (T a)) (kept_ends net) (given-in a) kept-follows
      (number_of (vertices_of net)) (to-places a).pin-back (λ q m. (to-numbers a).undone q ((to-numbers a).pin-in q m))
      (kept-joining (setting a) (whole a))

  -- Paths that they are compared with

  abbrev back : PathOf net → TerminalPath (pairs (G a)) (pins a)
  back = path-carried (to-numbers a)

  back_follows : (t : PathOf net) → Follows (number_of (vertices_of net)) back ends_of ends_of t
  back_follows t = (start-carried (to-numbers a) t, finish-carried (to-numbers a) t)

  back-lengths : (J : List (PathOf net)) → map (length_of (between-numbers a)) (map back J) ≡ map (length_of (cost_in net)) J
  back-lengths J = map-then back (length_of (between-numbers a)) (length_of (cost_in net)) J (λ t m. sym (length-by-numbers a t))

  pub no-shorter-joining : (J : List (PathOf net)) → Joining ends_of net.pins J → total_of net ≤ total (map (length_of (cost_in net)) J)
  unfolding tree_of
  no-shorter-joining J h =
      let j =
      joining-carried (number_of (vertices_of net)) back ends_of ends_of (λ t m. in_map back m) (λ t m. back_follows t)
      (vertex_at (vertices_of net)) (to-numbers a).pin-back (λ q m. (to-places a).undone q ((to-places a).pin-in q m)) h
      in
      omega (arith, none-shorter (setting a) (whole a) (map back J) j, ap total (back-lengths J))

  -- Our way

  number-apart : (x y : Place) → x ∈ net.pins → y ∈ net.pins → (x ≡ y → ⊥) → number_of (vertices_of net) x ≡ number_of (vertices_of net) y → ⊥
  number-apart x y i k n e = n (same_point (to-numbers a) x y ((to-numbers a).pin-in x i) ((to-numbers a).pin-in y k) e)

  way_back : {x y : Place} {w : List KeptPath} → OurWay (kept_ends net) (paths_of net) x y w →
      OurWay (roots_by (G a) (T a)) (kept a) (number_of (vertices_of net) x) (number_of (vertices_of net) y) (map (bridge_number a) w)
  way_back o =
      our-way-carried (number_of (vertices_of net)) (bridge_number a) (kept_ends net) (roots_by (G a) (T a)) (number_in a) (number-follows a)
      (λ b c m n e. sym (given-number a b m) ∙ ap (given a) e ∙ given-number a c n) o

  pub no-lower-chain : {x y : Place} → (x ≡ y → ⊥) → {w : List KeptPath} → OurWay (kept_ends net) (paths_of net) x y w →
      {cs : List (PathOf net)} → Chain ends_of x cs y → most (map (λ k. k.1) w) ≤ most (map (length_of (cost_in net)) cs)
  no-lower-chain {x} {y} n {w} o {cs} c =
      let e = chain-ends ends_of c (λ t m. (t.start-pin, t.finish-pin)) in
      let r =
      none-lower (setting a) (whole a) (number-apart x y e.0 e.1 n) (way_back o)
      (chain-carried (number_of (vertices_of net)) back ends_of ends_of c (λ t m. back_follows t))
      in
      let weights : map (weight a) (map (bridge_number a) w) ≡ map (λ k. k.1) w =
      map-then (bridge_number a) (weight a) (λ (k : KeptPath). k.1) w (λ b m. ap (λ (k : KeptPath). k.1) (given-number a b (o.among b m)))
      in
      omega (arith, r, ap most weights, ap most (back-lengths cs))
