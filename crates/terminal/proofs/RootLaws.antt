-- Roots, parents and ways of an allowed net, over places: proved over vertex numbers (forest/proofs/Nearest.antt, Homeward.antt) and
-- carried over. The order of numbers is the order of places, so what is smallest by number is the smallest place.
-- Assumes nothing.
use mathlib.Core.Path.{◌≡◌, refl, sym, ap, ◌∙◌, subst}
use mathlib.Core.Bool.{false}
use mathlib.Core.List.Memᴰ
use mathlib.Core.List.{List, ◌∷◌, map}
use Prim.Native.Nat.{ℕ, ◌≤◌, ◌<◌}
use native.Mathlib.Omega.{arith}
use borrow.Author.Tests.{le-ltb}
use lib.ListN.{length}
use Rattle.lists.specs.Member.{◌∈◌, Once}
use Rattle.lists.proofs.MapLaws.{map-once}
use Rattle.joined.specs.Joined.{Link}
use Rattle.joined.specs.Way.{long}
use Rattle.joined.proofs.WayLaws.{way-cast}
use Rattle.joined.proofs.CarriedLaws.{link-carried, link-in as linked, same_point, way_in}
use Rattle.plane.specs.declared.Place.{Place}
use Rattle.plane.specs.Place.{before}
use Rattle.net.specs.Allowed.{Allowed}
use Rattle.net.specs.Net.{Net, cost_in}
use Rattle.graph.specs.Spanning.{vertices_of, spanning}
use Rattle.graph.proofs.VertexLaws.{vertices-ascending}
use Rattle.keeping.specs.Kept.{terminal}
use Rattle.forest.specs.Labels.{far, root}
use Rattle.forest.specs.Parents.{up}
use Rattle.forest.proofs.Nearest.{link-in, NearestSource, nearest-source}
use Rattle.forest.proofs.Homeward.{Through as Onto, parent-through, Upward, arrived as there, onto, parent_is}
use Rattle.forest.proofs.Homeward.{way_points, way-upward, way-runs, way-once, way_home as way-home-by-number}
use Rattle.terminal.specs.Number.{number_of, vertex_at}
use Rattle.terminal.specs.Tree.{tree_of, root_of}
use Rattle.terminal.specs.Roots.{far_of, parent_of, NearestRoot, Through, SmallestParent, WayUp, arrived, upward, HomeWay}
use Rattle.terminal.proofs.NumberLaws.{vertex-in, number_small, vertex-of-number, number-of-vertex, number-order}
use Rattle.terminal.proofs.SettingOf.{setting, whole}
use Rattle.terminal.proofs.CrossingLaws.{pins, T, P, to-places, to-numbers, way-places, way-numbers, long-places, long-numbers}
use Rattle.terminal.proofs.CrossingLaws.{between_is}
use Rattle.terminal.proofs.CrossingLaws.{root-by-number, root_below, root-number}

-- a vertex has one way up
pub way-up-only : {net : Net} {v : Place} {qs rs : List Place} → WayUp net v qs → WayUp net v rs → qs ≡ rs
way-up-only (arrived m) (arrived n) = refl
way-up-only (arrived m) (upward n w) = absurd (n m)
way-up-only (upward m u) (arrived n) = absurd (m n)
way-up-only {net} (upward {v = v} m u) (upward n w) = ap (λ (l : List Place). parent_of net v ∷ l) (way-up-only u w)

module _ {net : Net} (a : Allowed net) where
  abbrev vs : List Place
  vs = vertices_of net

  far-by-number : (v : Place) → far_of net v ≡ far (T a) (number_of vs v)
  unfolding far_of tree_of terminal
  far-by-number v = refl

  parent-by-number : (v : Place) → parent_of net v ≡ vertex_at vs (up (P a) (number_of vs v))
  unfolding parent_of tree_of terminal
  parent-by-number v = refl

  number_in : (v : Place) → v ∈ vs → number_of vs v < length vs
  number_in v i = number_small vs (vertices-ascending net) v i

  again : (v : Place) → v ∈ vs → vertex_at vs (number_of vs v) ≡ v
  again v i = vertex-of-number vs (vertices-ascending net) v i

  -- the vertex of a number that is not above that of w does not come after w
  not-before : (w : Place) (i : ℕ) → w ∈ vs → i < length vs → i ≤ number_of vs w → before w (vertex_at vs i) ≡ false
  not-before w i m h l =
      number-order vs (vertices-ascending net) w (vertex_at vs i) m (vertex-in vs i h)
      ∙ le-ltb (number_of vs w) (number_of vs (vertex_at vs i)) (omega (arith, number-of-vertex vs (vertices-ascending net) i h))

  -- Roots

  module _ (v : Place) (i : v ∈ vs) where
    abbrev number : ℕ
    number = number_of (vertices_of net) v

    near : NearestSource (setting a) number (far (T a) number) (root (T a) number)
    near = nearest-source (setting a) (whole a) number (number_in v i)

    pub nearest-root : NearestRoot net v
    nearest-root = record {
      is-pin = rw (root-by-number a v) ((to-places a).pin _ near.is-reached.source);
      points = map (vertex_at vs) near.is-reached.points;
      walk = rw (root-by-number a v) (way-cast (sym (again v i)) (way-places a near.is-reached.way));
      walk-long =
          ap (λ (u : Place). long (cost_in net) u (map (vertex_at vs) near.is-reached.points)) (sym (again v i))
          ∙ sym (long-places a near.is-reached.way) ∙ near.is-reached.long-is ∙ sym (far-by-number v);
      nearest = λ p qs m w.
          omega (arith, near.nearest _ _ ((to-numbers a).pin p m) (way-numbers a w), long-numbers a w, far-by-number v);
      smallest = λ p qs m w e.
          rw (root-by-number a v)
          (not-before p _ ((to-numbers a).pin-in p m) (root_below a number (number_in v i))
          (near.smallest _ _ ((to-numbers a).pin p m) (way-numbers a w) (sym (long-numbers a w) ∙ e ∙ far-by-number v)));
    }

  -- Parents

  -- the root of a vertex by its number
  root-at : (j : ℕ) → j < length vs → root_of net (vertex_at vs j) ≡ vertex_at vs (root (T a) j)
  root-at j h =
      root-by-number a _ ∙ ap (λ (k : ℕ). vertex_at vs (root (T a) k)) (number-of-vertex vs (vertices-ascending net) j h)

  through-places : (v : Place) → v ∈ vs → (j : ℕ) → Onto (setting a) (whole a) (number_of vs v) j → Through net v (vertex_at vs j)
  through-places v i j t = record {
    link = subst (λ (u : Place). Link (spanning net) u (vertex_at vs j)) (again v i)
        (link-carried (vertex_at vs) (to-places a).pair t.link);
    same-root = root-at j h ∙ ap (vertex_at vs) t.same-root ∙ sym (root-by-number a v);
    points = map (vertex_at vs) t.points;
    way = rw (root-by-number a v) (way-places a t.way);
    shortest =
        omega (
          arith,
          t.shortest,
          long-places a t.way,
          far-by-number v,
          ap (λ (u : Place). cost_in net u (vertex_at vs j)) (again v i),
        );
  }
    where
      h : j < length vs
      h = (link-in (setting a) _ _ t.link).far-in

  through-numbers : (v w : Place) → Through net v w → Onto (setting a) (whole a) (number_of vs v) (number_of vs w)
  through-numbers v w t = record {
    link = link-carried (number_of vs) (to-numbers a).pair t.link;
    same-root =
        sym (root-number a _ (number_in w m.1))
        ∙ ap (number_of vs) (sym (root-by-number a w) ∙ t.same-root ∙ root-by-number a v)
        ∙ root-number a _ (number_in v m.0);
    points = map (number_of vs) t.points;
    way = rw (sym (root-number a _ (number_in v m.0))) (rw (sym (root-by-number a v)) (way-numbers a t.way));
    shortest = omega (arith, t.shortest, long-numbers a t.way, far-by-number v, between_is a v w m.0 m.1);
  }
    where
      m : (v ∈ vs) × (w ∈ vs)
      m = linked (to-numbers a) t.link

  no-pin : (v : Place) → v ∈ vs → (v ∈ net.pins → ⊥) → number_of vs v ∈ pins a → ⊥
  no-pin v i n m = n (Memᴰ.cast (sym (again v i)) ((to-numbers a).pin-back _ m))

  pub smallest-parent : (v : Place) → v ∈ vs → (v ∈ net.pins → ⊥) → SmallestParent net v
  smallest-parent v i n =
      let r = parent-through (setting a) (whole a) (number_of vs v) (number_in v i) (no-pin v i n) in
      let h = (link-in (setting a) _ _ r.0.link).far-in in
      record {
        through = rw (parent-by-number v) (through-places v i _ r.0);
        smallest = λ w t.
            rw (parent-by-number v)
            (not-before w _ (linked (to-numbers a) t.link).1 h (r.1 _ (through-numbers v w t)));
      }

  -- Ways

  up-places : (i : ℕ) → i < length vs → {qs : List ℕ} → Upward (setting a) (whole a) i qs →
      WayUp net (vertex_at vs i) (map (vertex_at vs) qs)
  up-places i h (there m) = arrived ((to-places a).pin i m)
  up-places i h (onto {ps = qs} n u) =
      let p = parent_is (setting a) (whole a) i h n in
      let e = number-of-vertex vs (vertices-ascending net) i h in
      let above = parent-by-number (vertex_at vs i) ∙ ap (λ (k : ℕ). vertex_at vs (up (P a) k)) e in
      subst (λ (u : Place). WayUp net (vertex_at vs i) (u ∷ map (vertex_at vs) qs)) above
      (upward (λ m. n (Memᴰ.cast (sym e) ((to-numbers a).pin _ m)))
      (subst (λ (u : Place). WayUp net u (map (vertex_at vs) qs)) (sym above) (up-places _ p.inside u)))

  -- the places after a vertex on its way to its root
  abbrev pub way_places : ℕ → List Place
  way_places i = map (vertex_at (vertices_of net)) (way_points (setting a) (whole a) i)

  pub way_up : (i : ℕ) → i < length (vertices_of net) → WayUp net (vertex_at (vertices_of net) i) (way_places i)
  way_up i h = up-places i h (way-upward (setting a) (whole a) i h)

  -- T8: a way goes from parent to parent and ends at the root
  pub way_home : (v : Place) → v ∈ vertices_of net → HomeWay net v
  way_home v i = record {
    points = way_places (number_of vs v);
    up = subst (λ (u : Place). WayUp net u (way_places (number_of vs v))) (again v i) (way_up (number_of vs v) (number_in v i));
    way = rw (root-by-number a v) (way-cast (sym (again v i))
        (way-places a (way-runs (setting a) (whole a) (number_of vs v) (number_in v i))));
    once =
        subst (λ (u : Place). Once (u ∷ way_places (number_of vs v))) (again v i)
        (map-once (vertex_at vs) (number_of vs v ∷ way_points (setting a) (whole a) (number_of vs v))
        (λ j k m n. same_point (to-places a) j k (inside j m) (inside k n))
        (way-once (setting a) (whole a) (number_of vs v) (number_in v i)));
    long-is =
        ap (λ (u : Place). long (cost_in net) u (way_places (number_of vs v))) (sym (again v i))
        ∙ sym (long-places a (way-runs (setting a) (whole a) (number_of vs v) (number_in v i)))
        ∙ (way-home-by-number (setting a) (whole a) (number_of vs v) (number_in v i)).length-is ∙ sym (far-by-number v);
  }
    where
      inside : (j : ℕ) → j ∈ (number_of vs v ∷ way_points (setting a) (whole a) (number_of vs v)) → j < length vs
      inside j m = way_in (to-places a) (number_in v i) (way-runs (setting a) (whole a) (number_of vs v) (number_in v i)) j m
