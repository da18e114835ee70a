-- R23 to R25: a candidate beside the tree by its numbers is one by its places, with the same L and the same gain, and the other way round.
-- Assumes nothing.
use mathlib.Core.Path.{◌≡◌, refl, sym, ap, ap₂, ◌∙◌, subst}
use mathlib.Core.Bool.{true, false}
use mathlib.Core.Logic.{◌⊎◌, inl, inr}
use mathlib.Core.List.{List, [], ◌∷◌, map}
use Prim.Native.Nat.{ℕ, ◌+◌, ◌≤◌, ◌<◌}
use native.Mathlib.Omega.{arith}
use lib.IntN.{ℤ}
use lib.ListN.{get_or}
use Rattle.lists.specs.Member.{◌∈◌, here, there}
use Rattle.lists.proofs.TestLaws.{by, differ, either}
use Rattle.lists.proofs.MapLaws.{in_map, of_map}
use Rattle.plane.specs.declared.Place.{Place}
use Rattle.plane.specs.Place.{same_place}
use Rattle.plane.specs.Middle.{middle_place}
use Rattle.plane.specs.Flat.{place_at}
use Rattle.plane.proofs.PlaceLaws.{same_true}
use Rattle.net.specs.Net.{Net, cost_in}
use Rattle.joined.specs.Way.{long}
use Rattle.joined.specs.OneTree.{Point}
use Rattle.forest.specs.Labels.{far, root}
use Rattle.forest.specs.Parents.{way_after}
use Rattle.tree.specs.Table.{tree_bound, first_end, second_end, Tree}
use Rattle.tree.specs.Places.{points_of, edges_of, Ranked, Sound}
use Rattle.tree.proofs.ListingLaws.{in-listing}
use Rattle.longest.specs.Longest.{costs, longest}
use Rattle.beside.specs.Beside.{Ground, on_way, labels_in, parents_in, seats_in}
use Rattle.refiner.specs.Ready.{vertex_at}
use Rattle.refiner.specs.Sentences as tables
use Rattle.refiner.proofs.CutSound.{cut-at, cut-one, cut-another, tree-size}
use Rattle.bounds.proofs.CostLaws.{cost-at}
use Rattle.bounds.proofs.DroppedLaws.{not-dropped, dropped-not}
use Rattle.refiner.proofs.TakesLaws.{sees-one, one-sees}
use Rattle.refiner.proofs.GraftTaken.{way-off}
use Rattle.refiner.proofs.WayBeside.{way_of, off-far, seated, way_long}
use Rattle.refiner.proofs.BesideWins.{WinnerOff}
use Rattle.rules.specs.Edges.{Edge, edge_cost}
use Rattle.rules.specs.Refined.{Beside, Reach, Cut, Gain}
use Rattle.rules.proofs.BesideOnly.{beside-only}
use Rattle.rules.proofs.ReachOurs.{Charts, beside-ours, charts-lawful}
use Rattle.rules.proofs.GainOurs.{edges_in, point_at, edge_at, edge_in, edge-of, point-one, point-of, point-listed, listed-point}
use Rattle.rules.proofs.GainOurs.{longest-to}
use Rattle.rules.proofs.GainOurs.{longest-from, point-some}

-- a place that is none of a way's
off-way : (vs : List ℤ) (s : Place) (ys : List ℕ) → ((y : ℕ) → y ∈ ys → s ≡ place_at vs y → ⊥) → on_way vs s ys ≡ false
unfolding on_way
off-way vs s [] f = refl
off-way vs s (y ∷ ys) f =
    by (same_place s (place_at vs y)) (λ q. absurd (f y (here refl) (same_true _ _ q)))
    (λ q. rw q (off-way vs s ys (λ z m. f z (there m))))

module _ {net : Net} {G : List Edge} {g : Ground} (charts : Charts net G g) (t : Tree) (sound : Sound net t)
    (ranked : Ranked t.edges.keys t.edges.size) (few : t.count ≤ tree_bound) where
  abbrev T : List Edge
  T = edges_in t

  abbrev el : List ℕ
  el = costs net.weights t.points t.edges.keys t.edges.size

  abbrev top : List ℕ
  top = longest t.edges.keys el t.edges.size t.count

  abbrev pub Off : ℕ → ℕ → ℕ → ℕ → Type 0
  Off gain k u l =
      WinnerOff net.weights net.macros t.points t.count t.edges.keys t.edges.size
      (costs net.weights t.points t.edges.keys t.edges.size)
      (longest t.edges.keys (costs net.weights t.points t.edges.keys t.edges.size) t.edges.size t.count)
      g.places g.count (labels_in g t).fars (parents_in g t).ups (seats_in g t) gain k u l

  abbrev pub at : ℕ → Place
  at u = vertex_at g u

  abbrev pub joint : ℕ → Place
  joint u = vertex_at g (root (labels_in g t) u)

  abbrev pub laid : ℕ → List Place
  laid u = map (vertex_at g) (way_after (labels_in g t).fars (parents_in g t).ups u)

  seat-at : (u : ℕ) → u < g.count → (get_or (seats_in g t) u 0 < t.count) × (point_at t (get_or (seats_in g t) u 0) ≡ joint u)
  seat-at u h = seated net g t charts.grounded sound u h

  way-cost : (u : ℕ) → u < g.count → long (cost_in net) (at u) (laid u) ≡ far (labels_in g t) u
  way-cost u h = way_long net g t charts.grounded sound u h

  pub beside_at : (k u : ℕ) → k < t.edges.size → u < g.count → (far (labels_in g t) u ≡ 0 → ⊥) →
      Beside net G T (at u) (joint u) (laid u)
  beside_at k u hk h off = beside-ours charts t sound (point-listed t sound ranked) (listed-point t sound ranked k hk) u h off

  cost-of : (l : ℕ) → l < t.edges.size → get_or el l 0 ≡ edge_cost net (edge_at t l)
  cost-of l h = cost-at net.weights t.points t.edges.keys t.edges.size l (omega (arith, tree-size net t sound)) h

  cut-ours : (gain k u l : ℕ) → Off gain k u l → tables.CutAt net t k (get_or (seats_in g t) u 0) l
  cut-ours gain k u l w =
      subst (λ (m : ℕ). tables.CutAt net t k (get_or (seats_in g t) u 0) m) (sym w.cut)
      (cut-at net t sound few k (get_or (seats_in g t) u 0) w.edge (seat-at u w.vertex).0 (either w.not_first w.not_second))

  -- from numbers to places
  pub off-to : (gain k u l : ℕ) → 0 < gain → Off gain k u l →
      Gain net G T true (tables.end_a t k) (tables.end_b t k) (at u) (joint u) (laid u) (edge_at t l) gain
  off-to gain k u l above w =
      let seat = seat-at u w.vertex in
      let c = cut-ours gain k u l w in
      record {
        candidate = record {
          edge = edge_in t k w.edge;
          reach = inr (refl, beside_at k u w.edge w.vertex w.off);
          not_first = λ q. w.not_first (point-one t sound ranked _ _ seat.0 (sound.within.ends k).0 (seat.1 ∙ q));
          not_second = λ q. w.not_second (point-one t sound ranked _ _ seat.0 (sound.within.ends k).1 (seat.1 ∙ q));
          seen = sees-one net.macros (tables.end_a t k) (tables.end_b t k) (at u) w.seen;
          kept =
              λ v p na nb nu q.
              let r = point-of t sound ranked v p in
              let no-a : r.0 ≡ first_end (tables.key_at t k) → ⊥ = λ e. na (r.1.1 ∙ ap (point_at t) e) in
              let no-b : r.0 ≡ second_end (tables.key_at t k) → ⊥ = λ e. nb (r.1.1 ∙ ap (point_at t) e) in
              dropped-not t.points t.count (first_end (tables.key_at t k)) (second_end (tables.key_at t k))
              (first_end (tables.key_at t k)) _ w.kept r.0 r.1.0 ((no-a, (no-b, no-a)), q ∙ r.1.1);
          away =
              λ v m q.
              let r = of_map (vertex_at g) (way_after (labels_in g t).fars (parents_in g t).ups u) m in
              way-off g.places _ _ w.away r.entry r.stands (q ∙ r.is);
        };
        cut =
            subst (λ (z : Place). Cut net T (tables.end_a t k) (tables.end_b t k) z (edge_at t l)) seat.1
            (record { way = c.way; longest = longest-to t sound ranked l c.longest });
        gain = omega (arith, w.gained, cost-of l c.longest.step.edge, way-cost u w.vertex);
        above = above;
      }

  -- from places to numbers
  pub record ByVertex (a b u v : Place) (qs : List Place) (e : Edge) (gain : ℕ) : Type 0 where
    pub k : ℕ
    pub i : ℕ
    pub l : ℕ
    pub edge : ◌≡◌ {A = Edge} (a, b) (edge_at t k)
    pub vertex : u ≡ vertex_at g i
    pub wins : Off gain k i l

  beside-of : {u v : Place} {qs : List Place} → Reach net G T true u v qs → Beside net G T u v qs
  beside-of (inl h) = differ refl h.0
  beside-of (inr h) = h.1

  from_places : (gain k i l : ℕ) → k < t.edges.size → i < g.count → l < t.edges.size → (far (labels_in g t) i ≡ 0 → ⊥) →
      Gain net G T true (tables.end_a t k) (tables.end_b t k) (at i) (joint i) (laid i) (edge_at t l) gain → Off gain k i l
  from_places gain k i l hk hi hl off x =
      let c = x.candidate in
      let seat = seat-at i hi in
      let first : get_or (seats_in g t) i 0 ≡ first_end (tables.key_at t k) → ⊥
      = λ q. c.not_first (sym seat.1 ∙ ap (point_at t) q) in
      let second : get_or (seats_in g t) i 0 ≡ second_end (tables.key_at t k) → ⊥
      = λ q. c.not_second (sym seat.1 ∙ ap (point_at t) q) in
      let d = subst (λ (z : Place). Cut net T (tables.end_a t k) (tables.end_b t k) z (edge_at t l)) (sym seat.1) x.cut in
      let cut : tables.CutAt net t k (get_or (seats_in g t) i 0) l
      = record { way = d.way; longest = longest-from t sound ranked l hl d.longest } in
      record {
        edge = hk;
        vertex = hi;
        off = off;
        not_first = first;
        not_second = second;
        two = cut-another net t sound few k (get_or (seats_in g t) i 0) l cut;
        cut =
            cut-one net t sound few k (get_or (seats_in g t) i 0) l (tables.cut_in net t k (get_or (seats_in g t) i 0)) hk cut
            (cut-at net t sound few k (get_or (seats_in g t) i 0) hk seat.0 (either first second));
        seen = one-sees net.macros (tables.end_a t k) (tables.end_b t k) (at i) c.seen;
        kept =
            not-dropped t.points t.count (first_end (tables.key_at t k)) (second_end (tables.key_at t k)) (first_end (tables.key_at t k)) _
            (λ j h o.
            c.kept (point_at t j) (point-some t sound ranked k j hk h)
            (λ z. o.0.0 (point-one t sound ranked j _ h (sound.within.ends k).0 z))
            (λ z. o.0.1.0 (point-one t sound ranked j _ h (sound.within.ends k).1 z))
            (λ z. (beside-of c.reach).off (subst (Point net.pins T) z (point-some t sound ranked k j hk h))) o.1);
        away =
            off-way g.places _ _ (λ y m q. c.away (vertex_at g y) (in_map (vertex_at g) m) q);
        gained = omega (arith, x.gain, cost-of l hl, way-cost i hi);
      }

  pub off_of : (a b u v : Place) (qs : List Place) (e : Edge) (gain : ℕ) → Gain net G T true a b u v qs e gain → ByVertex a b u v qs e gain
  off_of a b u v qs e gain x =
      let r = edge-of t (a, b) x.candidate.edge in
      let q = edge-of t e x.cut.longest.step.edge in
      let b0 = beside-of x.candidate.reach in
      let n = charts.number u b0.vertex in
      let off : far (labels_in g t) n.0 ≡ 0 → ⊥
      = λ z.
      let f = off-far net g t charts.grounded sound n.0 n.1.0
      (λ m. b0.off (subst (Point net.pins T) (sym n.1.1) (listed-point t sound ranked r.0 r.1.0 _ m))) in
      let y : ⊥ = omega (arith, f, z) in y in
      let one = beside-only (charts-lawful charts t sound) (subst (λ (z : Place). Beside net G T z v qs) n.1.1 b0)
      (beside_at r.0 n.0 r.1.0 n.1.0 off) in
      record {
        k = r.0;
        i = n.0;
        l = q.0;
        edge = r.1.1;
        vertex = n.1.1;
        wins =
            from_places gain r.0 n.0 q.0 r.1.0 n.1.0 q.1.0 off
            (subst (λ (z : Edge). Gain net G T true (tables.end_a t r.0) (tables.end_b t r.0) (at n.0) (joint n.0)
            (laid n.0) z gain)
            q.1.1
            (subst (λ (z : List Place). Gain net G T true (tables.end_a t r.0) (tables.end_b t r.0) (at n.0) (joint n.0) z e gain)
            one.1
            (subst (λ (z : Place). Gain net G T true (tables.end_a t r.0) (tables.end_b t r.0) (at n.0) z qs e gain) one.0
            (subst (λ (z : Place). Gain net G T true (tables.end_a t r.0) (tables.end_b t r.0) z v qs e gain) n.1.1
            (subst (λ (z : Edge). Gain net G T true z.0 z.1 u v qs e gain) r.1.1 x)))));
      }
