-- A tree by its tables and the same tree by its places: points and edges by number are the points and edges, in order, so a candidate
-- with its gain is one exactly when the other is.
-- Assumes nothing.
use mathlib.Core.Path.{◌≡◌, refl, sym, ap, ◌∙◌, subst}
use mathlib.Core.Bool.{Bool, true, false}
use mathlib.Core.Logic.{◌⊎◌, inl, inr}
use mathlib.Core.List.Memᴰ
use mathlib.Core.List.{List, []}
use Prim.Native.Nat.{ℕ, ◌+◌, ◌≤◌, ◌<◌}
use native.Mathlib.Omega.{arith}
use lib.Dec.{ltb, eqb}
use lib.ListN.{get_or}
use borrow.Author.Tests.{ltb-true, ltb-false, eqb-true, eqb-false}
use Rattle.lists.specs.Member.{◌∈◌}
use Rattle.lists.specs.Sorted.{Order, first_then}
use Rattle.lists.proofs.TestLaws.{by, differ, either}
use Rattle.plane.specs.declared.Place.{Place}
use Rattle.plane.specs.Place.{before}
use Rattle.plane.specs.Flat.{place_at}
use Rattle.plane.proofs.PlaceOrder.{place-order}
use Rattle.joined.specs.OneTree.{Point}
use Rattle.joined.specs.Way.{long}
use Rattle.joined.proofs.JoinedLaws.{firsts, seconds, has-link}
use Rattle.net.specs.Net.{Net}
use Rattle.tree.specs.Table.{first_end, second_end, Tree}
use Rattle.tree.specs.Places.{ends_of, points_of, edges_of, Ranked, Sound}
use Rattle.refiner.specs.Sentences as tables
use Rattle.tree.proofs.ListingLaws.{in-listing, of-listing}
use Rattle.exchanges.proofs.PruneSound.{order_same}
use Rattle.refiner.proofs.RoundSteps.{numbered}
use Rattle.rules.specs.Edges.{Edge, edge_before, edge_cost}
use Rattle.rules.specs.Refined.{Reach, Step, Longest, Gain}
use Rattle.rules.proofs.EdgeLaws.{edge_order}

-- what comes before does not come after
pub not_after : {A : Type 0} {test : A → A → Bool} → Order test → (a b : A) → test a b ≡ true → test b a ≡ false
not_after {test = test} o a b h = by (test b a) (λ q. differ (o.along a b a h q) (o.never a)) (λ q. q)

edge_by : (x y : Edge) → (before x.0 y.0 ≡ true) ⊎ ((x.0 ≡ y.0) × (before x.1 y.1 ≡ true)) → edge_before x y ≡ true
unfolding first_then
edge_by x y (inl e) = rw (first_then, e) refl
edge_by x y (inr h) =
    let e : before x.0 y.0 ≡ false = rw h.0 (place-order.never y.0) in
    let f : before y.0 x.0 ≡ false = rw h.0 (place-order.never y.0) in
    rw (first_then, e, f) h.1

abbrev pub edges_in : Tree → List Edge
edges_in t = edges_of t.points t.edges.keys t.edges.size

abbrev pub point_at : Tree → ℕ → Place
point_at t i = place_at t.points i

abbrev pub edge_at : Tree → ℕ → Edge
edge_at t k = ends_of t.points (tables.key_at t k)

pub edge_in : (t : Tree) (k : ℕ) → k < t.edges.size → edge_at t k ∈ edges_in t
edge_in t k h = in-listing (λ j. ends_of t.points (get_or t.edges.keys j 0)) t.edges.size k h

pub edge-of : (t : Tree) (e : Edge) → e ∈ edges_in t → (k : ℕ) × ((k < t.edges.size) × (e ≡ edge_at t k))
edge-of t e m = of-listing (λ j. ends_of t.points (get_or t.edges.keys j 0)) t.edges.size e m

module _ {net : Net} (t : Tree) (sound : Sound net t) (ranked : Ranked t.edges.keys t.edges.size) where
  -- Points and edges by number

  pub point-one : (i j : ℕ) → i < t.count → j < t.count → point_at t i ≡ point_at t j → i ≡ j
  point-one i j h k e = order_same t.points t.count i j sound.ordered h k e

  pub point-of : (v : Place) → Point net.pins (edges_in t) v → (i : ℕ) × ((i < t.count) × (v ≡ point_at t i))
  point-of v (inl m) = of-listing (place_at t.points) t.count v (sound.pinned v m)
  point-of v (inr (z, inl m)) =
      let r = edge-of t (v, z) m in (first_end (tables.key_at t r.0), ((sound.within.ends r.0).0, firsts r.1.1))
  point-of v (inr (z, inr m)) =
      let r = edge-of t (z, v) m in (second_end (tables.key_at t r.0), ((sound.within.ends r.0).1, seconds r.1.1))

  -- every point but a single one has an edge
  pub point-in : (i j : ℕ) → i < t.count → j < t.count → (i ≡ j → ⊥) → Point net.pins (edges_in t) (point_at t i)
  point-in i j h k n =
      inr (has-link (λ e. n (point-one i j h k e))
      (sound.whole.joins (point_at t i) (point_at t j) (in-listing (place_at t.points) t.count i h)
      (in-listing (place_at t.points) t.count j k)))

  pub edge-before : (i j : ℕ) → i < j → j < t.edges.size → edge_before (edge_at t i) (edge_at t j) ≡ true
  edge-before i j h k = edge_by (edge_at t i) (edge_at t j) ((numbered net t sound ranked).edges i j h k)

  pub edge-not : (i j : ℕ) → i ≤ j → j < t.edges.size → edge_before (edge_at t j) (edge_at t i) ≡ false
  edge-not i j h k =
      by (ltb i j) (λ q. not_after edge_order (edge_at t i) (edge_at t j) (edge-before i j (ltb-true i j q) k))
      (λ q.
      let e : j ≡ i = omega (arith, ltb-false i j q) in
      ap (λ (x : ℕ). edge_before (edge_at t x) (edge_at t i)) e ∙ edge_order.never (edge_at t i))

  pub edge-least : (i j : ℕ) → i < t.edges.size → edge_before (edge_at t j) (edge_at t i) ≡ false → i ≤ j
  edge-least i j h n = by (ltb j i) (λ q. differ (edge-before j i (ltb-true j i q) h) n) (λ q. ltb-false j i q)

  pub edge-one : (i j : ℕ) → i < t.edges.size → j < t.edges.size → edge_at t i ≡ edge_at t j → i ≡ j
  edge-one i j h k e =
      let p = edge-least i j h (ap (λ (x : Edge). edge_before x (edge_at t i)) (sym e) ∙ edge_order.never (edge_at t i)) in
      let q = edge-least j i k (ap (λ (x : Edge). edge_before x (edge_at t j)) e ∙ edge_order.never (edge_at t j)) in
      omega arith

  pub point-not : (u v : ℕ) → u ≤ v → v < t.count → before (point_at t v) (point_at t u) ≡ false
  point-not u v h k =
      by (ltb u v) (λ q. not_after place-order (point_at t u) (point_at t v) (sound.ordered u v (ltb-true u v q) k))
      (λ q.
      let e : v ≡ u = omega (arith, ltb-false u v q) in
      ap (λ (x : ℕ). before (point_at t x) (point_at t u)) e ∙ place-order.never (point_at t u))

  end-one : (u k : ℕ) → u < t.count → (point_at t u ≡ tables.end_a t k) ⊎ (point_at t u ≡ tables.end_b t k) → tables.EndOf t u k
  end-one u k h (inl e) = inl (point-one u _ h (sound.within.ends k).0 e)
  end-one u k h (inr e) = inr (point-one u _ h (sound.within.ends k).1 e)

  one_end : (u k : ℕ) → tables.EndOf t u k → (point_at t u ≡ tables.end_a t k) ⊎ (point_at t u ≡ tables.end_b t k)
  one_end u k (inl e) = inl (ap (point_at t) e)
  one_end u k (inr e) = inr (ap (point_at t) e)

  -- Steps

  step-to : {x : Place} {qs : List Place} (j : ℕ) → tables.StepOf t x qs j → Step (edges_in t) x qs (edge_at t j)
  step-to j s = record { edge = edge_in t j s.edge; one = s.one; other = s.other; on = s.on; ends = s.ends }

  step_from : {x : Place} {qs : List Place} (j : ℕ) → j < t.edges.size → Step (edges_in t) x qs (edge_at t j) → tables.StepOf t x qs j
  step_from j h s = record { edge = h; one = s.one; other = s.other; on = s.on; ends = s.ends }

  pub longest-to : {x : Place} {qs : List Place} (l : ℕ) → tables.LongestOn net t x qs l → Longest net (edges_in t) x qs (edge_at t l)
  longest-to {x} {qs} l p = record {
    step = step-to l p.step;
    longest = λ e s. let r = edge-of t e s.edge in
        subst (λ (z : Edge). edge_cost net z ≤ edge_cost net (edge_at t l)) (sym r.1.1) (p.longest r.0 (at e s r));
    smallest = λ e s q. let r = edge-of t e s.edge in
        subst (λ (z : Edge). edge_before z (edge_at t l) ≡ false) (sym r.1.1)
        (edge-not l r.0 (p.smallest r.0 (at e s r) (ap (edge_cost net) (sym r.1.1) ∙ q)) r.1.0);
  }
    where
      at : (e : Edge) → Step (edges_in t) x qs e → (r : (k : ℕ) × ((k < t.edges.size) × (e ≡ edge_at t k))) → tables.StepOf t x qs r.0
      at e s r = step_from r.0 r.1.0 (subst (Step (edges_in t) x qs) r.1.1 s)

  pub longest-from : {x : Place} {qs : List Place} (l : ℕ) → l < t.edges.size → Longest net (edges_in t) x qs (edge_at t l) →
      tables.LongestOn net t x qs l
  longest-from l h p = record {
    step = step_from l h p.step;
    longest = λ j s. p.longest (edge_at t j) (step-to j s);
    smallest = λ j s q. edge-least l j h (p.smallest (edge_at t j) (step-to j s) q);
  }

  -- a point of a tree with an edge
  pub point-some : (k i : ℕ) → k < t.edges.size → i < t.count → Point net.pins (edges_in t) (point_at t i)
  point-some k i hk h =
      let up = ranked.upward k hk in
      let ends = sound.within.ends k in
      by (eqb i (first_end (tables.key_at t k)))
      (λ q. point-in i (second_end (tables.key_at t k)) h ends.1
      (λ e. let z : ⊥ = omega (arith, up, e, eqb-true i (first_end (tables.key_at t k)) q) in z))
      (λ q. point-in i (first_end (tables.key_at t k)) h ends.0 (eqb-false _ _ q))

  pub point-listed : (v : Place) → Point net.pins (edges_in t) v → v ∈ points_of t.points t.count
  point-listed v p = let r = point-of v p in Memᴰ.cast r.1.1 (in-listing (place_at t.points) t.count r.0 r.1.0)

  pub listed-point : (k : ℕ) → k < t.edges.size → (v : Place) → v ∈ points_of t.points t.count → Point net.pins (edges_in t) v
  listed-point k hk v m =
      let r = of-listing (place_at t.points) t.count v m in
      subst (Point net.pins (edges_in t)) (sym r.1.1) (point-some k r.0 hk r.1.0)

  -- Candidates on the tree with their gains

  module _ (G : List Edge) where
    pub gain-to : (k u l g : ℕ) → tables.Gains net t k u l g →
        Gain net G (edges_in t) false (tables.end_a t k) (tables.end_b t k) (point_at t u) (point_at t u) [] (edge_at t l) g
    unfolding long
    gain-to k u l g x =
        let c = x.candidate in
        record {
          candidate = record {
            edge = edge_in t k c.edge;
            reach = inl (refl, (point-some k u c.edge c.point, (refl, refl)));
            not_first = λ q. c.third (end-one u k c.point (inl q));
            not_second = λ q. c.third (end-one u k c.point (inr q));
            seen = c.seen;
            kept =
                λ v p na nb nu q.
                let r = point-of v p in
                c.kept r.0 r.1.0 (λ z. either (λ y. na (r.1.1 ∙ y)) (λ y. nb (r.1.1 ∙ y)) (one_end r.0 k z))
                (λ z. nu (r.1.1 ∙ ap (point_at t) z)) (q ∙ r.1.1);
            away = λ w m. elim m [ ];
          };
          cut = record { way = x.cut.way; longest = longest-to l x.cut.longest };
          gain = omega (arith, x.gain);
          above = x.above;
        }

    gain-from : (k u l g : ℕ) → k < t.edges.size → u < t.count → l < t.edges.size →
        Gain net G (edges_in t) false (tables.end_a t k) (tables.end_b t k) (point_at t u) (point_at t u) [] (edge_at t l) g →
        tables.Gains net t k u l g
    unfolding long
    gain-from k u l g hk hu hl x =
        let c = x.candidate in
        record {
          candidate = record {
            edge = hk;
            point = hu;
            third = λ q. either c.not_first c.not_second (one_end u k q);
            seen = c.seen;
            kept =
                λ i h n nu q.
                c.kept (point_at t i) (point-in i u h hu nu) (λ z. n (end-one i k h (inl z))) (λ z. n (end-one i k h (inr z)))
                (λ z. nu (point-one i u h hu z)) q;
          };
          cut = record { way = x.cut.way; longest = longest-from l hl x.cut.longest };
          gain = omega (arith, x.gain);
          above = x.above;
        }

    -- a candidate on the tree by its numbers
    pub record ByNumber (a b v : Place) (e : Edge) (g : ℕ) : Type 0 where
      pub k : ℕ
      pub u : ℕ
      pub l : ℕ
      pub edge : ◌≡◌ {A = Edge} (a, b) (edge_at t k)
      pub point : v ≡ point_at t u
      pub gains : tables.Gains net t k u l g

    on-tree : {u v : Place} {qs : List Place} → Reach net G (edges_in t) false u v qs →
        Point net.pins (edges_in t) u × ((v ≡ u) × (qs ≡ []))
    on-tree (inl h) = h.1
    on-tree (inr h) = differ h.0 refl

    pub gain-of : (a b u v : Place) (qs : List Place) (e : Edge) (g : ℕ) → Gain net G (edges_in t) false a b u v qs e g → ByNumber a b u e g
    gain-of a b u v qs e g x =
        let h = on-tree x.candidate.reach in
        let r = edge-of t (a, b) x.candidate.edge in
        let p = point-of u h.0 in
        let q = edge-of t e x.cut.longest.step.edge in
        let y : Gain net G (edges_in t) false a b u u [] e g
        = subst (λ (z : List Place). Gain net G (edges_in t) false a b u u z e g) h.1.1
        (subst (λ (z : Place). Gain net G (edges_in t) false a b u z qs e g) h.1.0 x) in
        record {
          k = r.0;
          u = p.0;
          l = q.0;
          edge = r.1.1;
          point = p.1.1;
          gains =
              gain-from r.0 p.0 q.0 g r.1.0 p.1.0 q.1.0
              (subst (λ (z : Edge). Gain net G (edges_in t) false (tables.end_a t r.0) (tables.end_b t r.0) (point_at t p.0)
              (point_at t p.0) [] z g) q.1.1
              (subst (λ (z : Place). Gain net G (edges_in t) false (tables.end_a t r.0) (tables.end_b t r.0) z z [] e g) p.1.1
              (subst (λ (z : Edge). Gain net G (edges_in t) false z.0 z.1 u u [] e g) r.1.1 y)));
        }
