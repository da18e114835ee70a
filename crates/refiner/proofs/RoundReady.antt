-- The rounds on a ground keep a tree over its points in order, with all pins, every edge clear and the edges in order, and room for what
-- can still come: each round adds vertices of the graph and at most one further point. The total falls by each gain.
-- Assumes nothing.
use mathlib.Core.Path.{◌≡◌, refl, sym, ap, ap₂, ◌∙◌}
use mathlib.Core.Logic.{inl, inr}
use mathlib.Core.List.Memᴰ
use mathlib.Core.List.{List, ◌∷◌}
use Prim.Native.Nat.{ℕ, zero, suc, ◌+◌, ◌≤◌, ◌<◌}
use native.Mathlib.Omega.{arith}
use lib.Dec.{ltb, eqb}
use lib.ListN.{length, get_or, length-map}
use borrow.Author.Tests.{ltb-true, eqb-false, eq-eqb, ne_eqb}
use Rattle.lists.specs.Member.{◌∈◌}
use Rattle.lists.proofs.TestLaws.{by, either as cases}
use Rattle.lists.proofs.MapLaws.{of_map}
use Rattle.plane.specs.declared.Place.{Place}
use Rattle.plane.specs.declared.Macro.{Macro}
use Rattle.plane.specs.declared.Weights.{Weights}
use Rattle.plane.specs.Cost.{cost}
use Rattle.plane.specs.Flat.{place_at}
use Rattle.net.specs.Net.{Net, cost_in}
use Rattle.forest.specs.Labels.{far}
use Rattle.forest.specs.Parents.{way_after}
use Rattle.tree.specs.Table.{tree_bound, first_end, second_end, Tree}
use Rattle.tree.specs.Places.{points_of, key_cost, tree_total}
use Rattle.tree.specs.Outside.{strangers}
use Rattle.tree.proofs.ListingLaws.{listing-length, in-listing}
use Rattle.tree.proofs.PointLaws.{order-once}
use Rattle.tree.proofs.OutsideLaws.{outside-more, outside-fewer, count-strangers}
use Rattle.candidates.specs.declared.Best.{Best}
use Rattle.longest.specs.Longest.{costs, longest}
use Rattle.candidates.specs.Candidate.{best, found, middle_of}
use Rattle.candidates.specs.Candidate as tree
use Rattle.exchanges.specs.Exchange.{exchange}
use Rattle.beside.specs.Beside.{Ground, search, middle_beside, either, chosen_of, chosen_in, labels_in, parents_in, seats_in}
use Rattle.refiner.specs.Graft.{Grown}
use Rattle.refiner.specs.Round.{exchange_with, exchange_in, rounds_in}
use Rattle.refiner.specs.Ready.{vertices_of, vertex_at, Ready, Roomy}
use Rattle.refiner.specs.Sentences.{key_at}
use Rattle.bounds.proofs.CostLaws.{cost-at}
use Rattle.refiner.proofs.WinnerLaws.{found-wins}
use Rattle.refiner.proofs.RoundSound.{Won, round-falls, round-kept}
use Rattle.refiner.proofs.CutSound.{tree-size}
use Rattle.refiner.proofs.SpanLaws.{tree-reaches}
use Rattle.refiner.proofs.WayBeside.{seated, way-low, way-along, way_long, way-room}
use Rattle.refiner.proofs.BesideWins.{WinnerOff, search-leads-off}
use Rattle.refiner.proofs.GraftTaken as graft
use Rattle.refiner.proofs.GraftSound.{Grows}
use Rattle.refiner.proofs.TakenKept.{Exchanged, taken-kept}

-- there is room for every way to a vertex
pub ready-roomy : (net : Net) (g : Ground) (t : Tree) (m : ℕ) → Ready net g t (suc m) → Roomy g t
ready-roomy net g t m r =
    let size = tree-size net t r.sound in
    let vertices = listing-length (vertex_at g) g.count in
    record {
      spanned = record {
        size = size;
        few = omega (arith, count-strangers (vertices_of g) t r.sound.ordered, vertices, r.room);
        within = r.sound.within;
        reaches = λ el none v h.
            tree-reaches t.points t.count t.edges.keys t.edges.size el r.sound.ordered
            (omega (arith, count-strangers (vertices_of g) t r.sound.ordered, vertices, r.room))
            (omega (arith, size, count-strangers (vertices_of g) t r.sound.ordered, vertices, r.room)) none r.sound.within
            r.sound.whole v h;
      };
      room = λ u h. omega (arith, way-room net g t r.grounded r.sound u h, r.room);
      seated = λ u h. (seated net g t r.grounded r.sound u h).0;
      few = omega (arith, count-strangers (vertices_of g) t r.sound.ordered, vertices, r.room);
      points = (
        omega (arith, count-strangers (vertices_of g) t r.sound.ordered, vertices, r.room, r.places),
        r.sound.ordered,
      );
      vertices = (omega (arith, r.grounded.sized, r.grounded.few-vertices), r.grounded.ordered);
    }

-- One round

-- what a round with the gain c keeps
pub record Onward (net : Net) (g : Ground) (t r : Tree) (m gain : ℕ) : Type 0 where
  pub ready : Ready net g r m
  pub strange : strangers (vertices_of g) r ≤ strangers (vertices_of g) t + 1
  pub falls : tree_total net.weights r + gain ≡ tree_total net.weights t

module _ (net : Net) (g : Ground) (t : Tree) (m : ℕ) (r : Ready net g t (suc m)) where
  abbrev pub el : List ℕ
  el = costs net.weights t.points t.edges.keys t.edges.size

  abbrev pub top : List ℕ
  top = longest t.edges.keys el t.edges.size t.count

  abbrev pub on : Best
  on = tree.search net.weights t.points t.count net.macros t.edges.keys t.edges.size el top

  abbrev pub off : Best
  off =
      search net.weights t.points t.count net.macros t.edges.keys t.edges.size el top g.places g.count
      (labels_in g t).fars (parents_in g t).ups (seats_in g t) on

  few : t.count < tree_bound
  few = (ready-roomy net g t m r).few

  -- on the tree

  on-won : 0 < on.gain → Won net t.points t.count t.edges.keys few r.places r.rows t.edges.size on
  unfolding found
  on-won h = found-wins net.weights net.macros t.points t.count t.edges.keys t.edges.size h

  abbrev on-next : Tree
  on-next = exchange on t.points t.count t.edges.keys t.edges.size

  on-onward : 0 < on.gain → Onward net g t on-next m on.gain
  on-onward h =
      let k = round-kept net t.points t.count t.edges.keys few r.places r.rows on t.edges.size r.sound (on-won h) in
      record {
        ready = record {
          grounded = r.grounded;
          sound = k.sound;
          ranked = k.ranked r.ranked;
          room = omega (arith, k.points (vertices_of g), r.room);
          places = k.places ∙ r.places;
          rows = k.rows ∙ r.rows;
        };
        strange = k.points (vertices_of g);
        falls =
            round-falls net t.points t.count t.edges.keys few r.places r.rows on t.edges.size r.sound (on-won h);
      }

  -- beside it

  module _ (h : on.gain < off.gain) where
    pub win : WinnerOff net.weights net.macros t.points t.count t.edges.keys t.edges.size el top g.places g.count
        (labels_in g t).fars (parents_in g t).ups (seats_in g t) off.gain off.edge off.point off.cut
    win =
        (search-leads-off net.weights net.macros t.points t.count t.edges.keys t.edges.size el top g.places g.count
        (labels_in g t).fars (parents_in g t).ups (seats_in g t) on.gain on refl).wins h

    far-enough : t.count + length (way_after (labels_in g t).fars (parents_in g t).ups off.point) < tree_bound
    far-enough = (ready-roomy net g t m r).room off.point win.vertex

    pub room-way : length (way_after (labels_in g t).fars (parents_in g t).ups off.point) + t.count ≤ tree_bound
    room-way = omega (arith, far-enough)

    pub low : t.count ≤ tree_bound
    low = omega (arith, few)

    abbrev pub grown : Grown
    grown = graft.after net g t r.grounded r.sound r.ranked r.places r.rows low off.gain off.edge off.point
        off.cut win room-way

    abbrev x : Place
    x = vertex_at g off.point

    pub grows : Grows net t off.edge off.cut x (graft.qs net g t r.grounded r.sound r.ranked r.places r.rows low
        off.gain off.edge off.point off.cut win room-way) grown
    grows = graft.grows net g t r.grounded r.sound r.ranked r.places r.rows low off.gain off.edge off.point
        off.cut win room-way

    pub grown-few : grown.tree.count < tree_bound
    grown-few =
        omega (
          arith,
          grows.count,
          length-map (way_after (labels_in g t).fars (parents_in g t).ups off.point) (vertex_at g),
          far-enough,
        )

    abbrev pub off-best : Best
    off-best = best off.gain grown.edge grown.last grown.cut

    abbrev pub off_next : Tree
    off_next =
        exchange off-best grown.tree.points grown.tree.count grown.tree.edges.keys grown.tree.edges.size

    pub kept : Exchanged net grown.tree off_next grown.edge grown.cut grown.last
    kept = taken-kept net grown.tree off-best grown-few grows.places grows.rows grows.sound
        (graft.taken net g t r.grounded r.sound r.ranked r.places r.rows low off.gain off.edge off.point
        off.cut win room-way)

    -- the points of the way are vertices
    way-known : (z : Place) → z ∈ (x ∷ graft.qs net g t r.grounded r.sound r.ranked r.places r.rows low off.gain
        off.edge off.point off.cut win room-way) → z ∈ vertices_of g
    way-known z i =
        let s = of_map (vertex_at g) (off.point ∷ way_after (labels_in g t).fars (parents_in g t).ups off.point) i in
        Memᴰ.cast s.is
        (in-listing (vertex_at g) g.count s.entry
        (way-low net g t r.grounded r.sound win.vertex (way-along net g t r.grounded r.sound off.point win.vertex)
        s.entry s.stands))

    grown-strangers : strangers (vertices_of g) grown.tree ≤ strangers (vertices_of g) t
    grown-strangers =
        outside-fewer (vertices_of g) (points_of t.points t.count) (points_of grown.tree.points grown.tree.count)
        (order-once grown.tree.points grown.tree.count grows.sound.ordered)
        (λ y i. cases inr (λ j. inl (way-known y j)) (grows.point-known y i))

    one-stranger : strangers (vertices_of g) off_next ≤ strangers (vertices_of g) grown.tree + 1
    one-stranger =
        outside-more (vertices_of g) (points_of grown.tree.points grown.tree.count) (points_of off_next.points off_next.count) _
        (order-once off_next.points off_next.count kept.sound.ordered) kept.known

    cut-cost : key_cost net.weights grown.tree.points (get_or grown.tree.edges.keys grown.cut 0) ≡ get_or el off.cut 0
    cut-cost =
        ap (λ (z : Place × Place). cost net.weights z.0 z.1) grows.cut-at
        ∙ sym (cost-at net.weights t.points t.edges.keys t.edges.size off.cut
        (omega (arith, tree-size net t r.sound, low)) (graft.cut net g t r.grounded r.sound r.ranked r.places r.rows low
        off.gain off.edge off.point off.cut win room-way).longest.step.edge)

    laid-cost : tree_total net.weights grown.tree ≡ far (labels_in g t) off.point + tree_total net.weights t
    laid-cost =
        grows.total
        ∙ ap (λ (k : ℕ). k + tree_total net.weights t) (way_long net g t r.grounded r.sound off.point win.vertex)

    s-cost : cost_in net (middle_of grown.tree.points (first_end (get_or grown.tree.edges.keys grown.edge 0))
        (second_end (get_or grown.tree.edges.keys grown.edge 0)) grown.last) (place_at grown.tree.points grown.last)
        ≡ cost_in net (middle_beside t.points g.places (first_end (key_at t off.edge)) (second_end (key_at t off.edge)) off.point)
        x
    s-cost = ap₂ (cost_in net) (graft.s-is net g t r.grounded r.sound r.ranked r.places r.rows low off.gain off.edge
        off.point off.cut win room-way) grows.last-at

    off-onward : Onward net g t off_next m off.gain
    off-onward = record {
      ready = record {
        grounded = r.grounded;
        sound = kept.sound;
        ranked = kept.ranked grows.ranked;
        room = omega (arith, one-stranger, grown-strangers, r.room);
        places = kept.places ∙ grows.places;
        rows = kept.rows ∙ grows.rows;
      };
      strange = omega (arith, one-stranger, grown-strangers);
      falls = omega (arith, kept.cost, cut-cost, laid-cost, s-cost, win.gained);
    }

  -- either

  abbrev pub next : Tree
  next = exchange_in g t (chosen_in net.weights net.macros g t)

  pub either-onward : ((either on off).best.gain ≡ 0 → ⊥) → Onward net g t (exchange_in g t (either on off)) m (either on off).best.gain
  unfolding either exchange_in exchange_with
  either-onward =
      by (ltb on.gain off.gain)
      (λ b. rw (either, b) (λ h. off-onward (ltb-true _ _ b)))
      (λ b. rw (either, b) (λ h. on-onward (omega (arith, h))))

  pub round-onward : ((chosen_in net.weights net.macros g t).best.gain ≡ 0 → ⊥) →
      Onward net g t next m (chosen_in net.weights net.macros g t).best.gain
  unfolding chosen_in chosen_of
  round-onward h = either-onward h

-- All rounds

-- the points are in the tables
pub ready-few : {net : Net} {g : Ground} {t : Tree} {m : ℕ} → Ready net g t m → t.count ≤ tree_bound
ready-few {net} {g} {t} r =
    omega (arith, count-strangers (vertices_of g) t r.sound.ordered, listing-length (vertex_at g) g.count, r.room)

pub ready-less : {net : Net} {g : Ground} {t : Tree} {m : ℕ} → Ready net g t m → Ready net g t 0
ready-less r = record {
  grounded = r.grounded;
  sound = r.sound;
  ranked = r.ranked;
  room = omega (arith, r.room);
  places = r.places;
  rows = r.rows;
}

pub rounds-ready : (net : Net) (g : Ground) (m : ℕ) (t : Tree) → Ready net g t m →
    Ready net g (rounds_in net.weights net.macros g m t) 0
    × (tree_total net.weights (rounds_in net.weights net.macros g m t) ≤ tree_total net.weights t)
unfolding rounds_in
rounds-ready net g zero t r = (r, omega arith)
rounds-ready net g (suc m) t r =
    let c = chosen_in net.weights net.macros g t in
    by (eqb c.best.gain 0) (λ q. rw (rounds_in, q) (ready-less r, omega arith))
    (λ q.
    let o = round-onward net g t m r (eqb-false _ _ q) in
    let more = rounds-ready net g m (exchange_in g t c) o.ready in
    rw (rounds_in, q) (more.0, omega (arith, more.1, o.falls)))

-- each round adds at most one point that is no vertex
rounds-strange : (net : Net) (g : Ground) (m : ℕ) (t : Tree) → Ready net g t m →
    strangers (vertices_of g) (rounds_in net.weights net.macros g m t) ≤ strangers (vertices_of g) t + m
unfolding rounds_in
rounds-strange net g zero t r = omega arith
rounds-strange net g (suc m) t r =
    let c = chosen_in net.weights net.macros g t in
    by (eqb c.best.gain 0) (λ q. rw (rounds_in, q) (omega arith))
    (λ q.
    let o = round-onward net g t m r (eqb-false _ _ q) in
    rw (rounds_in, q) (omega (arith, rounds-strange net g m (exchange_in g t c) o.ready, o.strange)))

-- so there are at most the vertices and one further point a round
pub rounds-count : (net : Net) (g : Ground) (m : ℕ) (t : Tree) → Ready net g t m →
    (rounds_in net.weights net.macros g m t).count ≤ g.count + (strangers (vertices_of g) t + m)
rounds-count net g m t r =
    omega (
      arith,
      count-strangers (vertices_of g) (rounds_in net.weights net.macros g m t) (rounds-ready net g m t r).0.sound.ordered,
      listing-length (vertex_at g) g.count,
      rounds-strange net g m t r,
    )

-- The rounds one after the other, as the code goes through them

module _ (w : Weights) (ms : List Macro) (g : Ground) (k : ℕ) (t all : Tree) (h : rounds_in w ms g k t ≡ all) where
  pub rounds-stop : (less : ℕ) → k ≡ suc less → (chosen_in w ms g t).best.gain ≡ 0 → t ≡ all
  unfolding rounds_in
  rounds-stop less i q = sym (rw (i, rounds_in, eq-eqb _ _ q) refl) ∙ h

  pub rounds-more : (less : ℕ) → k ≡ suc less → ((chosen_in w ms g t).best.gain ≡ 0 → ⊥) → (r : Tree) → r ≡ exchange_in g t (chosen_in w ms g t) →
      rounds_in w ms g less r ≡ all
  unfolding rounds_in
  rounds-more less i q r e = rw e (sym (rw (i, rounds_in, ne_eqb _ _ q) refl) ∙ h)

  pub rounds-end : k ≡ 0 → t ≡ all
  unfolding rounds_in
  rounds-end e = sym (rw e refl) ∙ h
