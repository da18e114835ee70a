-- What a round works out is what the definitions say, and its choice is in range.
-- Assumes nothing.
use mathlib.Core.Path.{◌≡◌, refl, ap, ◌∙◌}
use mathlib.Core.Bool.{true, false, ◌&&◌, ◌||◌}
use mathlib.Core.List.{List}
use Prim.Native.Nat.{ℕ, ◌+◌, ◌≤◌, ◌<◌}
use native.Mathlib.Omega.{arith}
use lib.Dec.{ltb, eqb}
use lib.IntN.{ℤ}
use lib.ListN.{get_or, replicate}
use borrow.Author.Tests.{ltb-true, eqb-false}
use Rattle.lists.proofs.TestLaws.{by, differ, and_left, or-none}
use Rattle.plane.specs.declared.Macro.{Macro}
use Rattle.plane.specs.declared.Weights.{Weights}
use Rattle.plane.specs.Cost.{cost}
use Rattle.plane.specs.Flat.{place_at}
use Rattle.forest.specs.Bounds.{point_bound}
use Rattle.forest.specs.Edges.{Fits, FirstBelow, entries}
use Rattle.forest.specs.Labels.{Labels, labels, labelled}
use Rattle.forest.specs.Parents.{Parents, parents, parented, way_after, Nearing}
use Rattle.forest.proofs.LabelLaws.{Fine}
use Rattle.forest.proofs.ForestLaws.{made-fine, made-falls}
use Rattle.forest.proofs.WayLaws.{falls-nearing}
use Rattle.tree.specs.Table.{first_end, second_end, Tree}
use Rattle.candidates.specs.declared.Best.{Best}
use Rattle.beside.specs.declared.Choice.{Choice}
use Rattle.lists.specs.Turns.{turns}
use Rattle.longest.specs.Longest.{cut_of, costs, longest}
use Rattle.candidates.specs.Candidate.{best, found}
use Rattle.candidates.specs.Candidate as tree
use Rattle.exchanges.specs.Exchange.{exchange}
use Rattle.beside.specs.Beside.{Ground, sources_from, take_seat, seats, middle_beside, free, weighed, offer, offers, search}
use Rattle.beside.specs.Beside.{Seated, either, chosen_of, labels_in, parents_in, seats_in, chosen_in}
use Rattle.refiner.specs.Graft.{Grown, grafted}
use Rattle.refiner.specs.Round.{exchange_with, exchange_in}
use Rattle.refiner.specs.Ready.{Roomy, Exchangeable}
use Rattle.lists.proofs.TurnLaws.{turns-below}
use Rattle.exchanges.proofs.WithinLaws.{cut_in, fine-found}

-- What the search finds is in range

-- a candidate that gains more than so much names an edge, another edge with a length, and a vertex
abbrev Above : List ℕ → ℕ → ℕ → ℕ → Best → Type 0
Above el e v least c = least < c.gain → ((c.edge < e) × (c.point < v)) × ((0 < get_or el c.cut 0) × (c.cut ≡ c.edge → ⊥))

module _ (w : Weights) (pts : List ℤ) (e n : ℕ) (ms : List Macro) (keys el top : List ℕ) (vs : List ℤ) (v : ℕ) (fars ups seat : List ℕ)
    (least : ℕ) where
  above-offer : (a b k : ℕ) → k < e → (u : ℕ) (c : Best) → u < v → Above el e v least c
      → Above el e v least (offer w pts n ms el top vs fars ups seat a b k u c)
  unfolding offer weighed
  above-offer a b k h u c i f =
      let l = cut_of el top a b (get_or seat u 0) in
      let s = middle_beside pts vs a b u in
      let d = cost w s (place_at vs u) + get_or fars u 0 in
      by (eqb (get_or fars u 0) 0 || (eqb (get_or seat u 0) a || (eqb (get_or seat u 0) b || eqb l k))) (λ t. rw t f) λ t.
      by (ltb (c.gain + d) (get_or el l 0) && free pts n ms vs fars ups a b u s)
      (λ y.
      let no = (or-none (eqb (get_or seat u 0) b) _ (or-none (eqb (get_or seat u 0) a) _ (or-none (eqb (get_or fars u 0) 0) _ t).1).1).1 in
      rw (t, y) λ g.
      ((h, i), (omega (arith, ltb-true (c.gain + d) (get_or el l 0) (and_left _ _ y)), eqb-false _ _ no)))
      (λ y. rw (t, y) f)

  above-offers : (k : ℕ) (c : Best) → k < e → Above el e v least c
      → Above el e v least (offers w pts n ms keys el top vs v fars ups seat k c)
  unfolding offers
  above-offers k c h f =
      turns-below (offer w pts n ms el top vs fars ups seat (first_end (get_or keys k 0)) (second_end (get_or keys k 0)) k) (Above el e v least) v
      (λ j t i q. above-offer _ _ k h j t i q) v 0 c (omega arith) f

  above-search : (c : Best) → c.gain ≡ least → Above el e v least (search w pts n ms keys e el top vs v fars ups seat c)
  unfolding search
  above-search c q =
      turns-below (offers w pts n ms keys el top vs v fars ups seat) (Above el e v least) e (λ j t i p. above-offers j t i p) e 0 c
      (omega arith) (λ g. absurd (let z : ⊥ = omega (arith, q) in z))

module _ (w : Weights) (ms : List Macro) (pts : List ℤ) (n : ℕ) (ks : List ℕ) (e : ℕ) (vs : List ℤ) (v : ℕ) (fars ups seat : List ℕ) where
  abbrev el : List ℕ
  el = costs w pts ks e

  abbrev top : List ℕ
  top = longest ks el e n

  abbrev on : Best
  on = tree.search w pts n ms ks e el top

  abbrev off : Best
  off = search w pts n ms ks e el top vs v fars ups seat on

  -- what is known of a choice: two edges, and a point of the tree or a vertex
  abbrev pub InRange : Choice → Type 0
  InRange c =
      ((c.best.edge < e) × (c.best.cut < e)) × ((c.best.cut ≡ c.best.edge → ⊥) × ((c.beside ≡ false → c.best.point < n) × (c.beside ≡ true → c.best.point < v)))

  on-found : on ≡ found w ms pts n ks e
  unfolding found
  on-found = refl

  either-range : ((either on off).best.gain ≡ 0 → ⊥) → InRange (either on off)
  unfolding either
  either-range =
      by (ltb on.gain off.gain)
      (λ t.
      rw (either, t) λ h.
      let r = above-search w pts e n ms ks el top vs v fars ups seat on.gain on refl (ltb-true _ _ t) in
      ((r.0.0, cut_in w pts ks e off.cut r.1.0), (r.1.1, ((λ q. differ refl q), (λ q. r.0.1)))))
      (λ t.
      rw (either, t) λ h.
      let r = fine-found w ms pts n ks e on on-found h in
      (r.0, (r.1.0, ((λ q. r.1.1), (λ q. differ q refl)))))

  pub chosen-range : (c : Choice) → c ≡ chosen_of w ms pts n ks e vs v fars ups seat → (c.best.gain ≡ 0 → ⊥) → InRange c
  unfolding chosen_of
  chosen-range c q = rw q either-range

-- The exchange of a choice

module _ (vs : List ℤ) (fars ups seat : List ℕ) (t : Tree) (c : Choice) where
  pub exchange-off : c.beside ≡ true → (g : Grown)
      → g ≡ grafted vs (way_after fars ups c.best.point) c.best.point
      (record { tree = t; last = get_or seat c.best.point 0; edge = c.best.edge; cut = c.best.cut }) → (q : Tree)
      → q ≡ exchange (best c.best.gain g.edge g.last g.cut) g.tree.points g.tree.count g.tree.edges.keys
      g.tree.edges.size → q ≡ exchange_with vs fars ups seat t c
  unfolding exchange_with
  exchange-off b g d q e = e ∙ rw (exchange_with, b, d) refl

  pub exchange-on : c.beside ≡ false → (q : Tree)
      → q ≡ exchange c.best t.points t.count t.edges.keys t.edges.size
      → q ≡ exchange_with vs fars ups seat t c
  unfolding exchange_with
  exchange-on b q e = e ∙ rw (exchange_with, b) refl

-- What the tables hold

module _ (g : Ground) (t : Tree) {source fars roots ups vias : List ℕ} {m : ℕ} (fits : Fits g.graph) (small : g.count ≤ point_bound)
    (sources-are : entries source 0 m ≡ sources_from t.points t.count g.places 0 g.count)
    (first : FirstBelow source m point_bound)
    (labels-are : labels fars roots ≡ labelled g.graph g.count (entries source 0 m))
    (parents-are : parents ups vias ≡ parented g.graph g.count (labelled g.graph g.count (entries source 0 m))) where
  labels-in : labels fars roots ≡ labels_in g t
  unfolding labels_in
  labels-in = labels-are ∙ ap (labelled g.graph g.count) sources-are

  parents-in : parents ups vias ≡ parents_in g t
  unfolding parents_in labels_in
  parents-in =
      parents-are ∙ ap (λ (ss : List ℕ). parented g.graph g.count (labelled g.graph g.count ss)) sources-are

  pub made_labels : Fine (labels fars roots)
  made_labels =
      made-fine g.graph g.count m source (labels fars roots) (parents ups vias) fits small first labels-are parents-are

  pub made-nearing : Nearing fars ups
  made-nearing =
      falls-nearing
      (made-falls g.graph g.count m source (labels fars roots) (parents ups vias) fits small first labels-are parents-are)

  module _ {seat : List ℕ}
      (seats-are : seat ≡ turns (take_seat t.points t.count g.places roots) 0 g.count (replicate point_bound 0)) where
    fars-in : fars ≡ (labels_in g t).fars
    fars-in = ap (λ (l : Labels). l.fars) labels-in

    ups-in : ups ≡ (parents_in g t).ups
    ups-in = ap (λ (p : Parents). p.ups) parents-in

    seats-in : seat ≡ seats_in g t
    unfolding seats_in seats
    seats-in =
        seats-are
        ∙ ap (λ (l : Labels). turns (take_seat t.points t.count g.places l.roots) 0 g.count (replicate point_bound 0))
        labels-in

    pub made-seated : Roomy g t → Seated seat g.count t.count
    made-seated r = record { seated = λ u h. rw seats-in (r.seated u h) }

    module _ (w : Weights) (ms : List Macro) (c : Choice)
        (chosen : c ≡ chosen_of w ms t.points t.count t.edges.keys t.edges.size g.places g.count fars ups seat) where
      pub chosen-in : c ≡ chosen_in w ms g t
      unfolding chosen_in
      chosen-in = chosen ∙ rw (fars-in, ups-in, seats-in) refl

      pub exchanged-in : exchange_with g.places fars ups seat t c ≡ exchange_in g t (chosen_in w ms g t)
      unfolding exchange_in
      exchanged-in = rw (fars-in, ups-in, seats-in, chosen-in) refl

      pub exchangeable : Roomy g t → (c.best.gain ≡ 0 → ⊥) → Exchangeable fars ups seat t.edges.keys t.count t.edges.size c
      exchangeable r h =
          let i = chosen-range w ms t.points t.count t.edges.keys t.edges.size g.places
          g.count fars ups seat c chosen h in
          record {
            within = r.spanned.within;
            few = (r.few, omega (arith, r.few, r.spanned.size));
            edge = i.0.0;
            cut = i.0.1;
            two = i.1.0;
            on = i.1.1.0;
            off = λ b. omega (arith, i.1.1.1 b, small);
            nearing = made-nearing;
            seated = λ b. rw seats-in (r.seated c.best.point (i.1.1.1 b));
            room =
                λ b.
                let far = rw (← fars-in, ← ups-in) at (r.room c.best.point (i.1.1.1 b)) in
                (far, omega (arith, far, r.spanned.size));
          }
