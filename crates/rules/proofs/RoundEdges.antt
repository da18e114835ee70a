-- The edges after a round: those of the exchange, and beside the tree those of the way.
-- Assumes nothing.
use mathlib.Core.Path.{◌≡◌, refl, sym, ap, ap₂, ◌∙◌, subst}
use mathlib.Core.Bool.{true, false}
use mathlib.Core.Logic.{◌⊎◌, inl, inr, ◌↔◌}
use mathlib.Core.List.Memᴰ
use mathlib.Core.List.{List, [], ◌∷◌, map}
use Prim.Native.Nat.{ℕ, zero, suc, ◌*◌, ◌≤◌, ◌<◌}
use native.Mathlib.Omega.{arith}
use lib.Dec.{ltb}
use lib.IntN.{ℤ}
use lib.ListN.{length, get_or}
use borrow.Author.Tests.{ltb-true, ltb-false}
use Rattle.lists.specs.Member.{◌∈◌, here, there}
use Rattle.lists.proofs.TestLaws.{by, differ, either}
use Rattle.plane.specs.declared.Place.{Place}
use Rattle.plane.specs.Place.{before}
use Rattle.plane.specs.Flat.{place_at}
use Rattle.plane.proofs.PlaceOrder.{place-order}
use Rattle.net.specs.Net.{Net}
use Rattle.joined.specs.Joined.{Link, Alike}
use Rattle.joined.specs.Way.{Way, stop, go}
use Rattle.joined.specs.Exchange.{steps}
use Rattle.joined.proofs.JoinedLaws.{firsts, seconds}
use Rattle.tree.specs.Table.{tree_bound, first_end, second_end, Tree, tree}
use Rattle.tree.specs.Places.{ends_of, points_of, edges_of, Ranked, Sound}
use Rattle.tree.proofs.ListingLaws.{in-listing}
use Rattle.candidates.specs.declared.Best.{Best}
use Rattle.plane.specs.Middle.{middle_place}
use Rattle.candidates.specs.Candidate.{found}
use Rattle.longest.specs.Longest.{costs, longest}
use Rattle.exchanges.specs.Exchange.{exchange}
use Rattle.candidates.specs.Taken.{Taken}
use Rattle.refiner.specs.Sentences as tables
use Rattle.beside.specs.Beside.{Ground, labels_in, parents_in, seats_in}
use Rattle.refiner.specs.Ready.{vertex_at, Ready}
use Rattle.refiner.proofs.CutSound.{tree-size}
use Rattle.exchanges.proofs.ExchangeSound.{laid-after}
use Rattle.refiner.proofs.WinnerLaws.{Winner, found-wins}
use Rattle.refiner.proofs.RoundSound.{taken, exchange-laid}
use Rattle.refiner.specs.Graft.{Grown}
use Rattle.forest.specs.Parents.{way_after}
use Rattle.refiner.proofs.TakenKept.{taken-kept}
use Rattle.refiner.proofs.GraftSound.{StepAt, Hanging}
use Rattle.refiner.proofs.GraftTaken as graft
use Rattle.refiner.proofs.WayBeside.{way-hangs}
use Rattle.refiner.proofs.RoundReady.{ready-roomy, on, off, win, low, room-way, grown, grows, grown-few, off-best, off_next}
use Rattle.rules.specs.Edges.{Edge}
use Rattle.rules.specs.Refined.{Lays, Step, After, Round}
use Rattle.rules.proofs.GainOurs.{not_after, edges_in, point_at, edge_at, edge-one}
use Rattle.rules.proofs.ReachOurs.{Charts}
use Rattle.rules.proofs.GainBeside.{joint, laid, beside_at}
use Rattle.rules.proofs.RoundOurs.{upward, of-after, in_after, few, takes-on, takes-off}

-- After an exchange

-- x is there after the exchange of a candidate
abbrev pub Left : Tree → Best → Edge → Type 0
Left t c x =
    ((x ∈ edges_in t) × ((x ≡ edge_at t c.edge → ⊥) × (x ≡ edge_at t c.cut → ⊥))) ⊎
    (Lays (tables.middle_at t c.edge c.point) (tables.end_a t c.edge) x ⊎ (Lays (tables.middle_at t c.edge c.point)
    (tables.end_b t c.edge) x ⊎ Lays (tables.middle_at t c.edge c.point) (point_at t c.point) x))

module _ (net : Net) (pts : List ℤ) (n : ℕ) (ks : List ℕ) (few : n < tree_bound) (room : length pts ≡ tree_bound * 2)
    (rooms : length ks ≡ tree_bound) (c : Best) where
  left_at : (e : ℕ) → Sound net (tree pts n ks e) → Ranked ks e → Taken net.macros pts n ks e c.edge c.cut c.point →
      (x : Edge) → (x ∈ edges_in (exchange c pts n ks e)) ↔ Left (tree pts n ks e) c x
  left_at zero sound ranked t x = absurd (let z : ⊥ = omega (arith, t.edge) in z)
  left_at (suc zero) sound ranked t x = absurd (t.two (let z : c.edge ≡ c.cut = omega (arith, t.edge, t.cut) in z))
  left_at (suc (suc e)) sound ranked t x =
      let before = tree pts n ks (suc (suc e)) in
      let s = tree-size net before sound in
      let kept = taken-kept net before c few room rooms sound t in
      let q = exchange-laid net pts n ks few room rooms c e in
      let laid = laid-after net pts n ks e c.edge c.cut c.point sound t few (omega arith) (omega (arith, s)) in
      let up = upward _ (subst (Sound net) q kept.sound)
      (subst (λ (z : Tree). Ranked z.edges.keys z.edges.size) q (kept.ranked ranked)) in
      let one_key = edge-one before sound ranked in
      subst (λ (z : Tree). ◌↔◌ (x ∈ edges_in z) (Left before c x)) (sym q) (
        of-after laid.1 sound.within t.edge t.cut t.two (sound.within.ends c.edge).0
            (sound.within.ends c.edge).1 t.point ranked.rising one_key up x,
        in_after laid.1 sound.within t.edge t.cut t.two (sound.within.ends c.edge).0
            (sound.within.ends c.edge).1 t.point ranked.rising one_key up x,
      )

left-edges : (net : Net) (t : Tree) (c : Best) → t.count < tree_bound → length t.points ≡ tree_bound * 2 →
    length t.edges.keys ≡ tree_bound → Sound net t → Ranked t.edges.keys t.edges.size →
    Taken net.macros t.points t.count t.edges.keys t.edges.size c.edge c.cut c.point →
    (x : Edge) → (x ∈ edges_in (exchange c t.points t.count t.edges.keys t.edges.size)) ↔ Left t c x
left-edges net t c few room rooms sound ranked taken x =
    left_at net t.points t.count t.edges.keys few room rooms c t.edges.size sound ranked taken x

-- Steps

-- two edges with the same ends, both smaller place first, are one
pub upward-one : (x : Edge) (c d : Place) → before x.0 x.1 ≡ true → before c d ≡ true → Alike c d x.0 x.1 → x ≡ (c, d)
upward-one x c d p q (inl e) = ap₂ (λ (a b : Place). (a, b)) (sym e.0) (sym e.1)
upward-one x c d p q (inr e) = differ (ap₂ before e.1 e.0 ∙ p) (not_after place-order c d q)

-- an edge of which the ends are linked stands there
linked-in : {L : List Edge} → ((e : Edge) → e ∈ L → before e.0 e.1 ≡ true) → (x : Edge) (c d : Place) →
    before x.0 x.1 ≡ true → Alike c d x.0 x.1 → Link L c d → x ∈ L
linked-in up x c d p a (inl m) = Memᴰ.cast (upward-one x c d p (up (c, d) m) a) m
linked-in up x c d p (inl e) (inr m) = Memᴰ.cast (upward-one x d c p (up (d, c) m) (inr (e.1, e.0))) m
linked-in up x c d p (inr e) (inr m) = Memᴰ.cast (upward-one x d c p (up (d, c) m) (inl (e.1, e.0))) m

steps-link : {L : List Edge} {x y : Place} {ps : List Place} → Way L x ps y → (p q : Place) → (p, q) ∈ steps x ps → Link L p q
unfolding steps
steps-link (stop k) p q m = elim m [ ]
steps-link {L} (go l w) p q m =
    either
    (λ e. let f : p ≡ _ = firsts e in let g : q ≡ _ = seconds e in rw (f, g) l)
    (λ i. steps-link w p q i) (Memᴰ.cases_cons m)

-- each step of a way that hangs on the tree begins beside it
step-off : (net : Net) (t : Tree) (k l v : ℕ) (vs : List ℤ) (ys : List ℕ) (u : ℕ) → Hanging net t k l v vs ys u → (c d : Place) →
    (c, d) ∈ steps (place_at vs u) (map (place_at vs) ys) → c ∈ points_of t.points t.count → ⊥
unfolding steps
step-off net t k l v vs [] u h c d m i = elim m [ ]
step-off net t k l v vs (y ∷ ys) u h c d m i =
    either (λ e. h.1.0 (Memᴰ.cast (sym (firsts e)) i)) (λ j. step-off net t k l v vs ys y h.1.1.1 c d j i) (Memᴰ.cases_cons m)

-- what is known of a candidate that is found on the tree
on-taken : (net : Net) (pts : List ℤ) (n : ℕ) (ks : List ℕ) (e : ℕ) → Sound net (tree pts n ks e) → n < tree_bound → (gain k u l : ℕ) →
    Winner net.weights net.macros pts n ks e (costs net.weights pts ks e)
    (longest ks (costs net.weights pts ks e) e n) gain k u l →
    Taken net.macros pts n ks e k l u
on-taken net pts n ks zero sound few gain k u l w = absurd (let z : ⊥ = omega (arith, w.edge) in z)
on-taken net pts n ks (suc e) sound few gain k u l w = taken net pts n ks e sound few gain k u l w

-- The round

-- a round with its gain
abbrev pub Gained : Net → List Edge → List Edge → List Edge → ℕ → Type 0
Gained net G T U h = (r : Round net G T U) × (r.g ≡ h)

module _ {net : Net} {G : List Edge} {g : Ground} (charts : Charts net G g) (t : Tree) (m : ℕ) (ready : Ready net g t (suc m)) where
  low_count : t.count < tree_bound
  low_count = (ready-roomy net g t m ready).few

  abbrev c : Best
  c = on net g t m ready

  abbrev d : Best
  d = off net g t m ready

  -- on the tree

  on-won : 0 < c.gain → Taken net.macros t.points t.count t.edges.keys t.edges.size c.edge c.cut c.point
  unfolding found
  on-won h =
      on-taken net t.points t.count t.edges.keys t.edges.size ready.sound low_count c.gain c.edge c.point c.cut
      (found-wins net.weights net.macros t.points t.count t.edges.keys t.edges.size h)

  wider : (x : Edge) → Left t c x →
      After G (edges_in t) (tables.end_a t c.edge) (tables.end_b t c.edge) (point_at t c.point) [] (edge_at t c.cut) x
  wider x (inl i) = inl i
  wider x (inr (inl i)) = inr (inl i)
  wider x (inr (inr (inl i))) = inr (inr (inl i))
  wider x (inr (inr (inr i))) = inr (inr (inr (inl i)))

  narrower : (x : Edge) →
      After G (edges_in t) (tables.end_a t c.edge) (tables.end_b t c.edge) (point_at t c.point) [] (edge_at t c.cut) x → Left t c x
  unfolding steps
  narrower x (inl i) = inl i
  narrower x (inr (inl i)) = inr (inl i)
  narrower x (inr (inr (inl i))) = inr (inr (inl i))
  narrower x (inr (inr (inr (inl i)))) = inr (inr (inr i))
  narrower x (inr (inr (inr (inr i)))) = elim i.on [ ]

  pub round-on : 0 < (on net g t m ready).gain → (off net g t m ready).gain ≤ (on net g t m ready).gain →
      Gained net G (edges_in t)
      (edges_in (exchange (on net g t m ready) t.points t.count t.edges.keys t.edges.size)) (on net g t m ready).gain
  round-on above less =
      let there-is = left-edges net t c low_count ready.places ready.rows ready.sound ready.ranked (on-won above) in (
        record {
          k = false;
          a = tables.end_a t c.edge;
          b = tables.end_b t c.edge;
          u = point_at t c.point;
          v = point_at t c.point;
          qs = [];
          l = edge_at t c.cut;
          g = c.gain;
          takes = takes-on charts t m ready above less;
          edges = λ x. (λ i. wider x ((there-is x).0 i), λ i. (there-is x).1 (narrower x i));
        },
        refl,
      )

  -- beside it

  module _ (h : (on net g t m ready).gain < (off net g t m ready).gain) where
    abbrev after : Grown
    after = grown net g t m ready h

    abbrev qs : List Place
    qs = laid charts t ready.sound ready.ranked (few charts t m ready) d.point

    abbrev u : Place
    u = vertex_at g d.point

    grown-up : (e : Edge) → e ∈ edges_in after.tree → before e.0 e.1 ≡ true
    grown-up = upward after.tree (grows net g t m ready h).sound (grows net g t m ready h).ranked

    hanging : Hanging net t d.edge d.cut (get_or (seats_in g t) d.point 0) g.places
        (way_after (labels_in g t).fars (parents_in g t).ups d.point) d.point
    hanging = way-hangs net g t ready.grounded ready.sound d.edge d.cut d.point (win net g t m ready h).vertex

    -- a step of the way is no edge of the tree
    step-new : (x : Edge) → Step G u qs x → (k : ℕ) → x ≡ edge_at t k → ⊥
    step-new x s k e =
        step-off net t d.edge d.cut (get_or (seats_in g t) d.point 0) g.places
        (way_after (labels_in g t).fars (parents_in g t).ups d.point) d.point hanging s.one s.other s.on
        (either
        (λ q. Memᴰ.cast (q.0 ∙ firsts e) (in-listing (place_at t.points) t.count _ (ready.sound.within.ends k).0))
        (λ q. Memᴰ.cast (q.0 ∙ seconds e) (in-listing (place_at t.points) t.count _ (ready.sound.within.ends k).1))
        s.ends)

    graph-step : (x : Edge) → x ∈ edges_in after.tree → StepAt u qs x → Step G u qs x
    graph-step x i s = record {
      edge =
          linked-in charts.upward x s.one s.other (grown-up x i) s.ends
          (steps-link (beside_at charts t ready.sound ready.ranked (few charts t m ready) d.edge d.point
          (win net g t m ready h).edge (win net g t m ready h).vertex (win net g t m ready h).off).way s.one s.other s.on);
      one = s.one;
      other = s.other;
      on = s.on;
      ends = s.ends;
    }

    step_in : (x : Edge) → Step G u qs x → x ∈ edges_in after.tree
    step_in x s =
        linked-in grown-up x s.one s.other (charts.upward x s.edge) s.ends
        ((grows net g t m ready h).edge-way s.one s.other s.on)

    edge-is : edge_at after.tree after.edge ≡ edge_at t d.edge
    edge-is = (grows net g t m ready h).edge-at

    cut-is : edge_at after.tree after.cut ≡ edge_at t d.cut
    cut-is = (grows net g t m ready h).cut-at

    s-is : tables.middle_at after.tree after.edge after.last ≡ middle_place (tables.end_a t d.edge) (tables.end_b t d.edge) u
    s-is = graft.s-is net g t ready.grounded ready.sound ready.ranked ready.places ready.rows (low net g t m ready h)
        (off net g t m ready).gain (off net g t m ready).edge (off net g t m ready).point (off net g t m ready).cut
        (win net g t m ready h) (room-way net g t m ready h)

    lays-as : {s s2 a a2 : Place} {x : Edge} → s ≡ s2 → a ≡ a2 → Lays s a x → Lays s2 a2 x
    lays-as {s} {s2} {a} {a2} {x} p q l = subst (λ (z : Place). Lays z a2 x) p (subst (λ (z : Place). Lays s z x) q l)

    abbrev best-off : Best
    best-off = off-best net g t m ready h

    to-after : (x : Edge) → x ∈ edges_in (off_next net g t m ready h) → Left after.tree best-off x →
        After G (edges_in t) (tables.end_a t d.edge) (tables.end_b t d.edge) u qs (edge_at t d.cut) x
    to-after x _ (inl (i, (na, nl))) =
        either (λ j. inl (j, ((λ q. na (q ∙ sym edge-is)), (λ q. nl (q ∙ sym cut-is)))))
        (λ s. inr (inr (inr (inr (graph-step x i s))))) ((grows net g t m ready h).edge-known x i)
    to-after x _ (inr (inl l)) = inr (inl (lays-as s-is (firsts edge-is) l))
    to-after x _ (inr (inr (inl l))) = inr (inr (inl (lays-as s-is (seconds edge-is) l)))
    to-after x _ (inr (inr (inr l))) = inr (inr (inr (inl (lays-as s-is (grows net g t m ready h).last-at l))))

    from-after : (x : Edge) → After G (edges_in t) (tables.end_a t d.edge) (tables.end_b t d.edge) u qs (edge_at t d.cut) x →
        Left after.tree best-off x
    from-after x (inl (i, (na, nl))) =
        inl ((grows net g t m ready h).edge-old x i, ((λ q. na (q ∙ edge-is)), (λ q. nl (q ∙ cut-is))))
    from-after x (inr (inl l)) = inr (inl (lays-as (sym s-is) (sym (firsts edge-is)) l))
    from-after x (inr (inr (inl l))) = inr (inr (inl (lays-as (sym s-is) (sym (seconds edge-is)) l)))
    from-after x (inr (inr (inr (inl l)))) = inr (inr (inr (lays-as (sym s-is) (sym (grows net g t m ready h).last-at) l)))
    from-after x (inr (inr (inr (inr s)))) =
        inl (step_in x s, ((λ q. step-new x s d.edge (q ∙ edge-is)), (λ q. step-new x s d.cut (q ∙ cut-is))))

    pub round-off : Gained net G (edges_in t) (edges_in (off_next net g t m ready h)) (off net g t m ready).gain
    round-off =
        let there-is = left-edges net after.tree best-off (grown-few net g t m ready h) (grows net g t m ready h).places
        (grows net g t m ready h).rows (grows net g t m ready h).sound (grows net g t m ready h).ranked
        (graft.taken net g t ready.grounded ready.sound ready.ranked ready.places ready.rows (low net g t m ready h)
        (off net g t m ready).gain (off net g t m ready).edge (off net g t m ready).point (off net g t m ready).cut
        (win net g t m ready h) (room-way net g t m ready h)) in (
          record {
            k = true;
            a = tables.end_a t d.edge;
            b = tables.end_b t d.edge;
            u = u;
            v = joint charts t ready.sound ready.ranked (few charts t m ready) d.point;
            qs = qs;
            l = edge_at t d.cut;
            g = d.gain;
            takes = takes-off charts t m ready h;
            edges = λ x. (λ i. to-after x i ((there-is x).0 i), λ i. (there-is x).1 (from-after x i));
          },
          refl,
        )
