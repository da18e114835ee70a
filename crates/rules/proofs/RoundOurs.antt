-- The exchange of the tables is the round: it takes the candidate that is to be taken, and an edge is there afterwards exactly when
-- `After` says so.
-- Assumes nothing.
use mathlib.Core.Path.{◌≡◌, refl, sym, ap, ap₂, ◌∙◌, subst}
use mathlib.Core.Bool.{Bool, true, false}
use mathlib.Core.Logic.{◌⊎◌, inl, inr, ◌↔◌}
use mathlib.Core.List.Memᴰ
use mathlib.Core.List.{List, [], ◌∷◌}
use Prim.Native.Nat.{ℕ, zero, suc, ◌*◌, ◌≤◌, ◌<◌}
use native.Mathlib.Omega.{arith}
use lib.Dec.{ltb, eqb}
use lib.IntN.{ℤ}
use lib.ListN.{length, get_or}
use borrow.Author.Tests.{ltb-true, ltb-false, eqb-true, eqb-false}
use Rattle.lists.specs.Member.{◌∈◌}
use Rattle.lists.specs.Sorted.{first_then}
use Rattle.lists.proofs.TestLaws.{by, differ, either}
use Rattle.plane.specs.declared.Place.{Place}
use Rattle.plane.specs.Place.{before}
use Rattle.plane.specs.Flat.{place_at}
use Rattle.plane.proofs.PlaceOrder.{place-order}
use Rattle.joined.specs.Joined.{Link}
use Rattle.joined.proofs.JoinedLaws.{firsts, seconds}
use Rattle.net.specs.Net.{Net}
use Rattle.tree.specs.Table.{tree_bound, key, first_end, second_end, Tree, tree, Within}
use Rattle.tree.specs.Sum.{below, sum_over}
use Rattle.tree.specs.Places.{ends_of, edges_of, Ranked, Sound}
use Rattle.tree.proofs.SumLaws.{below-some, one, one_same, one-some, one-not, in_table, of-table}
use Rattle.candidates.specs.declared.Best.{Best}
use Rattle.candidates.specs.Candidate.{found}
use Rattle.exchanges.specs.Exchange.{drop_two, exchange}
use Rattle.refiner.specs.Sentences as tables
use Rattle.beside.specs.Beside.{Ground, labels_in, parents_in, seats_in}
use Rattle.refiner.specs.Ready.{vertex_at, Ready}
use Rattle.exchanges.proofs.ExchangeSums.{between, over-dropped}
use Rattle.exchanges.proofs.WithinLaws.{within-dropped}
use Rattle.exchanges.proofs.AfterLaws as moved
use Rattle.refiner.proofs.TakesLaws.{found-takes}
use Rattle.refiner.proofs.BesideWins.{LeadsOff, search-leads-off}
use Rattle.refiner.proofs.RoundReady.{ready-roomy, el, top, on, off}
use Rattle.rules.specs.Edges.{Edge, edge_before}
use Rattle.rules.specs.Refined.{Gain, on_first, earlier, Lays, Takes}
use Rattle.rules.proofs.GainOurs.{not_after, edges_in, point_at, edge_at, edge_in, edge-of, point-not, edge-not, edge-one, edge-least}
use Rattle.rules.proofs.GainOurs.{gain-to, gain-of}
use Rattle.rules.proofs.ReachOurs.{Charts, vertex-not}
use Rattle.rules.proofs.GainBeside.{joint, laid, off-to, off_of}

-- "An edge is written smaller place first"
pub upward : {net : Net} (t : Tree) → Sound net t → Ranked t.edges.keys t.edges.size →
    (e : Edge) → e ∈ edges_in t → before e.0 e.1 ≡ true
upward t sound ranked e m =
    let r = edge-of t e m in
    let k = tables.key_at t r.0 in
    subst (λ (z : Edge). before z.0 z.1 ≡ true) (sym r.1.1)
    (sound.ordered (first_end k) (second_end k) (ranked.upward r.0 r.1.0) (sound.within.ends r.0).1)

-- The candidate that is taken

-- of the same kind, by edge and then by place
kind-first : (k : Bool) (e f : Edge) (w u : Place) → edge_before e f ≡ false → (edge_before f e ≡ false → before w u ≡ false) →
    earlier (k, (e, w)) (k, (f, u)) ≡ false
unfolding first_then on_first
kind-first true e f w u p q =
    by (edge_before f e) (λ t. rw (first_then, p, t) refl) (λ t. rw (first_then, p, t) (q t))
kind-first false e f w u p q =
    by (edge_before f e) (λ t. rw (first_then, p, t) refl) (λ t. rw (first_then, p, t) (q t))

-- beside the tree comes after
tree-first : (e f : Edge) (w u : Place) → earlier (true, (e, w)) (false, (f, u)) ≡ false
unfolding first_then on_first
tree-first e f w u = refl

module _ {net : Net} {G : List Edge} {g : Ground} (charts : Charts net G g) (t : Tree) (m : ℕ) (ready : Ready net g t (suc m)) where
  abbrev sound : Sound net t
  sound = ready.sound

  abbrev ranked : Ranked t.edges.keys t.edges.size
  ranked = ready.ranked

  pub few : t.count ≤ tree_bound
  few = omega (arith, (ready-roomy net g t m ready).few)

  abbrev pub found-on : Best
  found-on = on net g t m ready

  abbrev pub found-off : Best
  found-off = off net g t m ready

  on-takes : tables.Takes net t found-on
  unfolding found
  on-takes = found-takes net t sound few

  leads : LeadsOff net.weights net.macros t.points t.count t.edges.keys t.edges.size (el net g t m ready)
      (top net g t m ready) g.places g.count (labels_in g t).fars (parents_in g t).ups (seats_in g t) found-on.gain found-off
      t.edges.size 0
  leads =
      search-leads-off net.weights net.macros t.points t.count t.edges.keys t.edges.size (el net g t m ready)
      (top net g t m ready) g.places g.count (labels_in g t).fars (parents_in g t).ups (seats_in g t) found-on.gain found-on refl

  -- no candidate on the tree gains more
  pub on-most : (a b u v : Place) (qs : List Place) (e : Edge) (h : ℕ) → Gain net G (edges_in t) false a b u v qs e h → h ≤ found-on.gain
  on-most a b u v qs e h x =
      let r = gain-of t sound ranked G a b u v qs e h x in on-takes.greatest r.k r.u r.l h r.gains

  pub off-most : (a b u v : Place) (qs : List Place) (e : Edge) (h : ℕ) → Gain net G (edges_in t) true a b u v qs e h → h ≤ found-off.gain
  off-most a b u v qs e h x =
      let r = off_of charts t sound ranked few a b u v qs e h x in
      by (ltb found-on.gain h)
      (λ q.
      (leads.most h r.k r.i r.l (ltb-true _ _ q) r.wins (omega (arith, r.wins.edge))
      (λ z. absurd (let y : ⊥ = omega (arith, z, r.wins.edge) in y))).0)
      (λ q. omega (arith, ltb-false found-on.gain h q, leads.more))

  -- on the tree
  pub takes-on : 0 < found-on.gain → found-off.gain ≤ found-on.gain →
      Takes net G (edges_in t) false (tables.end_a t found-on.edge) (tables.end_b t found-on.edge) (point_at t found-on.point)
      (point_at t found-on.point) [] (edge_at t found-on.cut) found-on.gain
  takes-on above less = record {
    taken = gain-to t sound ranked G found-on.edge found-on.point found-on.cut found-on.gain mine;
    greatest = greatest;
    first = first;
  }
    where
      mine : tables.Gains net t found-on.edge found-on.point found-on.cut found-on.gain
      mine = on-takes.taken above

      greatest : (j : Bool) (c d w x : Place) (rs : List Place) (e : Edge) (h : ℕ) → Gain net G (edges_in t) j c d w x rs e h →
          h ≤ found-on.gain
      greatest false c d w x rs e h y = on-most c d w x rs e h y
      greatest true c d w x rs e h y = omega (arith, off-most c d w x rs e h y, less)

      first : (j : Bool) (c d w x : Place) (rs : List Place) (e : Edge) → Gain net G (edges_in t) j c d w x rs e found-on.gain →
          earlier (j, ((c, d), w)) (false, (edge_at t found-on.edge, point_at t found-on.point)) ≡ false
      first true c d w x rs e y = tree-first (c, d) (edge_at t found-on.edge) w (point_at t found-on.point)
      first false c d w x rs e y =
          let r = gain-of t sound ranked G c d w x rs e found-on.gain y in
          let s = on-takes.smallest r.k r.u r.l found-on.gain r.gains refl in
          kind-first false (c, d) (edge_at t found-on.edge) w (point_at t found-on.point)
          (subst (λ (z : Edge). edge_before z (edge_at t found-on.edge) ≡ false) (sym r.edge)
          (edge-not t sound ranked found-on.edge r.k s.0 r.gains.candidate.edge))
          (λ q.
          subst (λ (z : Place). before z (point_at t found-on.point) ≡ false) (sym r.point)
          (point-not t sound ranked found-on.point r.u
          (s.1 (edge-least t sound ranked r.k found-on.edge r.gains.candidate.edge
          (subst (λ (z : Edge). edge_before (edge_at t found-on.edge) z ≡ false) r.edge q))) r.gains.candidate.point))

  -- beside it
  pub takes-off : found-on.gain < found-off.gain →
      Takes net G (edges_in t) true (tables.end_a t found-off.edge) (tables.end_b t found-off.edge) (vertex_at g found-off.point)
      (joint charts t sound ranked few found-off.point) (laid charts t sound ranked few found-off.point) (edge_at t found-off.cut)
      found-off.gain
  takes-off more = record {
    taken = off-to charts t sound ranked few found-off.gain found-off.edge found-off.point found-off.cut (omega arith)
        (leads.wins more);
    greatest = greatest;
    first = first;
  }
    where
      greatest : (j : Bool) (c d w x : Place) (rs : List Place) (e : Edge) (h : ℕ) → Gain net G (edges_in t) j c d w x rs e h →
          h ≤ found-off.gain
      greatest false c d w x rs e h y = omega (arith, on-most c d w x rs e h y, more)
      greatest true c d w x rs e h y = off-most c d w x rs e h y

      first : (j : Bool) (c d w x : Place) (rs : List Place) (e : Edge) → Gain net G (edges_in t) j c d w x rs e found-off.gain →
          earlier (j, ((c, d), w)) (true, (edge_at t found-off.edge, vertex_at g found-off.point)) ≡ false
      first false c d w x rs e y = absurd (let z : ⊥ = omega (arith, on-most c d w x rs e found-off.gain y, more) in z)
      first true c d w x rs e y =
          let r = off_of charts t sound ranked few c d w x rs e found-off.gain y in
          let s = (leads.most found-off.gain r.k r.i r.l more r.wins (omega (arith, r.wins.edge))
          (λ z. absurd (let y : ⊥ = omega (arith, z, r.wins.edge) in y))).1 refl in
          kind-first true (c, d) (edge_at t found-off.edge) w (vertex_at g found-off.point)
          (subst (λ (z : Edge). edge_before z (edge_at t found-off.edge) ≡ false) (sym r.edge)
          (edge-not t sound ranked found-off.edge r.k s.0 r.wins.edge))
          (λ q.
          subst (λ (z : Place). before z (vertex_at g found-off.point) ≡ false) (sym r.vertex)
          (vertex-not charts t sound found-off.point r.i
          (s.1 (edge-least t sound ranked r.k found-off.edge r.wins.edge
          (subst (λ (z : Edge). edge_before (edge_at t found-off.edge) z ≡ false) r.edge q))) r.wins.vertex))

-- Each key once

below-zero : (f : ℕ → ℕ) (n : ℕ) → ((i : ℕ) → i < n → f i ≡ 0) → below f n ≡ 0
below-zero f n h =
    by (ltb 0 (below f n)) (λ q. absurd (let r = below-some f n (ltb-true 0 _ q) in
    let z : ⊥ = omega (arith, r.1.1, h r.0 r.1.0) in z))
    (λ q. omega (arith, ltb-false 0 (below f n) q))

once-over : (q : ℕ) (ks : List ℕ) (n : ℕ) → ((i j : ℕ) → i < j → j < n → get_or ks i 0 < get_or ks j 0) → sum_over (one q) ks n ≤ 1
unfolding below
once-over q ks zero r = omega arith
once-over q ks (suc n) r =
    by (eqb (get_or ks n 0) q)
    (λ t.
    let e : get_or ks n 0 ≡ q = eqb-true _ _ t in
    let o : one q (get_or ks n 0) ≡ 1 = ap (one q) e ∙ one_same q in
    let z = below-zero (λ i. one q (get_or ks i 0)) n
    (λ i h. one-not q (get_or ks i 0) (λ d. let y : ⊥ = omega (arith, r i n h (omega arith), d, e) in y)) in
    omega (arith, o, z))
    (λ t.
    let o = one-not q (get_or ks n 0) (eqb-false _ _ t) in
    omega (arith, o, once-over q ks n (λ i j h l. r i j h (omega arith))))

-- The edges afterwards

module _ {pts : List ℤ} {n : ℕ} {ks : List ℕ} {e k l a b u p : ℕ} {s : Place} {m : ℕ → ℕ} {t : Tree}
    (after : moved.After pts n ks e k l a b u p s m t) (w : Within n ks) (hk : k < suc (suc e)) (hl : l < suc (suc e)) (kl : k ≡ l → ⊥)
    (ha : a < n) (hb : b < n) (hu : u < n)
    (rising : (i j : ℕ) → i < j → j < suc (suc e) → get_or ks i 0 < get_or ks j 0)
    (one_key : (i j : ℕ) → i < suc (suc e) → j < suc (suc e) → ends_of pts (get_or ks i 0) ≡ ends_of pts (get_or ks j 0) → i ≡ j)
    (up : (x : Edge) → x ∈ edges_in t → before x.0 x.1 ≡ true) where
  abbrev T : List Edge
  T = edges_of pts ks (suc (suc e))

  abbrev pub Outcome : Edge → Type 0
  Outcome x =
      ((x ∈ T) × ((x ≡ ends_of pts (get_or ks k 0) → ⊥) × (x ≡ ends_of pts (get_or ks l 0) → ⊥))) ⊎
      (Lays s (place_at pts a) x ⊎ (Lays s (place_at pts b) x ⊎ Lays s (place_at pts u) x))

  -- s and a point to which an edge is laid
  laid-link : (x : ℕ) → x < n → ((g : ℕ → ℕ) → between g p (m x) ≤ sum_over g t.edges.keys t.edges.size) →
      (s ≡ place_at pts x) ⊎ Link (edges_in t) s (place_at pts x)
  laid-link x h part =
      by (ltb p (m x))
      (λ q.
      let j = key p (m x) in
      let v : between (one j) p (m x) ≡ one j j = moved.between-less (one j) p (m x) q in
      inr (inl (moved.there-is after w hk hl kl ha hb hu j s (place_at pts x) (omega (arith, part (one j), v, one_same j))
      (moved.ends after w hk hl kl ha hb hu p (m x) s (place_at pts x) (after.low x h) after.new (after.old x h)))))
      (λ q.
      by (ltb (m x) p)
      (λ r.
      let j = key (m x) p in
      let v : between (one j) p (m x) ≡ one j j = moved.between_more (one j) p (m x) q r in
      inr (inr (moved.there-is after w hk hl kl ha hb hu j (place_at pts x) s (omega (arith, part (one j), v, one_same j))
      (moved.ends after w hk hl kl ha hb hu (m x) p (place_at pts x) s after.lowest (after.old x h) after.new))))
      (λ r.
      let v : p ≡ m x = omega (arith, ltb-false p (m x) q, ltb-false (m x) p r) in
      inl (sym after.new ∙ ap (place_at t.points) v ∙ after.old x h)))

  -- the edge of s and such a point, smaller place first, is there
  lays-in : (x : Place) (y : Edge) → (s ≡ x) ⊎ Link (edges_in t) s x → Lays s x y → y ∈ edges_in t
  lays-in x y (inl q) h =
      let z : y.0 ≡ y.1 = either (λ v. v.0 ∙ q ∙ sym v.1) (λ v. v.0 ∙ sym q ∙ sym v.1) h.1 in
      differ h.0 (ap (before y.0) (sym z) ∙ place-order.never y.0)
  lays-in x y (inr (inl i)) (f, inl v) = Memᴰ.cast (ap₂ (λ (c d : Place). (c, d)) v.0 v.1) i
  lays-in x y (inr (inl i)) (f, inr v) =
      differ (ap₂ before (sym v.0) (sym v.1) ∙ f) (not_after place-order s x (up (s, x) i))
  lays-in x y (inr (inr i)) (f, inl v) =
      differ (ap₂ before (sym v.0) (sym v.1) ∙ f) (not_after place-order x s (up (x, s) i))
  lays-in x y (inr (inr i)) (f, inr v) = Memᴰ.cast (ap₂ (λ (c d : Place). (c, d)) v.0 v.1) i

  pub in_after : (x : Edge) → Outcome x → x ∈ edges_in t
  in_after x (inl h) =
      either (λ q. absurd (h.1.0 q)) (either (λ q. absurd (h.1.1 q)) (λ q. q))
      (moved.sorted after w hk hl kl ha hb hu x.0 x.1 h.0)
  in_after x (inr (inl h)) = lays-in (place_at pts a) x (laid-link a ha (λ g. omega (arith, after.sums g))) h
  in_after x (inr (inr (inl h))) = lays-in (place_at pts b) x (laid-link b hb (λ g. omega (arith, after.sums g))) h
  in_after x (inr (inr (inr h))) = lays-in (place_at pts u) x (laid-link u hu (λ g. omega (arith, after.sums g))) h

  -- an edge that was left is neither k nor l
  other_key : (q i : ℕ) → (i ≡ k) ⊎ (i ≡ l) → q ≡ get_or ks i 0 → 0 < sum_over (one q) (drop_two e k l ks) e → ⊥
  other_key q i which f some =
      let d = over-dropped (one q) e k l ks hk hl kl in
      let most = once-over q ks (suc (suc e)) rising in
      either
      (λ v. let y : one q (get_or ks k 0) ≡ 1 = ap (λ (j : ℕ). one q (get_or ks j 0)) (sym v) ∙ ap (one q) (sym f) ∙ one_same q in
      let z : ⊥ = omega (arith, d, most, y, some) in z)
      (λ v. let y : one q (get_or ks l 0) ≡ 1 = ap (λ (j : ℕ). one q (get_or ks j 0)) (sym v) ∙ ap (one q) (sym f) ∙ one_same q in
      let z : ⊥ = omega (arith, d, most, y, some) in z)
      which

  from-left : (j : ℕ) → 0 < sum_over (λ q. one j (moved.moved after w hk hl kl ha hb hu q)) (drop_two e k l ks) e →
      Outcome (ends_of t.points j)
  from-left j some =
      let r = below-some _ e some in
      let q = get_or (drop_two e k l ks) r.0 0 in
      let left = of-table (drop_two e k l ks) e r.0 r.1.0 in
      let d = over-dropped (one q) e k l ks hk hl kl in
      let o = in_table q ks (suc (suc e)) (omega (arith, d, left)) in
      let is : ends_of t.points j ≡ ends_of pts (get_or ks o.0 0)
      = ap (ends_of t.points) (sym (one-some j (moved.moved after w hk hl kl ha hb hu q) r.1.1))
      ∙ moved.moved_ends after w hk hl kl ha hb hu q ((within-dropped n e k l ks w).ends r.0)
      ∙ ap (ends_of pts) (sym o.1.1) in
      inl (
        Memᴰ.cast is (edge_in (tree pts n ks (suc (suc e))) o.0 o.1.0),
        (
          λ v. other_key q o.0 (inl (one_key o.0 k o.1.0 hk (sym is ∙ v))) (sym o.1.1) left,
          λ v. other_key q o.0 (inr (one_key o.0 l o.1.0 hl (sym is ∙ v))) (sym o.1.1) left,
        ),
      )

  from-s : (j x : ℕ) → before (ends_of t.points j).0 (ends_of t.points j).1 ≡ true → x < n → 0 < between (one j) p (m x) →
      Lays s (place_at pts x) (ends_of t.points j)
  from-s j x f h some = (
    f,
    either
        (λ q. inl (of (ap (ends_of t.points) (sym (one-some j (key p (m x)) q)) ∙ moved.ends after w hk hl kl ha hb hu p (m x) s
        (place_at pts x)
        (after.low x h) after.new (after.old x h))))
        (λ q. inr (of (ap (ends_of t.points) (sym (one-some j (key (m x) p) q)) ∙ moved.ends after w hk hl kl ha hb hu (m x) p
        (place_at pts x) s
        after.lowest (after.old x h) after.new)))
        (moved.between-some (one j) p (m x) some),
  )
    where
      of : {y z : Place} → ends_of t.points j ≡ (y, z) → ((ends_of t.points j).0 ≡ y) × ((ends_of t.points j).1 ≡ z)
      of q = (firsts q, seconds q)

  at_key : (i : ℕ) → i < t.edges.size → Outcome (edge_at t i)
  at_key i h =
      let j = get_or t.edges.keys i 0 in
      let f = up (edge_at t i) (edge_in t i h) in
      let all = after.sums (one j) in
      let some = of-table t.edges.keys t.edges.size i h in
      by (ltb 0 (between (one j) p (m u))) (λ q. inr (inr (inr (from-s j u f hu (ltb-true _ _ q))))) λ q.
      by (ltb 0 (between (one j) p (m b))) (λ v. inr (inr (inl (from-s j b f hb (ltb-true _ _ v))))) λ v.
      by (ltb 0 (between (one j) p (m a))) (λ z. inr (inl (from-s j a f ha (ltb-true _ _ z)))) λ z.
      from-left j (omega (
        arith,
        all,
        some,
        ltb-false 0 (between (one j) p (m u)) q,
        ltb-false 0 (between (one j) p (m b)) v,
        ltb-false 0 (between (one j) p (m a)) z,
      ))

  pub of-after : (x : Edge) → x ∈ edges_in t → Outcome x
  of-after x i = let r = edge-of t x i in subst Outcome (sym r.1.1) (at_key r.0 r.1.0)
