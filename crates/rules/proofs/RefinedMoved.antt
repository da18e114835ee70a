-- The refined tree moves with the net, and so do the trees all together.
-- Assumes nothing.
use mathlib.Core.Path.{◌≡◌, refl, sym, ap, ap₂, ◌∙◌, subst}
use mathlib.Core.Bool.{Bool, true, false}
use mathlib.Core.Logic.{◌⊎◌, inl, inr}
use mathlib.Core.List.Memᴰ
use mathlib.Core.List.{List, [], ◌∷◌, map}
use Prim.Native.Nat.{ℕ, zero, suc, ◌+◌}
use native.Mathlib.Omega.{arith}
use lib.ListN.{length}
use Rattle.lists.specs.Member.{◌∈◌, here, there}
use Rattle.lists.specs.Sorted.{first_then}
use Rattle.lists.proofs.TestLaws.{either}
use Rattle.lists.proofs.MapLaws.{in_map, of_map, map-once, map-undone}
use Rattle.plane.specs.declared.Place.{Place}
use Rattle.plane.specs.Place.{before}
use Rattle.plane.specs.Middle.{middle_place}
use Rattle.net.specs.Net.{Net, cost_in}
use Rattle.joined.specs.Way.{Way, long, On}
use Rattle.joined.specs.Exchange.{Toward, steps}
use Rattle.joined.specs.OneTree.{Point}
use Rattle.joined.proofs.CarriedLaws.{alike-carried, on-carried, way-carried}
use Rattle.rules.specs.Edges.{Edge, edge_before, edge_cost, Same}
use Rattle.rules.specs.Terminal.{Path}
use Rattle.rules.specs.Refined.{OnSome, Union, Shortest, Lowest, Beside, Reach, Step, Cut, Gain, on_first, earlier, Lays, After}
use Rattle.rules.specs.Refined.{Round, Rounds}
use Rattle.rules.specs.Refined.{EndOf, Loose, Strips, same, strip, Refines, Refined}
use Rattle.rules.specs.Trees.{Trees}
use Rattle.rules.specs.Moved.{moved_edge, moved_path}
use Rattle.rules.proofs.TreesMoved.{Moves, Moved, turned_back, choose, ascending-there, only, across, edge-back, edge-only}
use Rattle.rules.proofs.TreesMoved.{edges-there}
use Rattle.rules.proofs.TreesMoved.{before-to, moved-map, in_moved, long-there, long-to, way-there, way_back, spanning-there}
use Rattle.rules.proofs.TreesMoved.{terminal-there}

-- Steps

steps-there : (f : Place → Place) (x : Place) (qs : List Place) (e : Edge) → e ∈ steps x qs → moved_edge f e ∈ steps (f x) (map f qs)
unfolding steps
steps-there f x [] e i = elim i [ ]
steps-there f x (y ∷ qs) e i =
    either (λ q. here (ap (moved_edge f) q)) (λ j. there (steps-there f y qs e j)) (Memᴰ.cases_cons i)

module _ {f h : Place → Place} {net other : Net} (m : Moves f h net other) where
  map_back : (qs : List Place) → map h (map f qs) ≡ qs
  map_back qs = map-undone f h qs (λ x i. m.to.undone x)

  edge-cost : (e : Edge) → edge_cost other (moved_edge f e) ≡ edge_cost net e
  edge-cost e = m.to.costs e.0 e.1

  -- the start

  some-there : {ks : List Path} {e : Edge} → OnSome ks e → OnSome (map (moved_path f) ks) (moved_edge f e)
  some-there {e = e} s = record {
    smaller = m.to.order e.0 e.1 ∙ s.smaller;
    path = moved_path f s.path;
    among = in_map (moved_path f) s.among;
    on = on-carried f e.0 e.1 s.path.start s.path.points s.on;
  }

  some_back : {ks : List Path} {e : Edge} → OnSome (map (moved_path f) ks) e → OnSome ks (moved_edge h e)
  some_back {ks} {e} s =
      let r = of_map (moved_path f) ks s.among in
      let p = r.entry in
      let o : On e.0 e.1 (f p.start) (map f p.points) =
      subst (λ (k : Path). On e.0 e.1 k.start k.points) r.is s.on in
      record {
        smaller = m.back.order e.0 e.1 ∙ s.smaller;
        path = p;
        among = r.stands;
        on =
            subst (λ (z : Place). On (h e.0) (h e.1) z p.points) (m.to.undone p.start)
            (subst (On (h e.0) (h e.1) (h (f p.start))) (map_back p.points)
            (on-carried h e.0 e.1 (f p.start) (map f p.points) o));
      }

  union-there : {ks : List Path} {T : List Edge} → Union ks T → Union (map (moved_path f) ks) (map (moved_edge f) T)
  union-there {ks} {T} u e = (
    λ i.
        let r = of_map (moved_edge f) T i in
        subst (OnSome (map (moved_path f) ks)) (sym r.is) (some-there ((u r.entry).0 r.stands)),
    λ s. in_moved m T e ((u (moved_edge h e)).1 (some_back s)),
  )

  -- points, ways and steps

  module _ {T U : List Edge} (k : Moved f h T U) where
    point-there : (v : Place) → Point net.pins T v → Point other.pins U (f v)
    point-there v (inl i) = inl (m.to.pin v i)
    point-there v (inr (z, inl i)) = inr (f z, inl (k.0 (v, z) i))
    point-there v (inr (z, inr i)) = inr (f z, inr (k.0 (z, v) i))

    abbrev toward-there : {u a b : Place} → Toward T u a b → Toward U (f u) (f a) (f b)
    toward-there {u} w = record {
      near = f w.near;
      far = f w.far;
      ends = alike-carried f w.ends;
      free = record {
        points = map f w.free.points;
        way = way-there m k w.free.way;
        once = map-once f (u ∷ w.free.points) (λ x y i j e. only m x y e) w.free.once;
      };
      short = λ i. let s = of_map f (u ∷ w.free.points) i in w.short (Memᴰ.cast (only m _ _ s.is) s.stands);
    }

    step-there : {x : Place} {rs : List Place} {e : Edge} → Step T x rs e → Step U (f x) (map f rs) (moved_edge f e)
    step-there {x} {rs} {e} s = record {
      edge = k.0 e s.edge;
      one = f s.one;
      other = f s.other;
      on = steps-there f x rs (s.one, s.other) s.on;
      ends = alike-carried f s.ends;
    }

module _ {f h : Place → Place} {net other : Net} (m : Moves f h net other) {T U : List Edge} (k : Moved f h T U) where
  step_back : {x : Place} {rs : List Place} {e : Edge} → Step U (f x) (map f rs) e → Step T x rs (moved_edge h e)
  step_back {x} {rs} {e} s =
      subst (λ (z : Place). Step T z rs (moved_edge h e)) (m.to.undone x)
      (subst (λ (l : List Place). Step T (h (f x)) l (moved_edge h e)) (map_back m rs) (step-there (turned_back m) (k.1, k.0) s))

  cut-there : {a b u : Place} {l : Edge} → Cut net T a b u l → Cut other U (f a) (f b) (f u) (moved_edge f l)
  cut-there {l = l} c = record {
    way = toward-there m k c.way;
    longest = record {
      step = step-there m k c.longest.step;
      longest = λ e s. omega (arith, c.longest.longest (moved_edge h e) (step_back s), edge-cost m l, edge-cost (turned_back m) e);
      smallest =
          λ e s q.
          ap (λ (z : Edge). edge_before z (moved_edge f l)) (sym (edge-back m e)) ∙ edges-there m (moved_edge h e) l
          ∙ c.longest.smallest (moved_edge h e) (step_back s) (edge-cost (turned_back m) e ∙ q ∙ edge-cost m l);
    };
  }

  point-back : (v : Place) → Point other.pins U (f v) → Point net.pins T v
  point-back v p = subst (Point net.pins T) (m.to.undone v) (point-there (turned_back m) (k.1, k.0) (f v) p)

-- Beside the tree

module _ {f h : Place → Place} {net other : Net} (m : Moves f h net other) {G H : List Edge} (g : Moved f h G H) where
  shortest-back : {x v : Place} {rs : List Place} → Shortest other H (f x) rs (f v) → Shortest net G x (map h rs) v
  shortest-back {x} {v} {rs} s = (
    subst (Way G x (map h rs)) (m.to.undone v) (way_back m g s.0),
    λ qs w. omega (arith, s.1 (map f qs) (way-there m g w), long-there m x qs, long-to m x rs),
  )

  lowest-there : (x : Place) (qs : List Place) (v : Place) → Lowest net G x qs v → Lowest other H (f x) (map f qs) (f v)
  lowest-there x [] v l = l
  lowest-there x (y ∷ qs) v l = (
    λ z rs s. before-to m z y ∙ l.0 (h z) (map h rs) (shortest-back s),
    lowest-there y qs v l.1,
  )

  module _ {T U : List Edge} (k : Moved f h T U) where
    beside-there : {u v : Place} {qs : List Place} → Beside net G T u v qs → Beside other H U (f u) (f v) (map f qs)
    beside-there {u} {v} {qs} b = record {
      vertex = m.to.vertex u b.vertex;
      off = λ p. b.off (point-back m k u p);
      point = point-there m k v b.point;
      itself = m.to.vertex v b.itself;
      way = way-there m g b.way;
      nearest =
          λ w rs p i x.
          omega (
            arith,
            b.nearest (h w) (map h rs) (point-there (turned_back m) (k.1, k.0) w p) (m.back.vertex w i) (way_back m g x),
            long-there m u qs,
            long-to m u rs,
          );
      smallest =
          λ w rs p i x e.
          before-to m w v
          ∙ b.smallest (h w) (map h rs) (point-there (turned_back m) (k.1, k.0) w p) (m.back.vertex w i) (way_back m g x)
          (sym (long-to m u rs) ∙ e ∙ long-there m u qs);
      lowest = lowest-there u qs v b.lowest;
    }

    reach-there : {j : Bool} {u v : Place} {qs : List Place} → Reach net G T j u v qs → Reach other H U j (f u) (f v) (map f qs)
    reach-there {u = u} (inl (e, (p, (q, r)))) = inl (e, (point-there m k u p, (ap f q, ap (map f) r)))
    reach-there (inr (e, b)) = inr (e, beside-there b)

    -- a candidate is one, moved, with the same gain
    gain-there : (j : Bool) (a b u v : Place) (qs : List Place) (l : Edge) (n : ℕ) → Gain net G T j a b u v qs l n →
        Gain other H U j (f a) (f b) (f u) (f v) (map f qs) (moved_edge f l) n
    gain-there j a b u v qs l n x =
        let c = x.candidate in
        record {
          candidate = record {
            edge = k.0 (a, b) c.edge;
            reach = reach-there c.reach;
            not_first = λ q. c.not_first (only m v a q);
            not_second = λ q. c.not_second (only m v b q);
            seen = either (λ q. inl (m.to.clears u a ∙ q)) (λ q. inr (m.to.clears u b ∙ q)) c.seen;
            kept =
                λ w p na nb nu q.
                c.kept (h w) (point-there (turned_back m) (k.1, k.0) w p) (λ e. na (across m a w e)) (λ e. nb (across m b w e))
                (λ e. nu (across m u w e)) (sym (m.to.undone _) ∙ ap h (sym (m.to.middle a b u) ∙ q));
            away =
                λ w i q.
                let s = of_map f qs i in
                c.away s.entry s.stands (only m _ _ (sym (m.to.middle a b u) ∙ q ∙ s.is));
          };
          cut = cut-there m k x.cut;
          gain =
              let p : cost_in other (middle_place (f a) (f b) (f u)) (f u) ≡ cost_in net (middle_place a b u) u
              = ap (λ (z : Place). cost_in other z (f u)) (m.to.middle a b u) ∙ m.to.costs (middle_place a b u) u in
              omega (arith, p, x.gain, edge-cost m l, long-there m u qs);
          above = x.above;
        }

-- Rounds

module _ {f h : Place → Place} {net other : Net} (m : Moves f h net other) where
  earlier-there : (j k : Bool) (d e : Edge) (w u : Place) →
      earlier (j, (moved_edge f d, f w)) (k, (moved_edge f e, f u)) ≡ earlier (j, (d, w)) (k, (e, u))
  unfolding first_then choose
  earlier-there j k d e w u =
      ap (choose (on_first j k) (on_first k j))
      (ap₂ (λ (x y : Bool). choose x y (before (f w) (f u))) (edges-there m d e) (edges-there m e d)
      ∙ ap (choose (edge_before d e) (edge_before e d)) (m.to.order w u))

  lays-there : (s x : Place) (e : Edge) → Lays s x e → Lays (f s) (f x) (moved_edge f e)
  lays-there s x e l = (m.to.order e.0 e.1 ∙ l.0, alike-carried f l.1)

  module _ {G H T U : List Edge} (g : Moved f h G H) (k : Moved f h T U) where
    after-there : (a b u : Place) (qs : List Place) (l e : Edge) → After G T a b u qs l e →
        After H U (f a) (f b) (f u) (map f qs) (moved_edge f l) (moved_edge f e)
    after-there a b u qs l e (inl i) = inl (k.0 e i.0, (λ q. i.1.0 (edge-only m e (a, b) q), λ q. i.1.1 (edge-only m e l q)))
    after-there a b u qs l e (inr i) =
        inr (subst (λ (z : Place). Lays z (f a) (moved_edge f e) ⊎ (Lays z (f b) (moved_edge f e) ⊎ (Lays z (f u) (moved_edge f e)
        ⊎ Step H (f u) (map f qs) (moved_edge f e)))) (sym (m.to.middle a b u))
        (either (λ q. inl (lays-there _ a e q)) (λ r. inr (either (λ q. inl (lays-there _ b e q))
        (λ t. inr (either (λ q. inl (lays-there _ u e q)) (λ s. inr (step-there m g s)) t)) r)) i))

module _ {f h : Place → Place} {net other : Net} (m : Moves f h net other) {G H : List Edge} (g : Moved f h G H) where
  after-back : {T U : List Edge} → Moved f h T U → (a b u : Place) (qs : List Place) (l e : Edge) →
      After H U (f a) (f b) (f u) (map f qs) (moved_edge f l) e → After G T a b u qs l (moved_edge h e)
  after-back {T} k a b u qs l e i =
      subst (λ (z : Place). After G T z b u qs l (moved_edge h e)) (m.to.undone a)
      (subst (λ (z : Place). After G T (h (f a)) z u qs l (moved_edge h e)) (m.to.undone b)
      (subst (λ (z : Place). After G T (h (f a)) (h (f b)) z qs l (moved_edge h e)) (m.to.undone u)
      (subst (λ (z : List Place). After G T (h (f a)) (h (f b)) (h (f u)) z l (moved_edge h e)) (map_back m qs)
      (subst (λ (z : Edge). After G T (h (f a)) (h (f b)) (h (f u)) (map h (map f qs)) z (moved_edge h e)) (edge-back (turned_back m) l)
      (after-there (turned_back m) (g.1, g.0) (k.1, k.0) (f a) (f b) (f u) (map f qs) (moved_edge f l) e i)))))

  gain-back : {T U : List Edge} → Moved f h T U → (j : Bool) (a b u v : Place) (qs : List Place) (l : Edge) (n : ℕ) →
      Gain other H U j a b u v qs l n → Gain net G T j (h a) (h b) (h u) (h v) (map h qs) (moved_edge h l) n
  gain-back k j a b u v qs l n x = gain-there (turned_back m) (g.1, g.0) (k.1, k.0) j a b u v qs l n x

  round-there : {T U X : List Edge} → Moved f h T U → Round net G T X → Round other H U (map (moved_edge f) X)
  round-there {T} {U} {X} k r = record {
    k = r.k;
    a = f r.a;
    b = f r.b;
    u = f r.u;
    v = f r.v;
    qs = map f r.qs;
    l = moved_edge f r.l;
    g = r.g;
    takes = record {
      taken = gain-there m g k r.k r.a r.b r.u r.v r.qs r.l r.g r.takes.taken;
      greatest =
          λ j c d w y rs e n x.
          r.takes.greatest j (h c) (h d) (h w) (h y) (map h rs) (moved_edge h e) n (gain-back k j c d w y rs e n x);
      first =
          λ j c d w y rs e x.
          ap₂ (λ (z : Edge) (t : Place). earlier (j, (z, t)) (r.k, ((f r.a, f r.b), f r.u))) (sym (edge-back m (c, d)))
          (sym (m.back.undone w))
          ∙ earlier-there m j r.k (h c, h d) (r.a, r.b) (h w) r.u
          ∙ r.takes.first j (h c) (h d) (h w) (h y) (map h rs) (moved_edge h e) (gain-back k j c d w y rs e r.g x);
    };
    edges = λ e. (to e, λ i. in_moved m X e ((r.edges (moved_edge h e)).1 (after-back k r.a r.b r.u r.qs r.l e i)));
  }
    where
      to : (e : Edge) → e ∈ map (moved_edge f) X → After H U (f r.a) (f r.b) (f r.u) (map f r.qs) (moved_edge f r.l) e
      to e i =
          let s = of_map (moved_edge f) X i in
          subst (After H U (f r.a) (f r.b) (f r.u) (map f r.qs) (moved_edge f r.l)) (sym s.is)
          (after-there m g k r.a r.b r.u r.qs r.l s.entry ((r.edges s.entry).0 s.stands))

  same-there : {T U X : List Edge} → Moved f h T U → Same T X → Same U (map (moved_edge f) X)
  same-there {T} {U} {X} k s = (
    λ e i. in_moved m X e (s.0 (moved_edge h e) (k.1 e i)),
    λ e i. let r = of_map (moved_edge f) X i in Memᴰ.cast r.is (k.0 r.entry (s.1 r.entry r.stands)),
  )

  rounds-there : (n : ℕ) (T U R : List Edge) → Moved f h T U → Rounds net G n T R → Rounds other H n U (map (moved_edge f) R)
  rounds-there zero T U R k r = same-there k r
  rounds-there (suc n) T U R k (inl r) =
      inl (
        λ j a b u v qs l d x. r.0 j (h a) (h b) (h u) (h v) (map h qs) (moved_edge h l) d (gain-back k j a b u v qs l d x),
        same-there k r.1,
      )
  rounds-there (suc n) T U R k (inr (X, (r, more))) =
      inr (map (moved_edge f) X, (round-there k r, rounds-there n X (map (moved_edge f) X) R (moved-map m X) more))

-- Pruning

module _ {f h : Place → Place} {net other : Net} (m : Moves f h net other) where
  end-there : (v : Place) (e : Edge) → EndOf v e → EndOf (f v) (moved_edge f e)
  end-there v e (inl q) = inl (ap f q)
  end-there v e (inr q) = inr (ap f q)

module _ {f h : Place → Place} {net other : Net} (m : Moves f h net other) where
  loose-there : {T U : List Edge} → Moved f h T U → (v : Place) (e : Edge) → Loose net T v e → Loose other U (f v) (moved_edge f e)
  loose-there k v e l = record {
    free = λ i. l.free (Memᴰ.cast (sym (m.to.undone v)) (m.back.pin (f v) i));
    edge = k.0 e l.edge;
    end = end-there m v e l.end;
    single =
        λ d i q.
        sym (edge-back m d)
        ∙ ap (moved_edge f) (l.single (moved_edge h d) (k.1 d i)
        (subst (λ (z : Place). EndOf z (moved_edge h d)) (m.to.undone v) (end-there (turned_back m) (f v) d q)));
  }

  strips-there : {T U R : List Edge} → Moved f h T U → Strips net T R → Strips other U (map (moved_edge f) R)
  strips-there {T} {U} {R} k (same s) = same (same-there m (moved-map m T) k s)
  strips-there {U = U} k (strip {U = X} v e l s more) =
      strip (f v) (moved_edge f e) (loose-there k v e l) (λ d. (to d, from d)) (strips-there (moved-map m X) more)
    where
      to : (d : Edge) → d ∈ map (moved_edge f) X → (d ∈ U) × (d ≡ moved_edge f e → ⊥)
      to d i =
          let r = of_map (moved_edge f) X i in
          let p = (s r.entry).0 r.stands in
          (Memᴰ.cast r.is (k.0 r.entry p.0), λ q. p.1 (edge-only m r.entry e (sym r.is ∙ q)))

      from : (d : Edge) → (d ∈ U) × (d ≡ moved_edge f e → ⊥) → d ∈ map (moved_edge f) X
      from d p =
          in_moved m X d ((s (moved_edge h d)).1 (k.1 d p.0, λ q. p.1 (sym (edge-back m d) ∙ ap (moved_edge f) q)))

module _ {f h : Place → Place} {net other : Net} (m : Moves f h net other) where
  refines-there : {G H T U R : List Edge} → Moved f h G H → Moved f h T U → Refines net G T R → Refines other H U (map (moved_edge f) R)
  refines-there {G} {H} {T} {U} {R} g k r = record {
    rounded = map (moved_edge f) r.rounded;
    rounds =
        subst (λ (n : ℕ). Rounds other H n U (map (moved_edge f) r.rounded)) m.count
        (rounds-there m g (length net.pins) T U r.rounded k r.rounds);
    prunes = record {
      strips = strips-there m (moved-map m r.rounded) r.prunes.strips;
      none =
          λ v e l.
          r.prunes.none (h v) (moved_edge h e) (loose-there (turned_back m) ((moved-map m R).1, (moved-map m R).0) v e l);
    };
  }

  pub refined-there : {G : List Edge} {ks : List Path} {rs : List Edge} → Refined net G ks rs →
      Refined other (map (moved_edge f) G) (map (moved_path f) ks) (map (moved_edge f) rs)
  refined-there {G} {ks} {rs} r = record {
    start = map (moved_edge f) r.start;
    union = union-there m r.union;
    refines = refines-there (moved-map m G) (moved-map m r.start) r.refines;
    in_order = ascending-there (moved_edge f) edge_before edge_before (edges-there m) rs r.in_order;
  }

  -- all of it
  pub trees-there : {vs : List Place} {es rs : List Edge} {ks : List Path} → Trees net vs es ks rs →
      Trees other (map f vs) (map (moved_edge f) es) (map (moved_path f) ks) (map (moved_edge f) rs)
  trees-there {es = es} t = record {
    spanning = spanning-there m t.spanning;
    terminal = terminal-there m (moved-map m es) t.terminal;
    refined = refined-there t.refined;
  }
