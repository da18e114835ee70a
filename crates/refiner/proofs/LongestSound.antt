-- The table of longest edges says what it should: for every two points that are reached there is a loop-free way whose longest edge, the
-- smaller on a tie, is the entry. A point v that is hung on p by an edge goes to w by that edge and p's way; and back.
-- Assumes nothing.
use mathlib.Core.Path.{◌≡◌, refl, sym, ap, ap₂, ◌∙◌, subst}
use mathlib.Core.Bool.{true}
use mathlib.Core.Logic.{◌⊎◌, inl, inr}
use mathlib.Core.List.Memᴰ
use mathlib.Core.List.{List, [], ◌∷◌, ◌++◌}
use Prim.Native.Nat.{ℕ, ◌≤◌, ◌<◌}
use native.Mathlib.Omega.{arith}
use lib.Dec.{eqb}
use lib.IntN.{ℤ}
use lib.ListN.{length, get_or, set, length-set}
use borrow.Author.Tests.{eqb-true, eqb-false}
use Rattle.lists.specs.Member.{◌∈◌, here, there, Once}
use Rattle.lists.proofs.TestLaws.{by, either}
use Rattle.lists.proofs.MemberLaws.{once-end}
use Rattle.plane.specs.declared.Place.{Place}
use Rattle.plane.specs.Flat.{place_at}
use Rattle.plane.specs.Rank.{InOrder}
use Rattle.joined.specs.Joined.{Link, Alike}
use Rattle.joined.specs.Way.{Way, stop, go}
use Rattle.joined.specs.Exchange.{steps}
use Rattle.joined.proofs.JoinedLaws.{firsts, seconds}
use Rattle.joined.proofs.OtherLaws.{alike-trans}
use Rattle.tree.specs.Table.{tree_bound, pair_bound, key, first_end, second_end}
use Rattle.longest.specs.Longest.{wins, longer, no_edge, spreads, Reach, reach}
use Rattle.tree.specs.Places.{ends_of, edges_of}
use Rattle.longest.proofs.LongestLaws.{longer-yes, longer-no}
use Rattle.longest.proofs.WinsLaws.{Under, wins-under, under-trans, longer-first, longer-second}
use Rattle.longest.proofs.ReadingLaws.{untouched, spreads-length, spreads-row, spreads-column, spreads-self}
use Rattle.tree.proofs.SumLaws.{other, here as put-here}
use Rattle.tree.proofs.ListingLaws.{in-listing}
use Rattle.exchanges.proofs.PruneSound.{order_same}

-- a way with one step more at its end
way_end : {T : List (Place × Place)} {x y z : Place} {ps : List Place} → Way T x ps y → Link T y z → Way T x (ps ++ (z ∷ [])) z
way_end (stop e) l = rw e (go l (stop refl))
way_end (go k w) l = go k (way_end w l)

steps-end : {T : List (Place × Place)} {x y : Place} {ps : List Place} (z c d : Place) → Way T x ps y → (c, d) ∈ steps x (ps ++ (z ∷ [])) →
    ((c, d) ∈ steps x ps) ⊎ ((c ≡ y) × (d ≡ z))
unfolding steps
steps-end z c d (stop e) m = either (λ q. inr (firsts q ∙ e, seconds q)) (λ i. elim i [ ]) (Memᴰ.cases_cons m)
steps-end z c d (go k w) m =
    either (λ q. inl (here q)) (λ i. either (λ j. inl (there j)) inr (steps-end z c d w i)) (Memᴰ.cases_cons m)

pub steps-old : (x z c d : Place) (ps : List Place) → (c, d) ∈ steps x ps → (c, d) ∈ steps x (ps ++ (z ∷ []))
unfolding steps
steps-old x z c d [] m = elim m [ ]
steps-old x z c d (y ∷ ps) m = either here (λ i. there (steps-old y z c d ps i)) (Memᴰ.cases_cons m)

steps-last : {T : List (Place × Place)} {x y : Place} {ps : List Place} (z : Place) → Way T x ps y → (y, z) ∈ steps x (ps ++ (z ∷ []))
unfolding steps
steps-last z (stop e) = here (ap (λ (q : Place). (q, z)) (sym e))
steps-last z (go k w) = there (steps-last z w)

module _ (pts : List ℤ) (n : ℕ) (ks : List ℕ) (e : ℕ) (el : List ℕ) where
  abbrev pub T : List (Place × Place)
  T = edges_of pts ks e

  abbrev pub Ends : ℕ → Place → Place → Type 0
  Ends j c d = Alike c d (place_at pts (first_end (get_or ks j 0))) (place_at pts (second_end (get_or ks j 0)))

  -- x is the longest edge of the way from a through ps, the smallest on a tie; of no step there is none
  pub record Top (x : ℕ) (a : Place) (ps : List Place) : Type 0 where
    pub is : ((ps ≡ []) × (x ≡ no_edge)) ⊎ ((x < e) × ((c : Place) × ((d : Place) × (((c, d) ∈ steps a ps) × Ends x c d))))
    pub best : (j : ℕ) → j < e → (c d : Place) → (c, d) ∈ steps a ps → Ends j c d → Under el j x

  abbrev pub Seen : List ℕ → ℕ → Type 0
  Seen s i = (i < n) × (get_or s i 0 ≡ 1)

  pub record Known (r : Reach) (v w : ℕ) : Type 0 where
    pub points : List Place
    pub way : Way T (place_at pts v) points (place_at pts w)
    pub once : Once (place_at pts v ∷ points)
    pub seen : (z : Place) → z ∈ (place_at pts v ∷ points) → (i : ℕ) × (Seen r.seen i × (z ≡ place_at pts i))
    pub top : Top (get_or r.top (key v w) 0) (place_at pts v) points

  pub record Good (r : Reach) : Type 0 where
    pub room : length r.seen ≡ tree_bound
    pub sized : length r.top ≡ pair_bound
    pub marks : (i : ℕ) → (get_or r.seen i 0 ≡ 0) ⊎ (get_or r.seen i 0 ≡ 1)
    pub known : (v w : ℕ) → Seen r.seen v → Seen r.seen w → Known r v w
    pub even : (v w : ℕ) → Seen r.seen v → Seen r.seen w → get_or r.top (key v w) 0 ≡ get_or r.top (key w v) 0

  module _ (o : InOrder pts n) (few : n ≤ tree_bound) (fewer : e < tree_bound) (none : get_or el no_edge 0 ≡ 0)
      (alone : (i j : ℕ) (c d : Place) → i < e → j < e → Ends i c d → Ends j c d → i ≡ j) where
    -- the edge k is not longer than a way with no step
    not_none : (k x : ℕ) → k < e → x ≡ no_edge → wins el x k ≡ true → ⊥
    not_none k x h q t =
        let u = wins-under el x k t in
        let z : get_or el x 0 ≡ 0 = ap (λ (i : ℕ). get_or el i 0) q ∙ none in
        omega (arith, u.1 (omega arith), z, q)

    -- one step more in front
    top-front : (x k : ℕ) (a b : Place) (ps : List Place) → k < e → Ends k a b → Top x b ps → Top (longer el x k) a (b ∷ ps)
    unfolding steps
    top-front x k a b ps h g t = record {
      is =
          by (wins el x k)
          (λ q. rw (← longer-yes el x k q) (either (λ z. absurd (not_none k x h z.1 q))
          (λ z. inr (z.0, (z.1.0, (z.1.1.0, (there z.1.1.1.0, z.1.1.1.1))))) t.is))
          (λ q. rw (← longer-no el x k q) (inr (h, (a, (b, (here refl, g))))));
      best =
          λ j hj c d m f.
          either
          (λ q. let i : j ≡ k = alone j k a b hj h (alike-trans (inl (sym (firsts q), sym (seconds q))) f) g in rw i (longer-second el x k))
          (λ i. under-trans el j x (longer el x k) (t.best j hj c d i f) (longer-first el x k))
          (Memᴰ.cases_cons m);
    }

    -- and at the end
    top-end : (x k : ℕ) (a b z : Place) (ps : List Place) → k < e → Ends k b z → Way T a ps b → Top x a ps →
        Top (longer el x k) a (ps ++ (z ∷ []))
    top-end x k a b z ps h g w t = record {
      is =
          by (wins el x k)
          (λ q.
          rw (← longer-yes el x k q)
          (either (λ y. absurd (not_none k x h y.1 q)) (λ y. inr (
            y.0,
            (
              y.1.0,
              (
                y.1.1.0,
                (
                  steps-old a z _ _ ps
                      y.1.1.1.0,
                  y.1.1.1.1,
                ),
              ),
            ),
          )) t.is))
          (λ q. rw (← longer-no el x k q) (inr (h, (b, (z, (steps-last z w, g))))));
      best =
          λ j hj c d m f.
          either
          (λ i. under-trans el j x (longer el x k) (t.best j hj c d i f) (longer-first el x k))
          (λ q. let i : j ≡ k = alone j k b z hj h (rw (q.0, q.1) at f) g in rw i (longer-second el x k))
          (steps-end z c d w m);
    }

    edge-link : (k : ℕ) (c d : Place) → k < e → Ends k c d → Link T c d
    edge-link k c d h (inl q) = inl (Memᴰ.cast (ap₂ (λ (x y : Place). (x, y)) q.0 q.1)
        (in-listing (λ i. ends_of pts (get_or ks i 0)) e k h))
    edge-link k c d h (inr q) = inr (Memᴰ.cast (ap₂ (λ (x y : Place). (x, y)) q.1 q.0)
        (in-listing (λ i. ends_of pts (get_or ks i 0)) e k h))

    turn-ends : (k : ℕ) (c d : Place) → Ends k c d → Ends k d c
    turn-ends k c d (inl q) = inr (q.1, q.0)
    turn-ends k c d (inr q) = inl (q.1, q.0)

    -- v hangs on p by the edge k
    module _ (r : Reach) (good : Good r) (v p k : ℕ) (hv : v < n) (sp : Seen r.seen p) (unseen : get_or r.seen v 0 ≡ 0) (hk : k < e)
        (g : Ends k (place_at pts v) (place_at pts p)) where
      abbrev after : Reach
      after = reach (set r.seen v 1) (spreads el n v p k r.top)

      apart : v ≡ p → ⊥
      apart q = let z : get_or r.seen v 0 ≡ 1 = ap (λ (i : ℕ). get_or r.seen i 0) q ∙ sp.1 in omega (arith, z, unseen)

      now-seen : Seen after.seen v
      now-seen = (hv, put-here r.seen v 1 (rw good.room (omega arith)))

      -- what is seen now is v or was seen
      was-seen : (i : ℕ) → Seen after.seen i → (i ≡ v) ⊎ Seen r.seen i
      was-seen i s =
          by (eqb v i) (λ q. inl (sym (eqb-true v i q)))
          (λ q. inr (s.0, sym (other r.seen v i 1 (eqb-false v i q)) ∙ s.1))

      still_seen : (i : ℕ) → Seen r.seen i → Seen after.seen i
      still_seen i s = (s.0, other r.seen v i 1 (not-v i s) ∙ s.1)
        where
          not-v : (i : ℕ) → Seen r.seen i → v ≡ i → ⊥
          not-v i s q = let z : get_or r.seen v 0 ≡ 1 = ap (λ (j : ℕ). get_or r.seen j 0) q ∙ s.1 in omega (arith, z, unseen)

      not-v : (i : ℕ) → Seen r.seen i → v ≡ i → ⊥
      not-v i s q = let z : get_or r.seen v 0 ≡ 1 = ap (λ (j : ℕ). get_or r.seen j 0) q ∙ s.1 in omega (arith, z, unseen)

      later-seen : {a : Place} {ps : List Place} → ((z : Place) → z ∈ (a ∷ ps) → (i : ℕ) × (Seen r.seen i × (z ≡ place_at pts i))) →
          (z : Place) → z ∈ (a ∷ ps) → (i : ℕ) × (Seen after.seen i × (z ≡ place_at pts i))
      later-seen h z m = let q = h z m in (q.0, (still_seen q.0 q.1.0, q.1.1))

      -- v is on no way between points that were seen
      not_on : {a : Place} {ps : List Place} → ((z : Place) → z ∈ (a ∷ ps) → (i : ℕ) × (Seen r.seen i × (z ≡ place_at pts i))) →
          place_at pts v ∈ (a ∷ ps) → ⊥
      not_on h m = let q = h (place_at pts v) m in not-v q.0 q.1.0 (order_same pts n v q.0 o hv q.1.0.0 q.1.1)

      v-first : (w : ℕ) → Seen r.seen w → Known after v w
      v-first w s =
          let f = good.known p w sp s in
          let x = spreads-row el v p k (omega arith) n r.top few good.sized apart w s.0 (not-v w s) in
          record {
            points = place_at pts p ∷ f.points;
            way = go (edge-link k _ _ hk g) f.way;
            once = (not_on f.seen, f.once);
            seen = λ z m. either (λ q. (v, (now-seen, q))) (λ i. later-seen f.seen z i) (Memᴰ.cases_cons m);
            top = subst (λ (y : ℕ). Top y (place_at pts v) (place_at pts p ∷ f.points)) (sym x) (top-front _ k _ _ _ hk g f.top);
          }

      v-last : (w : ℕ) → Seen r.seen w → Known after w v
      v-last w s =
          let f = good.known w p s sp in
          let x = spreads-column el v p k (omega arith) n r.top few good.sized apart w s.0 (not-v w s)
          ∙ ap (λ (y : ℕ). longer el y k) (good.even p w sp s) in
          let back = turn-ends k _ _ g in
          record {
            points = f.points ++ (place_at pts v ∷ []);
            way = way_end f.way (edge-link k _ _ hk back);
            once = once-end (place_at pts w ∷ f.points) (place_at pts v) f.once (not_on f.seen);
            seen =
                λ z m.
                either (λ i. later-seen f.seen z i) (λ i. either (λ q. (v, (now-seen, q))) (λ q. elim q [ ]) (Memᴰ.cases_cons i))
                (Memᴰ.append_cases (place_at pts w ∷ f.points) m);
            top = subst (λ (y : ℕ). Top y (place_at pts w) (f.points ++ (place_at pts v ∷ []))) (sym x)
                (top-end _ k _ _ _ _ hk back f.way f.top);
          }

      v-alone : Known after v v
      unfolding steps
      v-alone = record {
        points = [];
        way = stop refl;
        once = (λ m. elim m [ ], tt);
        seen = λ z m. either (λ q. (v, (now-seen, q))) (λ i. elim i [ ]) (Memᴰ.cases_cons m);
        top = record {
          is = inl (refl, spreads-self el v p k (omega arith) n r.top few good.sized apart);
          best = λ j hj c d m f. elim m [ ];
        };
      }

      untouched-at : (x y : ℕ) → Seen r.seen x → Seen r.seen y → get_or after.top (key x y) 0 ≡ get_or r.top (key x y) 0
      untouched-at x y s q = untouched el v p k (omega arith) n r.top x y few (omega (arith, q.0)) (not-v x s) (not-v y q)

      neither : (x y : ℕ) → Seen r.seen x → Seen r.seen y → Known after x y
      neither x y s q =
          let f = good.known x y s q in
          record {
            points = f.points;
            way = f.way;
            once = f.once;
            seen = later-seen f.seen;
            top = subst (λ (z : ℕ). Top z (place_at pts x) f.points) (sym (untouched-at x y s q)) f.top;
          }

      pub hung : Good after
      hung = record {
        room = length-set r.seen v 1 ∙ good.room;
        sized = spreads-length el v p k (omega arith) n r.top few good.sized apart;
        marks = λ i. by (eqb v i) (λ q. inr (ap (λ (j : ℕ). get_or after.seen j 0) (sym (eqb-true v i q)) ∙ now-seen.1))
            (λ q. either (λ z. inl (other r.seen v i 1 (eqb-false v i q) ∙ z)) (λ z. inr (other r.seen v i 1 (eqb-false v i q) ∙ z))
            (good.marks i));
        known =
            λ x y s q.
            either
            (λ a. either (λ b. subst (λ (i : ℕ). Known after i y) (sym a) (subst (λ (i : ℕ). Known after v i) (sym b) v-alone))
            (λ b. subst (λ (i : ℕ). Known after i y) (sym a) (v-first y b)) (was-seen y q))
            (λ a. either (λ b. subst (λ (i : ℕ). Known after x i) (sym b) (v-last x a)) (λ b. neither x y a b) (was-seen y q))
            (was-seen x s);
        even =
            λ x y s q.
            either
            (λ a.
            either (λ b. ap₂ (λ (i j : ℕ). get_or after.top (key i j) 0) (a ∙ sym b) (b ∙ sym a))
            (λ b. subst (λ (i : ℕ). get_or after.top (key i y) 0 ≡ get_or after.top (key y i) 0) (sym a) (crossed y b)) (was-seen y q))
            (λ a.
            either (λ b. subst (λ (i : ℕ). get_or after.top (key x i) 0 ≡ get_or after.top (key i x) 0) (sym b) (sym (crossed x a)))
            (λ b. untouched-at x y a b ∙ good.even x y a b ∙ sym (untouched-at y x b a)) (was-seen y q))
            (was-seen x s);
      }
        where
          crossed : (y : ℕ) → Seen r.seen y → get_or after.top (key v y) 0 ≡ get_or after.top (key y v) 0
          crossed y b =
              spreads-row el v p k (omega arith) n r.top few good.sized apart y b.0 (not-v y b)
              ∙ sym (spreads-column el v p k (omega arith) n r.top few good.sized apart y b.0 (not-v y b))
