-- Bounds stand from one tree to the next: no longest edge between two old points has become longer, points are never taken away, and
-- what is clear is of places; so no candidate of an old edge and an old point gains more than before.
-- Assumes nothing.
use mathlib.Core.Path.{◌≡◌, refl, sym, ap, ap₂, ◌∙◌, subst}
use mathlib.Core.Bool.{true, not}
use mathlib.Core.List.{List}
use Prim.Native.Nat.{ℕ, ◌≤◌, ◌<◌}
use native.Mathlib.Omega.{arith}
use lib.Dec.{eqb}
use lib.IntN.{ℤ}
use lib.ListN.{length, get_or}
use borrow.Author.Tests.{eqb-false, ne_eqb}
use Rattle.lists.proofs.TestLaws.{by, either, and_left, and_right, and_both, or-none, or-neither, not-true}
use Rattle.plane.specs.declared.Macro.{Macro}
use Rattle.plane.specs.declared.Weights.{Weights}
use Rattle.plane.specs.Cost.{cost}
use Rattle.plane.specs.Flat.{place_at}
use Rattle.tree.specs.Table.{tree_bound, first_end, second_end, Low}
use Rattle.longest.specs.Longest.{wins, shorter, costs, longest, cut_of}
use Rattle.longest.specs.Hung.{Ties, onto_of, link_of, turn_of, top_of, Hanging, tall}
use Rattle.longest.proofs.WinsLaws.{shorter-first, shorter-second}
use Rattle.longest.proofs.LongestLaws.{shorter-yes, shorter-no}
use Rattle.longest.proofs.NoLonger.{no_longer, even-cost}
use Rattle.triples.specs.Triple.{sees, dropped, allowed}
use Rattle.candidates.specs.declared.Best.{Best}
use Rattle.candidates.specs.Candidate.{middle_of, offer}
use Rattle.candidates.specs.Bounded.{Shut, Bounded}
use Rattle.candidates.proofs.BoundLaws.{out_of, cost_of, long_of, ok_of, refuses, refused, offer-step}
use Rattle.exchanges.proofs.PruneSound.{order_same}
use Rattle.bounds.specs.Carried.{Numbered, one_in, two_in, Calm, Origins, Was}
use Rattle.bounds.proofs.DroppedLaws.{not-dropped, dropped-not}
use Rattle.bounds.proofs.CostLaws.{cost-at}
use Rattle.bounds.proofs.CalmLaws.{hanging-low}

-- the shorter of two costs no more where both cost no more
shorter-less : (el el' : List ℕ) (p q p' q' : ℕ) → get_or el' p' 0 ≤ get_or el p 0 → get_or el' q' 0 ≤ get_or el q 0 →
    get_or el' (shorter el' p' q') 0 ≤ get_or el (shorter el p q) 0
shorter-less el el' p q p' q' a b =
    by (wins el p q)
    (λ t. subst (λ (x : ℕ). get_or el' (shorter el' p' q') 0 ≤ get_or el x 0) (shorter-yes el p q t)
    (omega (arith, b, (shorter-second el' p' q').0)))
    (λ t. subst (λ (x : ℕ). get_or el' (shorter el' p' q') 0 ≤ get_or el x 0) (shorter-no el p q t)
    (omega (arith, a, (shorter-first el' p' q').0)))

-- no candidate gains more than the longest edge costs
pub most-shut : (w : Weights) (pts : List ℤ) (n : ℕ) (ms : List Macro) (ks : List ℕ) (e : ℕ) (el top : List ℕ) (most : ℕ) →
    Low most el → (but k : ℕ) → Shut (offer w pts n ms el top (first_end (get_or ks k 0)) (second_end (get_or ks k 0)) k) n but most
most-shut w pts n ms ks e el top most low but k u l d c g =
    let a = first_end (get_or ks k 0) in
    let b = second_end (get_or ks k 0) in
    offer-step w pts n ms el top a b k u c
    ∙ refuses (out_of w pts n ms el top a b k u) (cost_of w pts n ms el top a b k u) (long_of w pts n ms el top a b k u)
    (ok_of w pts n ms el top a b k u) k u (cut_of el top a b u) c
    (λ o y. omega (arith, low.low (cut_of el top a b u), g))

-- all bounds unknown
pub most-bounds : (w : Weights) (pts : List ℤ) (n : ℕ) (ms : List Macro) (ks : List ℕ) (e : ℕ) (el top : List ℕ) (most : ℕ) →
    Low most el → (bound : List ℕ) → length bound ≡ tree_bound → ((k : ℕ) → k < e → get_or bound k 0 ≡ most) →
    Bounded w pts n ms ks e el top n bound
most-bounds w pts n ms ks e el top most low bound room q = record {
  room = room;
  shut = λ k l. subst (Shut (offer w pts n ms el top _ _ k) n n) (sym (q k l)) (most-shut w pts n ms ks e el top most low n k);
}

module _ (w : Weights) (ms : List Macro) (old : List ℤ) (m : ℕ) (before : List ℕ) (f : ℕ) (was : List ℕ)
    (W : Was w ms old m before f was) (pts : List ℤ) (n : ℕ) (ks : List ℕ) (e : ℕ) (el : List ℕ) (s : Ties) (h : Hanging ks el e n s)
    (fresh : ℕ) (at : List ℕ) (N : Numbered old m pts n fresh at)
    (calm : Calm w pts el (longest ks el e n) before f at) where
  abbrev el₀ : List ℕ
  el₀ = costs w old before f

  abbrev top₀ : List ℕ
  top₀ = longest before el₀ f m

  abbrev top : List ℕ
  top = longest ks el e n

  abbrev to : ℕ → ℕ
  to i = get_or at i 0

  hung : (v : ℕ) → v < m → 0 < turn_of s (to v)
  hung v l = h.all (to v) (N.low v l)

  place : (v : ℕ) → v < m → place_at pts (to v) ≡ place_at old v
  place v l = N.same v l

  -- points of the tree before are below m
  below : (v : ℕ) → 0 < turn_of W.held.rows v → v < m
  below v g = hanging-low before el₀ f m W.held.rows W.held.hanging W.within (omega (arith, W.few.1)) v g

  calm-at : (v : ℕ) → 1 < turn_of W.held.rows v → tall el top (to v) (to (onto_of W.held.rows v)) ≤ get_or el₀
      (link_of W.held.rows v) 0
  calm-at v g =
      let d = W.held.hanging.ends v g in
      let k = link_of W.held.rows v in
      let a = first_end (get_or before k 0) in
      let b = second_end (get_or before k 0) in
      let i = W.within.ends k in
      let r : tall el top (to a) (to b) ≤ cost w (place_at pts (to a)) (place_at pts (to b)) =
      calm k d.0 in
      let c : cost w (place_at pts (to a)) (place_at pts (to b)) ≡ get_or el₀ k 0 =
      ap₂ (cost w) (place a i.0) (place b i.1) ∙ sym (cost-at w old before f k (omega (arith, W.few)) d.0) in
      either
      (λ j. omega (arith, r, c, ap₂ (λ (x y : ℕ). tall el top (to x) (to y)) j.0 j.1))
      (λ j. omega (
        arith,
        r,
        c,
        ap₂ (λ (x y : ℕ). tall el top (to x) (to y)) j.0 j.1,
        even-cost el s h.tied top h.told (to a) (to b) (hung a i.0) (hung b i.1),
        ap₂ (λ (x y : ℕ). tall el top (to x) (to y)) j.1 j.0,
      ))
      d.1

  less : (v u : ℕ) → v < m → u < m → tall el top (to v) (to u) ≤ tall el₀ top₀ v u
  less v u a b =
      no_longer el₀ W.held.rows W.held.hanging.tied top₀ W.held.hanging.told el s h.tied top h.told to
      (λ x g. hung x (below x g)) calm-at v u (W.held.hanging.all v a) (W.held.hanging.all u b)

  cut-less : (a b u : ℕ) → a < m → b < m → u < m → get_or el (cut_of el top (to a) (to b) (to u)) 0 ≤ get_or el₀ (cut_of el₀ top₀ a b u) 0
  unfolding cut_of
  cut-less a b u i j k =
      shorter-less el₀ el (top_of top₀ a u) (top_of top₀ b u) (top_of top (to a) (to u)) (top_of top (to b) (to u)) (less a u i k)
      (less b u j k)

  apart : (i j : ℕ) → i < m → j < m → to i ≡ to j → i ≡ j
  apart i j a b q = order_same old m i j W.ordered a b (sym (place i a) ∙ ap (place_at pts) q ∙ place j b)

  allowed_then : (a b u : ℕ) → a < m → b < m → u < m →
      allowed pts n ms (to a) (to b) (to u) (middle_of pts (to a) (to b) (to u)) ≡ true →
      allowed old m ms a b u (middle_of old a b u) ≡ true
  unfolding allowed
  allowed_then a b u i j k t =
      let p = place a i in
      let q = place b j in
      let r = place u k in
      let S = sees ms (place_at pts (to a)) (place_at pts (to b)) (place_at pts (to u)) in
      let D = dropped pts n (to a) (to b) (to u) (middle_of pts (to a) (to b) (to u)) in
      let x = and_left S (not D) t in
      let y = not-true D (and_right S (not D) t) in
      let mid : middle_of pts (to a) (to b) (to u) ≡ middle_of old a b u = rw (p, q, r) refl in
      and_both (sees ms (place_at old a) (place_at old b) (place_at old u)) _ (rw (← p, ← q, ← r) x)
      (ap not (not-dropped old m a b u (middle_of old a b u) (λ v l o.
      dropped-not pts n (to a) (to b) (to u) (middle_of pts (to a) (to b) (to u)) y (to v) (N.low v l) (
        ((λ z. o.0.0 (apart v a l i z)), ((λ z. o.0.1.0 (apart v b l j z)), (λ z. o.0.1.1 (apart v u l k z)))),
        mid ∙ o.1 ∙ sym (place v l),
      ))))

  -- one edge before, k, with the number k' now, and one point before
  module _ (k k' : ℕ) (hk : k < f) (ea : first_end (get_or ks k' 0) ≡ one_in before at k)
      (eb : second_end (get_or ks k' 0) ≡ two_in before at k) where
    abbrev a : ℕ
    a = first_end (get_or before k 0)

    abbrev b : ℕ
    b = second_end (get_or before k 0)

    is-a : first_end (get_or ks k' 0) ≡ to a
    is-a = ea

    is_b : second_end (get_or ks k' 0) ≡ to b
    is_b = eb

    stands : (u : ℕ) → u < m → (c : Best) → get_or was k 0 ≤ c.gain → offer w pts n ms el top (to a) (to b) k' (to u) c ≡ c
    stands u l c g =
        let i = W.within.ends k in
        let p = place a i.0 in
        let q = place b i.1 in
        let r = place u l in
        let d : cost_of w pts n ms el top (to a) (to b) k' (to u) ≡ cost_of w old m ms el₀ top₀ a b k u = rw (p, q, r) refl in
        offer-step w pts n ms el top (to a) (to b) k' (to u) c
        ∙ refuses (out_of w pts n ms el top (to a) (to b) k' (to u)) (cost_of w pts n ms el top (to a) (to b) k' (to u))
        (long_of w pts n ms el top (to a) (to b) k' (to u)) (ok_of w pts n ms el top (to a) (to b) k' (to u)) k' (to u)
        (cut_of el top (to a) (to b) (to u)) c
        (λ o y.
        let o₁ = or-none (eqb (to u) (to a)) _ o in
        let o₂ = or-none (eqb (to u) (to b)) _ o₁.1 in
        let na : u ≡ a → ⊥ = λ z. eqb-false (to u) (to a) o₁.0 (ap to z) in
        let nb : u ≡ b → ⊥ = λ z. eqb-false (to u) (to b) o₂.0 (ap to z) in
        let x = refused (out_of w old m ms el₀ top₀ a b k u) (cost_of w old m ms el₀ top₀ a b k u)
        (long_of w old m ms el₀ top₀ a b k u) (ok_of w old m ms el₀ top₀ a b k u) k u (cut_of el₀ top₀ a b u) (get_or was k 0)
        (λ c' g'. sym (offer-step w old m ms el₀ top₀ a b k u c')
        ∙ W.held.bounded.shut k hk u l (λ z. let n : ⊥ = omega (arith, l, z) in n) c' g')
        (or-neither _ _ (ne_eqb u a na) (or-neither _ _ (ne_eqb u b nb) (ne_eqb _ k (W.another k u hk l na nb))))
        (allowed_then a b u i.0 i.1 l y) in
        omega (arith, x, cut-less a b u i.0 i.1 l, d, g))

    pub carried-shut : Shut (offer w pts n ms el top (first_end (get_or ks k' 0)) (second_end (get_or ks k' 0)) k') n fresh (get_or was k 0)
    carried-shut u l nf c g =
        let r = N.known u l nf in
        subst (λ (x : ℕ). offer w pts n ms el top x (second_end (get_or ks k' 0)) k' u c ≡ c) (sym is-a)
        (subst (λ (x : ℕ). offer w pts n ms el top (to a) x k' u c ≡ c) (sym is_b)
        (subst (λ (x : ℕ). offer w pts n ms el top (to a) (to b) k' x c ≡ c) r.1.1 (stands r.0 r.1.0 c g)))

  pub carried : (most : ℕ) (bound : List ℕ) → Low most el → length bound ≡ tree_bound → n ≤ tree_bound →
      Origins before f at ks e most was bound → Bounded w pts n ms ks e el top fresh bound
  carried most bound low room few o = record {
    room = room;
    shut = λ k l.
        either (λ q. subst (Shut (offer w pts n ms el top _ _ k) n fresh) (sym q) (most-shut w pts n ms ks e el top most low fresh k))
        (λ r.
        let j = r.0 in
        let b = W.within.ends j in
        let t : two_in before at j < tree_bound = omega (
          arith,
          few,
          N.low _ b.1,
        ) in
        let q = r.1.1.0 in
        subst (Shut (offer w pts n ms el top _ _ k) n fresh) (sym r.1.1.1)
        (carried-shut j k r.1.0 (omega (arith, q, t)) (omega (arith, q, t))))
        (o k l);
  }

  -- with no further point, for all points
  pub bounded-all : (bound : List ℕ) → n ≤ fresh → Bounded w pts n ms ks e el top fresh bound → Bounded w pts n ms ks e el top n bound
  bounded-all bound l b = record {
    room = b.room;
    shut = λ k h u i _ c g. b.shut k h u i (λ q. let z : ⊥ = omega (arith, i, l, q) in z) c g;
  }
