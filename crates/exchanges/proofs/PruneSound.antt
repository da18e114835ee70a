-- Pruning keeps a tree with all pins: the point that goes is no pin, and by the count of its edges no other edge has it. No edge is
-- added, so the total is not raised.
-- Assumes nothing.
use mathlib.Core.Path.{◌≡◌, refl, sym, ap, ◌∙◌}
use mathlib.Core.Bool.{true}
use mathlib.Core.Logic.{◌⊎◌, inl, inr}
use mathlib.Core.List.Memᴰ
use mathlib.Core.List.{List}
use Prim.Native.Nat.{ℕ, zero, suc, ◌+◌, ◌≤◌, ◌<◌}
use native.Mathlib.Omega.{arith}
use lib.Dec.{ltb, eqb}
use lib.IntN.{ℤ}
use lib.ListN.{length, get_or, set, length-set, replicate}
use borrow.Author.Tests.{ltb-true, ltb-false, eqb-true, eqb-false}
use Rattle.lists.specs.Member.{◌∈◌, Among, rest}
use Rattle.lists.proofs.TestLaws.{by, differ, either, and_left, and_right}
use Rattle.lists.proofs.MemberLaws.{rest-or}
use Rattle.plane.specs.declared.Place.{Place}
use Rattle.plane.specs.Place.{before}
use Rattle.plane.specs.Flat.{place_at}
use Rattle.plane.specs.Rank.{InOrder}
use Rattle.plane.proofs.PlaceLaws.{before-irrefl}
use Rattle.joined.specs.Joined.{Link, Alike, Inside}
use Rattle.joined.specs.Tree as joined
use Rattle.joined.proofs.JoinedLaws.{firsts, seconds}
use Rattle.joined.proofs.OtherLaws.{alike-sym, alike-trans}
use Rattle.joined.proofs.PruneLaws.{prune-tree, prune-inside}
use Rattle.lists.specs.Turns.{turns}
use Rattle.tree.specs.Table.{tree_bound, first_end, second_end, Row, Within}
use Rattle.exchanges.specs.Exchange.{closed}
use Rattle.exchanges.specs.Prune.{count_ends, loose, loose_edge, first_loose, prune}
use Rattle.tree.specs.Sum.{sum_over}
use Rattle.tree.specs.Places.{ends_of, edges_of}
use Rattle.exchanges.proofs.WithinLaws.{seek-le, within-closed}
use Rattle.tree.proofs.SumLaws.{below_at, from, from-below, other, here, one, one_same}
use Rattle.tree.proofs.SumLaws.{one-not, in_table, of-table}
use Rattle.exchanges.proofs.ExchangeSums.{over_closed, closed_at, skip}
use Rattle.exchanges.proofs.OpenedLaws.{seek_hit}
use Rattle.tree.proofs.ListingLaws.{listing-length, in-listing, of-listing}
use Rattle.tree.proofs.PointLaws.{same-place}

-- How many edges a point has

abbrev pub end_count : ℕ → ℕ → ℕ
end_count v j = one v (first_end j) + one v (second_end j)

count-up : (d : List ℕ) (a v : ℕ) → a < length d → get_or (set d a (get_or d a 0 + 1)) v 0 ≡ get_or d v 0 + one v a
count-up d a v h =
    by (eqb a v)
    (λ t.
    let e : a ≡ v = eqb-true a v t in
    let o : one v a ≡ 1 = ap (one v) e ∙ one_same v in
    let g : get_or (set d a (get_or d a 0 + 1)) v 0 ≡ get_or d a 0 + 1 = ap (λ (i : ℕ). get_or (set d a (get_or d a 0 + 1)) i 0) (sym e)
    ∙ here d a (get_or d a 0 + 1) h in
    let f : get_or d a 0 ≡ get_or d v 0 = ap (λ (i : ℕ). get_or d i 0) e in
    omega (arith, o, g, f))
    (λ t.
    let n : a ≡ v → ⊥ = eqb-false a v t in
    omega (arith, other d a v (get_or d a 0 + 1) n, one-not v a n))

count-ends : (ks : List ℕ) (i : ℕ) (d : List ℕ) (v : ℕ) → first_end (get_or ks i 0) < length d → second_end (get_or ks i 0) < length d →
    get_or (count_ends ks i d) v 0 ≡ get_or d v 0 + end_count v (get_or ks i 0)
unfolding count_ends
count-ends ks i d v h l =
    let a = first_end (get_or ks i 0) in
    let b = second_end (get_or ks i 0) in
    let f = set d a (get_or d a 0 + 1) in
    omega (arith, count-up f b v (rw (length-set d a (get_or d a 0 + 1)) l), count-up d a v h)

length-count : (ks : List ℕ) (i : ℕ) (d : List ℕ) → length (count_ends ks i d) ≡ length d
unfolding count_ends
length-count ks i d = simp length-set

counts : (ks : List ℕ) → ((j : ℕ) → (first_end (get_or ks j 0) < tree_bound) × (second_end (get_or ks j 0) < tree_bound)) →
    (c i : ℕ) (d : List ℕ) (v : ℕ) →
    length d ≡ tree_bound → get_or (turns (count_ends ks) i c d) v 0 ≡ get_or d v 0 + from (λ j. end_count v (get_or ks j 0)) i c
unfolding turns from
counts ks h zero i d v s = omega arith
counts ks h (suc c) i d v s =
    let step = count-ends ks i d v (rw s (h i).0) (rw s (h i).1) in
    let more = counts ks h c (suc i) (count_ends ks i d) v (length-count ks i d ∙ s) in
    omega (arith, step, more)

zeros-at : (n i : ℕ) → ◌≡◌ {A = ℕ} (get_or (replicate n 0) i 0) 0
zeros-at zero i = refl
zeros-at (suc n) zero = refl
zeros-at (suc n) (suc i) = zeros-at n i

pub degree : (n : ℕ) (ks : List ℕ) (e v : ℕ) → Within n ks → n ≤ tree_bound →
    get_or (turns (count_ends ks) 0 e (replicate tree_bound 0)) v 0 ≡ sum_over (end_count v) ks e
degree n ks e v w few =
    let r = counts ks (λ j. (omega (arith, (w.ends j).0), omega (arith, (w.ends j).1))) e 0 (replicate tree_bound 0) v refl in
    let f = from-below (λ j. end_count v (get_or ks j 0)) e in
    omega (arith, r, f, zeros-at tree_bound v)

-- points in order with the same place are one
pub order_same : (pts : List ℤ) (n i j : ℕ) → InOrder pts n → i < n → j < n → place_at pts i ≡ place_at pts j → i ≡ j
order_same pts n i j o h l e =
    by (ltb i j) (λ t. differ (ap (before (place_at pts i)) e ∙ o i j (ltb-true i j t) l) (before-irrefl (place_at pts i))) λ t.
    by (ltb j i) (λ s. differ (ap (before (place_at pts j)) (sym e) ∙ o j i (ltb-true j i s) h) (before-irrefl (place_at pts j))) λ s.
    omega (arith, ltb-false i j t, ltb-false j i s)

-- One point goes

module _ (pts : List ℤ) (n : ℕ) (o : InOrder pts n) (few : n ≤ tree_bound) (ks : List ℕ) (w : Within n ks) (e i : ℕ) (hi : i ≤ e) where
  abbrev pub T : List (Place × Place)
  T = edges_of pts ks (suc e)

  abbrev pub U : List (Place × Place)
  U = edges_of pts (closed i e ks) e

  pub kept : (x y : Place) → (x, y) ∈ T → ((x, y) ≡ ends_of pts (get_or ks i 0)) ⊎ ((x, y) ∈ U)
  kept x y m = at (of-listing (λ j. ends_of pts (get_or ks j 0)) (suc e) (x, y) m)
    where
      at : (j : ℕ) × ((j < suc e) × ((x, y) ≡ ends_of pts (get_or ks j 0))) → ((x, y) ≡ ends_of pts (get_or ks i 0)) ⊎ ((x, y) ∈ U)
      at r =
          let j = get_or ks r.0 0 in
          by (eqb j (get_or ks i 0)) (λ t. inl (r.1.1 ∙ ap (ends_of pts) (eqb-true _ _ t)))
          (λ t.
          let d = over_closed (one j) i e ks hi in
          let f = in_table j (closed i e ks) e (omega (
            arith,
            d,
            of-table ks (suc e) r.0 r.1.0,
            one-not j (get_or ks i 0)
                (λ q. eqb-false _ _ t (sym q)),
          )) in
          inr (Memᴰ.cast (r.1.1 ∙ ap (ends_of pts) (sym f.1.1))
          (in-listing (λ q. ends_of pts (get_or (closed i e ks) q 0)) e f.0 f.1.0)))

  -- the edge i joins v and another point, and no other edge has v
  module _ (v z : ℕ) (hv : v < n) (ends : Alike v z (first_end (get_or ks i 0)) (second_end (get_or ks i 0)))
      (single : sum_over (end_count v) ks (suc e) ≡ 1) where
    placed : Alike v z (first_end (get_or ks i 0)) (second_end (get_or ks i 0))
        → Alike (place_at pts v) (place_at pts z) (place_at pts (first_end (get_or ks i 0))) (place_at pts (second_end (get_or ks i 0)))
    placed (inl h) = inl (ap (place_at pts) h.0, ap (place_at pts) h.1)
    placed (inr h) = inr (ap (place_at pts) h.0, ap (place_at pts) h.1)

    is-edge : (c d : Place) → (c, d) ≡ ends_of pts (get_or ks i 0) → Alike c d (place_at pts v) (place_at pts z)
    is-edge c d q = alike-trans (inl (firsts q, seconds q)) (alike-sym (placed ends))

    swapped : {c d x y : Place} → Alike c d x y → Alike d c x y
    swapped (inl h) = inr (h.1, h.0)
    swapped (inr h) = inl (h.1, h.0)

    still : (c d : Place) → Link T c d → Alike c d (place_at pts v) (place_at pts z) ⊎ Link U c d
    still c d (inl m) = either (λ q. inl (is-edge c d q)) (λ q. inr (inl q)) (kept c d m)
    still c d (inr m) = either (λ q. inl (swapped (is-edge d c q))) (λ q. inr (inr q)) (kept d c m)

    own : Alike v z (first_end (get_or ks i 0)) (second_end (get_or ks i 0))
        → 0 < end_count v (get_or ks i 0)
    own (inl h) = let q : one v (first_end (get_or ks i 0)) ≡ 1 = ap (one v) (sym h.0) ∙ one_same v in omega (arith, q)
    own (inr h) = let q : one v (second_end (get_or ks i 0)) ≡ 1 = ap (one v) (sym h.0) ∙ one_same v in omega (arith, q)

    no_end : (j : ℕ) → j < e → 0 < end_count v (get_or (closed i e ks) j 0) → ⊥
    no_end j h c = let d = over_closed (end_count v) i e ks hi in omega (
      arith,
      d,
      single,
      own ends,
      below_at
          (λ q. end_count v (get_or (closed i e ks) q 0)) e j h,
      c,
    )

    pub gone : (y : Place) → Link U (place_at pts v) y → ⊥
    gone y (inl m) =
        let r = of-listing (λ j. ends_of pts (get_or (closed i e ks) j 0)) e (place_at pts v, y) m in
        let g = (within-closed n i e ks w).ends r.0 in
        let q : v ≡ first_end (get_or (closed i e ks) r.0 0) = order_same pts n _ _ o hv g.0
        (ap (λ (x : Place × Place). x.0) r.1.1) in
        let f : one v (first_end (get_or (closed i e ks) r.0 0)) ≡ 1 = ap (one v) (sym q) ∙ one_same v in
        no_end r.0 r.1.0 (omega (arith, f))
    gone y (inr m) =
        let r = of-listing (λ j. ends_of pts (get_or (closed i e ks) j 0)) e (y, place_at pts v) m in
        let g = (within-closed n i e ks w).ends r.0 in
        let q : v ≡ second_end (get_or (closed i e ks) r.0 0) = order_same pts n _ _ o hv g.1
        (ap (λ (x : Place × Place). x.1) r.1.1) in
        let f : one v (second_end (get_or (closed i e ks) r.0 0)) ≡ 1 = ap (one v) (sym q) ∙ one_same v in
        no_end r.0 r.1.0 (omega (arith, f))

    pub goes-tree : {X : List Place} (x : place_at pts v ∈ X) → joined.TreeOn X T → joined.TreeOn (rest x) U
    goes-tree x t =
        prune-tree same-place x still gone t (listing-length _ (suc e) ∙ ap suc (sym (listing-length _ e)))

    pub goes-inside : {X : List Place} (x : place_at pts v ∈ X) → Inside X U → Inside (rest x) U
    goes-inside x h = prune-inside same-place x still gone h

-- Until none is left

-- a tree over some points, pins among them
pub record Whole (pts : List ℤ) (pins : List Place) (r : Row) : Type 0 where
  pub points : List Place
  pub tree : joined.TreeOn points (edges_of pts r.keys r.size)
  pub inside : Inside points (edges_of pts r.keys r.size)
  pub pinned : Among pins points

pub skip-in : (k i n : ℕ) → i < n → skip k i < suc n
unfolding skip
skip-in k i n h = by (ltb i k) (λ t. rw (skip, t) (omega arith)) (λ t. rw (skip, t) (omega arith))

-- what is left was there
pub pruned-was : (pin : List ℕ) (e : ℕ) (ks : List ℕ) (j : ℕ) → j < (prune pin ks e).size →
    (i : ℕ) × ((i < e) × (get_or (prune pin ks e).keys j 0 ≡ get_or ks i 0))
unfolding prune
pruned-was pin zero ks j h = (j, (h, refl))
pruned-was pin (suc e) ks j h =
    by (eqb (first_loose pin ks (suc e)) (suc e))
    (λ t. (j, (rw (prune, t) at h, rw (prune, t) refl)))
    (λ t.
    let i = first_loose pin ks (suc e) in
    let r = pruned-was pin e (closed i e ks) j (rw (prune, t) at h) in
    (skip i r.0, (skip-in i r.0 e r.1.0, rw (prune, t) (r.1.1 ∙ closed_at i e ks r.0 r.1.0))))

pub first-le : (pin ks : List ℕ) (e : ℕ) → first_loose pin ks e ≤ e
unfolding first_loose
first-le pin ks e = omega (arith, seek-le (loose_edge pin (turns (count_ends ks) 0 e (replicate tree_bound 0)) ks) e 0)

pub first-hit : (pin ks : List ℕ) (e : ℕ) → first_loose pin ks e < e →
    loose_edge pin (turns (count_ends ks) 0 e (replicate tree_bound 0)) ks (first_loose pin ks e) ≡ true
unfolding first_loose
first-hit pin ks e h = seek_hit (loose_edge pin (turns (count_ends ks) 0 e (replicate tree_bound 0)) ks) e 0 (omega arith)

-- no sum is raised
pub pruned-over : (g : ℕ → ℕ) (pin : List ℕ) (e : ℕ) (ks : List ℕ) →
    sum_over g (prune pin ks e).keys (prune pin ks e).size ≤ sum_over g ks e
unfolding prune
pruned-over g pin zero ks = omega arith
pruned-over g pin (suc e) ks =
    by (eqb (first_loose pin ks (suc e)) (suc e)) (λ t. rw (prune, t) (omega arith))
    (λ t.
    let i = first_loose pin ks (suc e) in
    let n : i ≡ suc e → ⊥ = eqb-false i (suc e) t in
    let l = first-le pin ks (suc e) in
    rw (prune, t) (omega (arith, pruned-over g pin e (closed i e ks), over_closed g i e ks (omega arith))))

module _ (pts : List ℤ) (n : ℕ) (o : InOrder pts n) (few : n ≤ tree_bound) (pins : List Place) (pin : List ℕ)
    (marked : (v : ℕ) → v < n → get_or pin v 0 ≡ 0 → place_at pts v ∈ pins → ⊥) where
  abbrev Held : List ℕ → ℕ → Type 0
  Held ks e = Whole pts pins (record { keys = ks; size = e })

  -- the point v of the edge i goes
  goes : (ks : List ℕ) → Within n ks → (e i : ℕ) → i ≤ e → (v z : ℕ) →
      Alike v z (first_end (get_or ks i 0)) (second_end (get_or ks i 0)) →
      loose pin (turns (count_ends ks) 0 (suc e) (replicate tree_bound 0)) v ≡ true → Held ks (suc e) → Held (closed i e ks) e
  unfolding loose
  goes ks w e i hi v z ends is whole =
      let hv : v < n = low ends in
      let x : place_at pts v ∈ whole.points = stands ends in
      let free : get_or pin v 0 ≡ 0 = eqb-true _ _ (and_left _ _ is) in
      let single = sym (degree n ks (suc e) v w few) ∙ eqb-true _ 1 (and_right (eqb (get_or pin v 0) 0) _ is) in
      record {
        points = rest x;
        tree = goes-tree pts n o few ks w e i hi v z hv ends single x whole.tree;
        inside = goes-inside pts n o few ks w e i hi v z hv ends single x (λ c d m. whole.inside c d (less c d m));
        pinned = λ y m. either (λ q. absurd (marked v hv free (Memᴰ.cast (sym q) m))) (λ r. r) (rest-or x (whole.pinned y m));
      }
    where
      low : Alike v z (first_end (get_or ks i 0)) (second_end (get_or ks i 0)) → v < n
      low (inl h) = omega (arith, h.0, (w.ends i).0)
      low (inr h) = omega (arith, h.0, (w.ends i).1)

      edge : ends_of pts (get_or ks i 0) ∈ edges_of pts ks (suc e)
      edge = in-listing (λ j. ends_of pts (get_or ks j 0)) (suc e) i (omega arith)

      stands : Alike v z (first_end (get_or ks i 0)) (second_end (get_or ks i 0)) →
          place_at pts v ∈ whole.points
      stands (inl h) = Memᴰ.cast (ap (place_at pts) h.0) (whole.inside _ _ edge).0
      stands (inr h) = Memᴰ.cast (ap (place_at pts) h.0) (whole.inside _ _ edge).1

      less : (c d : Place) → (c, d) ∈ edges_of pts (closed i e ks) e → (c, d) ∈ edges_of pts ks (suc e)
      less c d m =
          let r = of-listing (λ j. ends_of pts (get_or (closed i e ks) j 0)) e (c, d) m in
          Memᴰ.cast (r.1.1 ∙ ap (ends_of pts) (closed_at i e ks r.0 r.1.0))
          (in-listing (λ j. ends_of pts (get_or ks j 0)) (suc e) (skip i r.0) (skip-in i r.0 e r.1.0))

  pub prune-whole : (e : ℕ) (ks : List ℕ) → Within n ks → Held ks e → Whole pts pins (prune pin ks e)
  unfolding prune loose_edge
  prune-whole zero ks w h = h
  prune-whole (suc e) ks w h =
      by (eqb (first_loose pin ks (suc e)) (suc e)) (λ t. rw (prune, t) h)
      (λ t.
      let i = first_loose pin ks (suc e) in
      let d = turns (count_ends ks) 0 (suc e) (replicate tree_bound 0) in
      let ne : i ≡ suc e → ⊥ = eqb-false i (suc e) t in
      let le = first-le pin ks (suc e) in
      let hit = first-hit pin ks (suc e) (omega arith) in
      let hi : i ≤ e = omega arith in
      rw (prune, t)
      (prune-whole e (closed i e ks) (within-closed n i e ks w)
      (by (loose pin d (first_end (get_or ks i 0)))
      (λ a. goes ks w e i hi (first_end (get_or ks i 0)) (second_end (get_or ks i 0)) (inl (refl, refl)) a h)
      (λ a. goes ks w e i hi (second_end (get_or ks i 0)) (first_end (get_or ks i 0)) (inr (refl, refl)) (rw a at hit) h))))
