-- One round keeps a tree over its points in order, with all pins and every edge clear: by the exchange of the theory of joined points,
-- with s a new point, or one of a, b and u where it stands already.
-- Assumes nothing.
use mathlib.Core.Path.{◌≡◌, refl, sym, ap, ◌∙◌}
use mathlib.Core.Bool.{true, false, ◌||◌}
use mathlib.Core.Logic.{◌⊎◌, inl, inr}
use mathlib.Core.List.Memᴰ
use mathlib.Core.List.{List}
use Prim.Native.Nat.{ℕ, suc, ◌+◌, ◌-◌, ◌*◌, ◌≤◌, ◌<◌}
use native.Mathlib.Omega.{arith}
use lib.Dec.{ltb, eqb}
use lib.IntN.{ℤ}
use lib.ListN.{length, get_or}
use borrow.Author.Tests.{ltb-true, ltb-false, eqb-true, eqb-false}
use Rattle.lists.specs.Member.{◌∈◌}
use Rattle.lists.proofs.TestLaws.{by, differ, either, and_left, and_right}
use Rattle.plane.specs.declared.Place.{Place}
use Rattle.plane.specs.declared.Macro.{Macro}
use Rattle.plane.specs.Place.{same_place}
use Rattle.plane.specs.Macro.{clear}
use Rattle.plane.specs.Flat.{place_at}
use Rattle.plane.specs.Rank.{InOrder, rank}
use Rattle.net.specs.Net.{Net, cost_in}
use Rattle.plane.proofs.PlaceLaws.{same_true, same_refl}
use Rattle.plane.proofs.MacroLaws.{clear_comm}
use Rattle.plane.proofs.BoxLaws.{middle-clear-first, middle-clear-outer, middle-clear-last}
use Rattle.plane.proofs.CostLaws.{middle-through}
use Rattle.joined.specs.Joined.{Link, Alike}
use Rattle.joined.specs.Tree as joined
use Rattle.joined.proofs.OtherLaws.{alike-sym, alike-trans}
use Rattle.joined.proofs.ExchangeLaws.{exchange-tree}
use Rattle.joined.proofs.OneTreeLaws.{tree-simple}
use Rattle.lists.specs.Turns.{turns, seek}
use Rattle.tree.specs.Table.{tree_bound, key, first_end, second_end, row, Tree, tree, Within}
use Rattle.triples.specs.Triple.{sees, taken, dropped}
use Rattle.candidates.specs.Candidate.{middle_of}
use Rattle.exchanges.specs.Exchange.{drop_two, stands, opened, bump, bump_at, lays, star, laid_at}
use Rattle.tree.specs.Sum.{sum_over}
use Rattle.tree.specs.Places.{ends_of, points_of, edges_of, key_cost, Sound}
use Rattle.candidates.specs.Taken.{Taken}
use Rattle.exchanges.proofs.WithinLaws.{rank-le, bump-in, within-dropped, within-joined}
use Rattle.exchanges.proofs.ExchangeLaws.{bump-lt, bump-ge}
use Rattle.tree.proofs.SumLaws.{below-same, below_one}
use Rattle.exchanges.proofs.ExchangeSums.{between, over-lays, over-bumped, length-bumps, length-dropped}
use Rattle.exchanges.proofs.OpenedLaws.{seek-before, opened-low, opened-new, opened-past, opened-bump, opened-order}
use Rattle.tree.proofs.ListingLaws.{listing-length, in-listing, of-listing}
use Rattle.exchanges.proofs.AfterLaws.{After, between_is, between_none, still, to-a, to-b, to-u, after-clear, after-costs}
use Rattle.tree.proofs.PointLaws.{same-place, order-once}

-- The tables after an exchange

module _ (pts : List ℤ) (n : ℕ) (ks : List ℕ) (e k l a b u p : ℕ) (s : Place) (rooms : e + 2 < length ks) where
  abbrev left : List ℕ
  left = drop_two e k l ks

  -- s is a point
  abbrev old-tree : Tree
  old-tree = record { points = pts; count = n; edges = lays (star p a b u) (row left e) }

  pub after-old : n ≤ tree_bound → p < n → s ≡ place_at pts p → After pts n ks e k l a b u p s (λ i. i) old-tree
  after-old few h at = record {
    old = λ i q. refl;
    new = sym at;
    low = λ i q. omega arith;
    lowest = omega arith;
    sums =
        λ g.
        let laid = over-lays g (star p a b u) (row left e) (rw (length-dropped e k l ks) (omega arith)) in
        let back : (j : ℕ) → j ≡ key (first_end j) (second_end j) = λ j. omega arith in
        let same : sum_over g left e ≡ sum_over (λ j. g (key (first_end j) (second_end j))) left e =
        below-same _ _ e (λ i q. ap g (back (get_or left i 0))) in
        omega (arith, laid, same);
  }

  -- s is put in
  abbrev new-tree : Tree
  new-tree = record {
    points = opened pts n p s;
    count = n + 1;
    edges = lays (star p (bump p a) (bump p b) (bump p u)) (row (turns (bump_at p) 0 e left) e);
  }

  pub after-new : n < tree_bound → p ≤ n → n * 2 + 2 ≤ length pts → After pts n ks e k l a b u p s (bump p) new-tree
  after-new few h room = record {
    old = λ i q. opened-bump pts n p s h room i q;
    new = opened-new pts n p s h room;
    low = λ i q. omega (arith, bump-in n p i q);
    lowest = omega arith;
    sums =
        λ g.
        let laid = over-lays g (star p (bump p a) (bump p b) (bump p u)) (row (turns (bump_at p) 0 e left) e)
        (rw (length-bumps p e left, length-dropped e k l ks) (omega arith)) in
        let moved = over-bumped g p e left (rw (length-dropped e k l ks) (omega arith)) in
        omega (arith, laid, moved);
  }

-- how many edges are laid
ones-not : (p x : ℕ) → (p ≡ x → ⊥) → between (λ _. 1) p x ≡ 1
ones-not p x n = either (λ q. q) (λ q. q) (between_is (λ _. 1) p x n)

pub bump-not : (p x : ℕ) → p ≡ bump p x → ⊥
bump-not p x e =
    by (ltb x p)
    (λ t. let h : x < p = ltb-true x p t in let q = bump-lt p x h in let z : ⊥ = omega (arith, q, e) in z)
    (λ t. let h : p ≤ x = ltb-false x p t in let q = bump-ge p x h in let z : ⊥ = omega (arith, q, e) in z)

-- What a round keeps

module _ (net : Net) (pts : List ℤ) (n : ℕ) (ks : List ℕ) (e k l u : ℕ)
    (sound : Sound net (tree pts n ks (suc (suc e)))) (c : Taken net.macros pts n ks (suc (suc e)) k l u)
    (few : n < tree_bound) (room : n * 2 + 2 ≤ length pts) (rooms : e + 2 < length ks) where
  abbrev ms : List Macro
  ms = net.macros

  abbrev a : ℕ
  a = first_end (get_or ks k 0)

  abbrev b : ℕ
  b = second_end (get_or ks k 0)

  abbrev s : Place
  s = middle_of pts a b u

  abbrev p : ℕ
  p = rank pts n s

  ha : a < n
  ha = (sound.within.ends k).0

  hb : b < n
  hb = (sound.within.ends k).1

  edge-clear : clear (place_at pts a) (place_at pts b) ms ≡ true
  edge-clear = sound.free k c.edge

  u-clear : clear s (place_at pts u) ms ≡ true
  unfolding sees
  u-clear =
      by (clear (place_at pts u) (place_at pts a) ms)
      (λ t. middle-clear-outer (place_at pts a) (place_at pts b) (place_at pts u) ms (clear_comm (place_at pts a) (place_at pts u) ms ∙ t))
      (λ t.
      let v : clear (place_at pts u) (place_at pts b) ms ≡ true = rw t at c.seen in
      middle-clear-last (place_at pts a) (place_at pts b) (place_at pts u) ms (clear_comm (place_at pts b) (place_at pts u) ms ∙ v))

  -- whichever numbers moved on
  module _ {m : ℕ → ℕ} {t : Tree} (after : After pts n ks e k l a b u p s m t) (ordered : InOrder t.points t.count)
      (within : Within t.count t.edges.keys) (inside : (i : ℕ) → i < n → m i < t.count)
      (known : (y : Place) → y ∈ points_of t.points t.count → (y ≡ s) ⊎ (y ∈ points_of pts n))
      (size : suc t.edges.size ≡ t.count) where
    abbrev U : List (Place × Place)
    U = edges_of t.points t.edges.keys t.edges.size

    links : (x y : Place) → Link (edges_of pts ks (suc (suc e))) x y → Alike x y (place_at pts a) (place_at pts b)
        ⊎ (Alike x y c.one c.other ⊎ Link U x y)
    links x y i =
        either inl (λ q. inr (either (λ v. inl (alike-trans v (alike-sym c.longest))) inr q))
        (still after sound.within c.edge c.cut c.two ha hb c.point x y i)

    after-tree : joined.TreeOn (points_of t.points t.count) U
    after-tree =
        exchange-tree c.toward c.on links s
        (to-a after sound.within c.edge c.cut c.two ha hb c.point)
        (to-b after sound.within c.edge c.cut c.two ha hb c.point)
        (to-u after sound.within c.edge c.cut c.two ha hb c.point)
        sound.whole (in-listing (place_at pts) n a ha) (order-once t.points t.count ordered) known
        (ap suc (listing-length _ t.edges.size) ∙ size ∙ sym (listing-length _ t.count))

    after-sound : Sound net t
    after-sound = record {
      ordered = ordered;
      within = within;
      whole = after-tree;
      free =
          after-clear after sound.within c.edge c.cut c.two ha hb c.point ms
          (middle-clear-first (place_at pts a) (place_at pts b) (place_at pts u) ms edge-clear).0
          (middle-clear-first (place_at pts a) (place_at pts b) (place_at pts u) ms edge-clear).1
          u-clear sound.free;
      pinned =
          λ y i.
          let r = of-listing (place_at pts) n y (sound.pinned y i) in
          Memᴰ.cast (r.1.1 ∙ sym (after.old r.0 r.1.0))
          (in-listing (place_at t.points) t.count (m r.0) (inside r.0 r.1.0));
    }

  edges-of : suc (suc (suc e)) ≡ n
  edges-of = sym (ap suc (listing-length _ (suc (suc e)))) ∙ sound.whole.size ∙ listing-length (place_at pts) n

  -- each edge of length one: how many there are
  counted : {m : ℕ → ℕ} {t : Tree} → After pts n ks e k l a b u p s m t →
      t.edges.size ≡ between (λ _. 1) p (m u) + (between (λ _. 1) p (m b) + (between (λ _. 1) p (m a) + e))
  counted {m} {t} after =
      sym (below_one t.edges.size) ∙ after.sums (λ _. 1)
      ∙ ap (λ (x : ℕ). between (λ _. 1) p (m u) + (between (λ _. 1) p (m b) + (between (λ _. 1) p (m a) + x))) (below_one e)

  ends-apart : a ≡ b → ⊥
  ends-apart q =
      (tree-simple same-place sound.whole).apart (place_at pts a) (place_at pts b)
      (in-listing (λ i. ends_of pts (get_or ks i 0)) (suc (suc e)) k c.edge)
      (ap (place_at pts) q)

  -- Where s is put in

  module _ (new : stands pts n p s ≡ false) where
    put : After pts n ks e k l a b u p s (bump p) (new-tree pts n ks e k l a b u p s rooms)
    put = after-new pts n ks e k l a b u p s rooms few (rank-le pts n s) room

    put-known : (y : Place) → y ∈ points_of (opened pts n p s) (n + 1) → (y ≡ s) ⊎ (y ∈ points_of pts n)
    put-known y i = at (of-listing (place_at (opened pts n p s)) (n + 1) y i)
      where
        at : (j : ℕ) × ((j < n + 1) × (y ≡ place_at (opened pts n p s) j)) → (y ≡ s) ⊎ (y ∈ points_of pts n)
        at r =
            by (ltb r.0 p)
            (λ t.
            let h : r.0 < p = ltb-true _ _ t in
            inr (Memᴰ.cast (r.1.1 ∙ opened-low pts n p s (rank-le pts n s) room r.0 h)
            (in-listing (place_at pts) n r.0 (omega (arith, rank-le pts n s)))))
            (λ t.
            by (ltb p r.0)
            (λ v.
            let h : p < r.0 = ltb-true _ _ v in
            inr (Memᴰ.cast (r.1.1 ∙ opened-past pts n p s (rank-le pts n s) room r.0 h (omega (arith, r.1.0)))
            (in-listing (place_at pts) n (r.0 - 1) (omega (arith, r.1.0)))))
            (λ v.
            let q : r.0 ≡ p = omega (arith, ltb-false r.0 p t, ltb-false p r.0 v) in
            inl (r.1.1 ∙ ap (place_at (opened pts n p s)) q ∙ opened-new pts n p s (rank-le pts n s) room)))

    put-size : suc (new-tree pts n ks e k l a b u p s rooms).edges.size ≡ n + 1
    put-size =
        omega (
          arith,
          counted put,
          ones-not p (bump p a) (bump-not p a),
          ones-not p (bump p b) (bump-not p b),
          ones-not p (bump p u)
              (bump-not p u),
          edges-of,
        )

    put-within : Within (n + 1) (new-tree pts n ks e k l a b u p s rooms).edges.keys
    unfolding laid_at
    put-within =
        rw (laid_at, new) at
        (within-joined pts n (drop_two e k l ks) e p a b u s few (rank-le pts n s) ha hb c.point
        (within-dropped n e k l ks sound.within))

    put-sound : Sound net (new-tree pts n ks e k l a b u p s rooms)
    put-sound =
        after-sound put (opened-order pts n s sound.ordered new room) put-within (λ i h. bump-in n p i h) put-known put-size

  -- Where s is a point

  module _ (there : stands pts n p s ≡ true) where
    in-points : p < n
    unfolding stands
    in-points = ltb-true p n (and_left _ _ there)

    at-point : s ≡ place_at pts p
    unfolding stands
    at-point = same_true s (place_at pts p) (and_right (ltb p n) _ there)

    stood : After pts n ks e k l a b u p s (λ i. i) (old-tree pts n ks e k l a b u p s rooms)
    stood = after-old pts n ks e k l a b u p s rooms (omega arith) in-points at-point

    -- it is one of a, b and u, since the candidate is not dropped
    one_of : (eqb p a || (eqb p b || eqb p u)) ≡ true
    unfolding dropped taken
    one_of =
        let h : n ≤ seek (taken pts a b u s) 0 n = ltb-false _ n c.kept in
        let no_other : taken pts a b u s p ≡ false = seek-before (taken pts a b u s) n 0 p (omega arith) (omega (arith, in-points)) in
        by (eqb p a || (eqb p b || eqb p u)) (λ t. t)
        (λ t.
        let y : same_place s (place_at pts p) ≡ true = ap (same_place s) (sym at-point) ∙ same_refl s in
        differ y (rw t at no_other))

    stood-size : suc (old-tree pts n ks e k l a b u p s rooms).edges.size ≡ n
    stood-size =
        by (eqb p a)
        (λ t.
        let q : p ≡ a = eqb-true _ _ t in
        omega (
          arith,
          counted stood,
          between_none (λ _. 1) p a q,
          ones-not p b (λ v. ends-apart (sym q ∙ v)),
          ones-not p u (λ v. c.not_first (sym v ∙ q)),
          edges-of,
        ))
        (λ t.
        by (eqb p b)
        (λ v.
        let q : p ≡ b = eqb-true _ _ v in
        omega (
          arith,
          counted stood,
          between_none (λ _. 1) p b q,
          ones-not p a (eqb-false _ _ t),
          ones-not p u (λ z. c.not_second (sym z ∙ q)),
          edges-of,
        ))
        (λ v.
        let q : p ≡ u = eqb-true _ _ (rw (t, v) at one_of) in
        omega (
          arith,
          counted stood,
          between_none (λ _. 1) p u q,
          ones-not p a (eqb-false _ _ t),
          ones-not p b (eqb-false _ _ v),
          edges-of,
        )))

    stood-within : Within n (old-tree pts n ks e k l a b u p s rooms).edges.keys
    unfolding laid_at
    stood-within =
        rw (laid_at, there) at
        (within-joined pts n (drop_two e k l ks) e p a b u s few (rank-le pts n s) ha hb c.point
        (within-dropped n e k l ks sound.within))

    stood-sound : Sound net (old-tree pts n ks e k l a b u p s rooms)
    stood-sound = after-sound stood sound.ordered stood-within (λ i h. h) (λ y i. inr i) stood-size

  -- Both

  abbrev result : Tree
  result = laid_at pts n (drop_two e k l ks) e p a b u s

  pub laid-sound : Sound net result
  unfolding laid_at
  laid-sound = by (stands pts n p s) (λ t. rw (laid_at, t) (stood-sound t)) (λ t. rw (laid_at, t) (put-sound t))

  -- no point is new but s
  pub laid-known : (y : Place) → y ∈ points_of result.points result.count → (y ≡ s) ⊎ (y ∈ points_of pts n)
  unfolding laid_at
  laid-known = by (stands pts n p s) (λ t. rw (laid_at, t) (λ y i. inr i)) (λ t. rw (laid_at, t) (put-known t))

  through-s : {m : ℕ → ℕ} {t : Tree} → After pts n ks e k l a b u p s m t →
      sum_over (key_cost net.weights t.points) t.edges.keys t.edges.size + key_cost net.weights pts (get_or ks l 0)
      ≡ sum_over (key_cost net.weights pts) ks (suc (suc e)) + cost_in net s (place_at pts u)
  through-s after =
      omega (
        arith,
        after-costs after sound.within c.edge c.cut c.two ha hb c.point net.weights,
        middle-through net.weights (place_at pts a) (place_at pts b) (place_at pts u),
      )

  -- the total falls by the gain, the cost of L less that from s to u
  pub laid-costs : sum_over (key_cost net.weights result.points) result.edges.keys result.edges.size
      + key_cost net.weights pts (get_or ks l 0)
      ≡ sum_over (key_cost net.weights pts) ks (suc (suc e)) + cost_in net s (place_at pts u)
  unfolding laid_at
  laid-costs = by (stands pts n p s) (λ t. rw (laid_at, t) (through-s (stood t))) (λ t. rw (laid_at, t) (through-s (put t)))

  -- the tables after the exchange, whichever numbers moved on
  pub laid-after : (m : ℕ → ℕ) × After pts n ks e k l a b u p s m result
  unfolding laid_at
  laid-after = by (stands pts n p s) (λ t. rw (laid_at, t) (λ i. i, stood t)) (λ t. rw (laid_at, t) (bump p, put t))
