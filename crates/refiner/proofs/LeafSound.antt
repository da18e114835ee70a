-- R27, one step: a point put in and hung on a point of the tree keeps the tree sound. Its points are those of before and the new one, its
-- edges those of before and the new one, whatever numbers they have; edges that were followed have kept their ends.
-- Assumes nothing.
use mathlib.Core.Path.{◌≡◌, refl, sym, ap, ap₂, ◌∙◌, subst}
use mathlib.Core.Bool.{true, false, ◌&&◌}
use mathlib.Core.Logic.{◌⊎◌, inl, inr}
use mathlib.Core.List.Memᴰ
use mathlib.Core.List.{List}
use Prim.Native.Nat.{ℕ, suc, ◌+◌, ◌-◌, ◌*◌, ◌≤◌, ◌<◌}
use native.Mathlib.Omega.{arith}
use native.Mathlib.Numerals.{add-one}
use lib.Dec.{ltb}
use lib.IntN.{ℤ}
use lib.ListN.{length, get_or}
use borrow.Author.Tests.{ltb-true, ltb-false}
use Rattle.lists.specs.Member.{◌∈◌}
use Rattle.lists.proofs.TestLaws.{by, either, and_left, and_right}
use Rattle.plane.specs.declared.Place.{Place}
use Rattle.plane.specs.Place.{same_place}
use Rattle.plane.specs.Cost.{cost}
use Rattle.plane.specs.Macro.{clear}
use Rattle.plane.specs.Flat.{place_at}
use Rattle.plane.specs.Rank.{rank}
use Rattle.plane.proofs.PlaceLaws.{same_true}
use Rattle.plane.proofs.CostLaws.{cost-comm}
use Rattle.plane.proofs.MacroLaws.{clear_comm}
use Rattle.net.specs.Net.{Net, cost_in}
use Rattle.joined.specs.Joined.{Joined, stay}
use Rattle.joined.specs.Tree as joined
use Rattle.joined.proofs.JoinedLaws.{one as one_link, then, back, more}
use Rattle.tree.specs.Table.{tree_bound, first_end, second_end, Tree, tree, In, Within}
use Rattle.tree.specs.Sum.{sum_over}
use Rattle.tree.specs.Places.{ends_of, points_of, edges_of, key_cost, tree_total, Ranked, Sound}
use Rattle.tree.proofs.SumLaws.{below-same, below-some, one, one_same, one-some, in_table, of-table}
use Rattle.tree.proofs.ListingLaws.{listing-length, in-listing, of-listing}
use Rattle.tree.proofs.PointLaws.{order-once}
use Rattle.lists.specs.Turns.{turns}
use Rattle.exchanges.specs.Exchange.{stands, opened, bump, bump_at, carrying}
use Rattle.refiner.specs.Graft.{Grown, pair_key, key_rank, leaf}
use Rattle.exchanges.proofs.WithinLaws.{rank-le, bump-in, within_more, within-bumped, within-carrying}
use Rattle.exchanges.proofs.ExchangeSums.{bump_key, bumps_at, over-carrying, over-bumped, length-bumps, length-carrying}
use Rattle.exchanges.proofs.OpenedLaws.{opened-length, opened-low, opened-new, opened-past, opened-bump, opened-order}
use Rattle.exchanges.proofs.AfterLaws.{first_of, second-of}
use Rattle.exchanges.proofs.RankedLaws.{Level, carry-level, bumped-ranked, ranked-level, ranked-of}
use Rattle.refiner.proofs.CutSound.{tree-size}
use Rattle.exchanges.proofs.ExchangeSound.{bump-not}
use Rattle.refiner.proofs.GraftLaws.{in_pair, bump-apart}
use Rattle.refiner.proofs.CarriedLaws.{carried-at}

-- the ends of the edge of two points, in one order or the other
pair_ends : (pts : List ℤ) (a b : ℕ) → a < tree_bound → b < tree_bound →
    (ends_of pts (pair_key a b) ≡ (place_at pts a, place_at pts b)) ⊎ (ends_of pts (pair_key a b) ≡ (place_at pts b, place_at pts a))
unfolding pair_key
pair_ends pts a b ha hb =
    by (ltb a b)
    (λ t. rw (pair_key, t) (inl (ap₂ (λ (y z : Place). (y, z)) (ap (place_at pts) (first_of a b hb)) (ap (place_at pts) (second-of a b hb)))))
    (λ t. rw (pair_key, t) (inr (ap₂ (λ (y z : Place). (y, z)) (ap (place_at pts) (first_of b a ha)) (ap (place_at pts) (second-of b a ha)))))

pair-up : (a b : ℕ) → a < tree_bound → b < tree_bound → (a ≡ b → ⊥) → first_end (pair_key a b) < second_end (pair_key a b)
unfolding pair_key
pair-up a b ha hb n =
    by (ltb a b)
    (λ t. rw (pair_key, t) (omega (arith, ltb-true a b t, first_of a b hb, second-of a b hb)))
    (λ t. rw (pair_key, t) (omega (arith, ltb-false a b t, n, first_of b a ha, second-of b a ha)))

module _ (net : Net) (g : Grown) (x : Place) (sound : Sound net g.tree) (ranked : Ranked g.tree.edges.keys g.tree.edges.size)
    (few : g.tree.count < tree_bound) (places : length g.tree.points ≡ tree_bound * 2)
    (rows : length g.tree.edges.keys ≡ tree_bound) (last : g.last < g.tree.count)
    (fresh : x ∈ points_of g.tree.points g.tree.count → ⊥)
    (seen : clear x (place_at g.tree.points g.last) net.macros ≡ true) where
  abbrev pub pts : List ℤ
  pts = g.tree.points

  abbrev pub n : ℕ
  n = g.tree.count

  abbrev pub ks : List ℕ
  ks = g.tree.edges.keys

  abbrev pub e : ℕ
  e = g.tree.edges.size

  abbrev pub y : Place
  y = place_at pts g.last

  abbrev pub p : ℕ
  p = rank pts n x

  abbrev pub qts : List ℤ
  qts = opened pts n p x

  abbrev pub moved : List ℕ
  moved = turns (bump_at p) 0 e ks

  abbrev pub j : ℕ
  j = pair_key p (bump p g.last)

  abbrev pub ls : List ℕ
  ls = carrying 0 e j moved

  abbrev pub r : ℕ
  r = key_rank moved e j

  abbrev pub after : Tree
  after = tree qts (n + 1) ls (e + 1)

  sized : suc e ≡ n
  sized = tree-size net g.tree sound

  room : n * 2 + 2 ≤ length pts
  room = omega (arith, places)

  -- Points

  is-new : stands pts n p x ≡ false
  unfolding stands
  is-new =
      by (ltb p n && same_place x (place_at pts p))
      (λ t.
      absurd (fresh (Memᴰ.cast (same_true x (place_at pts p) (and_right (ltb p n) _ t))
      (in-listing (place_at pts) n p (ltb-true p n (and_left _ _ t))))))
      (λ t. t)

  pub old-at : (i : ℕ) → i < n → place_at qts (bump p i) ≡ place_at pts i
  old-at i h = opened-bump pts n p x (rank-le pts n x) room i h

  pub new-at : place_at qts p ≡ x
  new-at = opened-new pts n p x (rank-le pts n x) room

  last-low : bump p g.last < n + 1
  last-low = bump-in n p g.last last

  p-low : p < n + 1
  p-low = omega (arith, rank-le pts n x)

  pub known : (z : Place) → z ∈ points_of qts (n + 1) → (z ≡ x) ⊎ (z ∈ points_of pts n)
  known z m = at (of-listing (place_at qts) (n + 1) z m)
    where
      at : (i : ℕ) × ((i < n + 1) × (z ≡ place_at qts i)) → (z ≡ x) ⊎ (z ∈ points_of pts n)
      at w =
          by (ltb w.0 p)
          (λ t.
          let h : w.0 < p = ltb-true _ _ t in
          inr (Memᴰ.cast (w.1.1 ∙ opened-low pts n p x (rank-le pts n x) room w.0 h)
          (in-listing (place_at pts) n w.0 (omega (arith, rank-le pts n x)))))
          (λ t.
          by (ltb p w.0)
          (λ v.
          let h : p < w.0 = ltb-true _ _ v in
          inr (Memᴰ.cast (w.1.1 ∙ opened-past pts n p x (rank-le pts n x) room w.0 h (omega (arith, w.1.0)))
          (in-listing (place_at pts) n (w.0 - 1) (omega (arith, w.1.0)))))
          (λ v.
          let q : w.0 ≡ p = omega (arith, ltb-false w.0 p t, ltb-false p w.0 v) in
          inl (w.1.1 ∙ ap (place_at qts) q ∙ new-at)))

  pub point-old : (z : Place) → z ∈ points_of pts n → z ∈ points_of qts (n + 1)
  point-old z m =
      let w = of-listing (place_at pts) n z m in
      Memᴰ.cast (w.1.1 ∙ sym (old-at w.0 w.1.0)) (in-listing (place_at qts) (n + 1) (bump p w.0) (bump-in n p w.0 w.1.0))

  pub point-new : x ∈ points_of qts (n + 1)
  point-new = Memᴰ.cast (sym new-at) (in-listing (place_at qts) (n + 1) p p-low)

  -- Edges

  moved_ends : (k : ℕ) → In n k → ends_of qts (bump_key p k) ≡ ends_of pts k
  moved_ends k i =
      let low : bump p (second_end k) < tree_bound = omega (arith, bump-in n p (second_end k) i.1) in
      ap₂ (λ (a b : Place). (a, b)) (ap (place_at qts) (first_of (bump p (first_end k)) (bump p (second_end k)) low) ∙ old-at _ i.0)
      (ap (place_at qts) (second-of (bump p (first_end k)) (bump p (second_end k)) low) ∙ old-at _ i.1)

  moved-rows : length moved ≡ tree_bound
  moved-rows = length-bumps p e ks ∙ rows

  moved-ranked : Ranked moved e
  moved-ranked = bumped-ranked n p e ks few (omega (arith, rows, sized)) sound.within ranked

  -- an edge that is followed
  pub edge-at : (i : ℕ) → i < e → ends_of qts (get_or ls (bump r i) 0) ≡ ends_of pts (get_or ks i 0)
  edge-at i h =
      ap (ends_of qts)
      (carried-at moved e j (omega (arith, moved-rows, sized)) moved-ranked.rising i h
      ∙ bumps_at p e 0 ks i (omega (arith, rows, sized)) (omega arith) (omega arith))
      ∙ moved_ends (get_or ks i 0) (sound.within.ends i)

  sums : (f : ℕ → ℕ) → sum_over f ls (e + 1) ≡ f j + sum_over (λ k. f (bump_key p k)) ks e
  sums f =
      ap (sum_over f ls) (add-one e)
      ∙ over-carrying f e j moved (omega (arith, moved-rows, sized))
      ∙ ap (λ (s : ℕ). f j + s) (over-bumped f p e ks (omega (arith, rows, sized)))

  -- the new edge
  pub new-ends : (ends_of qts j ≡ (x, y)) ⊎ (ends_of qts j ≡ (y, x))
  new-ends =
      let old = old-at g.last last in
      either
      (λ q. inl (q ∙ ap₂ (λ (a b : Place). (a, b)) new-at old))
      (λ q. inr (q ∙ ap₂ (λ (a b : Place). (a, b)) old new-at))
      (pair_ends qts p (bump p g.last) (omega (arith, p-low)) (omega (arith, last-low)))

  pub edge-new : ends_of qts j ∈ edges_of qts ls (e + 1)
  edge-new =
      let w = in_table j ls (e + 1) (omega (arith, sums (one j), one_same j)) in
      Memᴰ.cast (ap (ends_of qts) (sym w.1.1)) (in-listing (λ i. ends_of qts (get_or ls i 0)) (e + 1) w.0 w.1.0)

  r-in : (i : ℕ) → i < e → bump r i < e + 1
  r-in i h = bump-in e r i h

  pub edge-old : (z : Place × Place) → z ∈ edges_of pts ks e → z ∈ edges_of qts ls (e + 1)
  edge-old z m =
      let w = of-listing (λ i. ends_of pts (get_or ks i 0)) e z m in
      Memᴰ.cast (w.1.1 ∙ sym (edge-at w.0 w.1.0))
      (in-listing (λ i. ends_of qts (get_or ls i 0)) (e + 1) (bump r w.0) (r-in w.0 w.1.0))

  pub edge-known : (z : Place × Place) → z ∈ edges_of qts ls (e + 1) → (z ≡ ends_of qts j) ⊎ (z ∈ edges_of pts ks e)
  edge-known z m = at (of-listing (λ i. ends_of qts (get_or ls i 0)) (e + 1) z m)
    where
      at : (i : ℕ) × ((i < e + 1) × (z ≡ ends_of qts (get_or ls i 0))) → (z ≡ ends_of qts j) ⊎ (z ∈ edges_of pts ks e)
      at w =
          let k = get_or ls w.0 0 in
          let all = sums (one k) in
          let some = of-table ls (e + 1) w.0 w.1.0 in
          by (ltb 0 (one k j))
          (λ t. inl (w.1.1 ∙ ap (ends_of qts) (sym (one-some k j (ltb-true _ _ t)))))
          (λ t.
          let v = below-some (λ i. one k (bump_key p (get_or ks i 0))) e (omega (arith, all, some, ltb-false 0 (one k j) t)) in
          inr (Memᴰ.cast
          (w.1.1 ∙ ap (ends_of qts) (sym (one-some k (bump_key p (get_or ks v.0 0)) v.1.1))
          ∙ moved_ends (get_or ks v.0 0) (sound.within.ends v.0))
          (in-listing (λ i. ends_of pts (get_or ks i 0)) e v.0 v.1.0)))

  -- A tree

  to-new : Joined (edges_of qts ls (e + 1)) x y
  to-new = either (λ q. one_link (inl (Memᴰ.cast (sym q) edge-new))) (λ q. one_link (inr (Memᴰ.cast (sym q) edge-new))) new-ends

  after-tree : joined.TreeOn (points_of qts (n + 1)) (edges_of qts ls (e + 1))
  after-tree = record {
    once = order-once qts (n + 1) (opened-order pts n x sound.ordered is-new room);
    joins = λ a b i k. then (back (to (known a i))) (to (known b k));
    size = omega (arith, listing-length (λ i. ends_of qts (get_or ls i 0)) (e + 1), listing-length (place_at qts) (n + 1), sized);
  }
    where
      to : {z : Place} → (z ≡ x) ⊎ (z ∈ points_of pts n) → Joined (edges_of qts ls (e + 1)) y z
      to (inl q) = then (back to-new) (stay (sym q))
      to (inr m) = more edge-old (sound.whole.joins y _ (in-listing (place_at pts) n g.last last) m)

  after-within : Within (n + 1) ls
  after-within =
      within-carrying (n + 1) 0 e j moved (in_pair (n + 1) p (bump p g.last) p-low last-low (omega arith))
      (within-bumped n p few e 0 ks (within_more n ks sound.within) (λ i _. sound.within.ends i))

  after-clear : (z : Place × Place) → (z ≡ ends_of qts j) ⊎ (z ∈ edges_of pts ks e) → clear z.0 z.1 net.macros ≡ true
  after-clear z (inl q) =
      either
      (λ s. subst (λ (w : Place × Place). clear w.0 w.1 net.macros ≡ true) (sym (q ∙ s)) seen)
      (λ s. subst (λ (w : Place × Place). clear w.0 w.1 net.macros ≡ true) (sym (q ∙ s)) (clear_comm y x net.macros ∙ seen))
      new-ends
  after-clear z (inr m) =
      let w = of-listing (λ i. ends_of pts (get_or ks i 0)) e z m in
      subst (λ (w : Place × Place). clear w.0 w.1 net.macros ≡ true) (sym w.1.1) (sound.free w.0 w.1.0)

  pub after-sound : Sound net after
  after-sound = record {
    ordered = opened-order pts n x sound.ordered is-new room;
    within = after-within;
    whole = after-tree;
    free = λ i h. after-clear _ (edge-known _ (in-listing (λ k. ends_of qts (get_or ls k 0)) (e + 1) i h));
    pinned = λ z m. point-old z (sound.pinned z m);
  }

  pub after-ranked : Ranked ls (e + 1)
  after-ranked =
      ranked-of after after-sound
      (let z : suc (0 + e) ≡ e + 1 = omega arith in
      let n : e ≡ 0 + e = omega arith in
      subst (λ (k : ℕ). Level ls k) z
      (carry-level e 0 j moved (omega (arith, moved-rows, sized))
      (pair-up p (bump p g.last) (omega (arith, p-low)) (omega (arith, last-low)) (bump-not p g.last))
      (λ i h. absurd (let y : ⊥ = omega arith in y)) (subst (λ (k : ℕ). Level moved k) n (ranked-level moved-ranked))))

  pub after-places : length qts ≡ tree_bound * 2
  after-places = opened-length pts n p x ∙ places

  pub after-rows : length ls ≡ tree_bound
  after-rows = length-carrying 0 e j moved ∙ moved-rows

  -- the two edges that are followed stay two
  pub after_two : (a b : ℕ) → (a ≡ b → ⊥) → bump r a ≡ bump r b → ⊥
  after_two a b = bump-apart r a b

  -- the sum grows by the new edge
  pub after-total : tree_total net.weights after ≡ cost_in net x y + tree_total net.weights g.tree
  after-total =
      let w = net.weights in
      let old : sum_over (λ k. key_cost w qts (bump_key p k)) ks e ≡ sum_over (key_cost w pts) ks e
      = below-same _ _ e (λ i h. ap (λ (z : Place × Place). cost w z.0 z.1) (moved_ends (get_or ks i 0) (sound.within.ends i))) in
      let new : key_cost w qts j ≡ cost w x y
      = either (λ q. ap (λ (z : Place × Place). cost w z.0 z.1) q)
      (λ q. ap (λ (z : Place × Place). cost w z.0 z.1) q ∙ cost-comm w y x) new-ends in
      omega (arith, sums (key_cost w qts), old, new)

  -- what stands there is what is worked out
  pub leaf-after : leaf x g ≡ record { tree = after; last = p; edge = bump r g.edge; cut = bump r g.cut }
  unfolding leaf
  leaf-after = refl
