-- A round on the tree keeps a tree over its points in order, with all pins, every edge clear and the edges in order; it adds at most one
-- point, and the total falls by the gain.
-- Assumes nothing.
use mathlib.Core.Path.{◌≡◌, refl, sym, ap, ◌∙◌, subst}
use mathlib.Core.List.{List}
use Prim.Native.Nat.{ℕ, zero, suc, ◌+◌, ◌-◌, ◌*◌, ◌≤◌, ◌<◌}
use native.Mathlib.Omega.{arith}
use lib.IntN.{ℤ}
use lib.ListN.{length, get_or}
use Rattle.lists.proofs.TestLaws.{by}
use Rattle.plane.specs.declared.Place.{Place}
use Rattle.plane.specs.declared.Weights.{Weights}
use Rattle.plane.specs.Flat.{place_at}
use Rattle.plane.specs.Rank.{rank}
use Rattle.net.specs.Net.{Net}
use Rattle.candidates.specs.declared.Best.{Best}
use Rattle.lists.specs.Turns.{turns}
use Rattle.tree.specs.Table.{tree_bound, first_end, second_end, row, Tree, tree}
use Rattle.longest.specs.Longest.{edge_cost, costs, longest}
use Rattle.candidates.specs.Candidate.{middle_of}
use Rattle.exchanges.specs.Exchange.{drop_two, stands, bump, bump_at, star, laid_at, exchange}
use Rattle.refiner.specs.Refined.{add_cost, total}
use Rattle.tree.specs.Sum.{below, sum_over}
use Rattle.tree.specs.Places.{points_of, key_cost, tree_total, Ranked, Sound}
use Rattle.tree.specs.Outside.{strangers}
use Rattle.candidates.specs.Taken.{Taken}
use Rattle.exchanges.proofs.ExchangeSums.{length-lays, length-bumps, length-dropped}
use Rattle.exchanges.proofs.OpenedLaws.{opened-length}
use Rattle.tree.proofs.ListingLaws.{listing-length}
use Rattle.tree.proofs.PointLaws.{order-once}
use Rattle.tree.proofs.OutsideLaws.{outside-more}
use Rattle.exchanges.proofs.WithinLaws.{rank-le, within-dropped}
use Rattle.exchanges.proofs.RankedLaws.{dropped-ranked, laid-level, ranked-of}
use Rattle.exchanges.proofs.ExchangeSound.{laid-sound, laid-known, laid-costs}
use Rattle.refiner.proofs.CutLaws.{Is, cut-is, the-way}
use Rattle.beside.proofs.HangingLaws.{no-cost}
use Rattle.bounds.proofs.CostLaws.{cost-at}
use Rattle.refiner.proofs.WinnerLaws.{Winner}

-- what is kept where at most m points are new
pub record Lasting (net : Net) (t r : Tree) (m : ℕ) : Type 0 where
  pub sound : Sound net r
  pub total : tree_total net.weights r ≤ tree_total net.weights t
  pub points : (vs : List Place) → strangers vs r ≤ strangers vs t + m
  pub places : length r.points ≡ length t.points
  pub rows : length r.edges.keys ≡ length t.edges.keys
  pub ranked : Ranked t.edges.keys t.edges.size → Ranked r.edges.keys r.edges.size

-- The size of the tables

module _ (pts : List ℤ) (n : ℕ) (ks : List ℕ) (e p a b u : ℕ) (s : Place) where
  pub laid-places : length (laid_at pts n ks e p a b u s).points ≡ length pts
  unfolding laid_at
  laid-places = by (stands pts n p s) (λ t. rw (laid_at, t) refl) (λ t. rw (laid_at, t) (opened-length pts n p s))

  pub laid-rows : length (laid_at pts n ks e p a b u s).edges.keys ≡ length ks
  unfolding laid_at
  laid-rows =
      by (stands pts n p s) (λ t. rw (laid_at, t) (length-lays (star p a b u) (row ks e)))
      (λ t.
      rw (laid_at, t)
      (length-lays (star p (bump p a) (bump p b) (bump p u)) (row (turns (bump_at p) 0 e ks) e) ∙ length-bumps p e ks))

-- One round

module _ (net : Net) (pts : List ℤ) (n : ℕ) (ks : List ℕ) (e : ℕ) (sound : Sound net (tree pts n ks (suc e)))
    (few : n < tree_bound) (g k u l : ℕ) (win : Winner net.weights net.macros pts n ks (suc e) (costs net.weights pts ks (suc e))
    (longest ks (costs net.weights pts ks (suc e)) (suc e) n) g k u l) where
  pub sized : suc (suc e) ≡ n
  sized = ap suc (sym (listing-length _ (suc e))) ∙ sound.whole.size ∙ listing-length (place_at pts) n

  abbrev Cut : ℕ → Type 0
  Cut x =
      Is pts n ks e (costs net.weights pts ks (suc e)) sound.ordered (omega arith) (omega (arith, sized))
      (no-cost net.weights pts ks (suc e) (omega (arith, sized)))
      sound.within
      sound.whole k u win.edge win.point win.not_first win.not_second x

  -- L is the longest edge on the way
  pub cut-longest : Cut l
  unfolding longest
  cut-longest =
      subst Cut (sym win.cut)
      (cut-is pts n ks e (costs net.weights pts ks (suc e)) sound.ordered (omega arith) (omega (arith, sized))
      (no-cost net.weights pts ks (suc e) (omega (arith, sized)))
      sound.within sound.whole k u win.edge win.point win.not_first win.not_second)

  pub taken : Taken net.macros pts n ks (suc e) k l u
  taken = record {
    edge = win.edge;
    cut = cut-longest.1.0;
    two = λ q. win.two (sym q);
    point = win.point;
    not_first = win.not_first;
    not_second = win.not_second;
    seen = win.seen;
    kept = win.kept;
    toward =
        the-way pts n ks e (costs net.weights pts ks (suc e)) sound.ordered (omega arith) (omega (arith, sized))
        (no-cost net.weights pts ks (suc e) (omega (arith, sized))) sound.within
        sound.whole k u win.edge win.point win.not_first win.not_second;
    one = cut-longest.1.1.0;
    other = cut-longest.1.1.1.0;
    on = cut-longest.1.1.1.1.0;
    longest = cut-longest.1.1.1.1.1;
  }

module _ (net : Net) (pts : List ℤ) (n : ℕ) (ks : List ℕ) (few : n < tree_bound)
    (room : length pts ≡ tree_bound * 2)
    (rooms : length ks ≡ tree_bound) where
  abbrev pub Won : ℕ → Best → Type 0
  Won e c =
      let el = costs net.weights pts ks e in
      Winner net.weights net.macros pts n ks e el (longest ks el e n) c.gain c.edge c.point c.cut

  pub exchange-laid : (c : Best) (e : ℕ) → exchange c pts n ks (suc (suc e))
      ≡ laid_at pts n (drop_two e c.edge c.cut ks) e
      (rank pts n (middle_of pts (first_end (get_or ks c.edge 0)) (second_end (get_or ks c.edge 0))
      c.point))
      (first_end (get_or ks c.edge 0)) (second_end (get_or ks c.edge 0)) c.point
      (middle_of pts (first_end (get_or ks c.edge 0)) (second_end (get_or ks c.edge 0)) c.point)
  unfolding exchange
  exchange-laid c e = let z : suc (suc e) - 2 ≡ e = omega arith in rw z refl

  -- R14: the sum of the edges falls by the gain
  pub round-falls : (c : Best) (e : ℕ) → Sound net (tree pts n ks e) → Won e c →
      tree_total net.weights (exchange c pts n ks e) + c.gain ≡ tree_total net.weights (tree pts n ks e)
  round-falls c zero sound win = absurd (let z : ⊥ = omega (arith, win.edge) in z)
  round-falls c (suc zero) sound win =
      let t = taken net pts n ks 0 sound few c.gain c.edge c.point c.cut win in
      absurd (win.two (let z : c.cut ≡ c.edge = omega (arith, t.edge, t.cut) in z))
  round-falls c (suc (suc e)) sound win =
      let t = taken net pts n ks (suc e) sound few c.gain c.edge c.point c.cut win in
      let s = sized net pts n ks (suc e) sound few c.gain c.edge c.point c.cut win in
      let l = laid-costs net pts n ks e c.edge c.cut c.point sound t few (omega arith) (omega (arith, s)) in
      let at = cost-at net.weights pts ks (suc (suc e)) c.cut (omega (arith, s)) t.cut in
      rw (exchange-laid c e) (omega (arith, l, at, win.gained))

  pub round-kept : (c : Best) (e : ℕ) → Sound net (tree pts n ks e) → Won e c → Lasting net (tree pts n ks e) (exchange c pts n ks e) 1
  round-kept c zero sound win = absurd (let z : ⊥ = omega (arith, win.edge) in z)
  round-kept c (suc zero) sound win =
      let t = taken net pts n ks 0 sound few c.gain c.edge c.point c.cut win in
      absurd (win.two (let z : c.cut ≡ c.edge = omega (arith, t.edge, t.cut) in z))
  round-kept c (suc (suc e)) sound win =
      let t = taken net pts n ks (suc e) sound few c.gain c.edge c.point c.cut win in
      let s = sized net pts n ks (suc e) sound few c.gain c.edge c.point c.cut win in
      let k = get_or ks c.edge 0 in
      let m = middle_of pts (first_end k) (second_end k) c.point in
      let left = drop_two e c.edge c.cut ks in
      let l = laid-costs net pts n ks e c.edge c.cut c.point sound t few (omega arith) (omega (arith, s)) in
      let at = cost-at net.weights pts ks (suc (suc e)) c.cut (omega (arith, s)) t.cut in
      let new = laid_at pts n left e (rank pts n m) (first_end k) (second_end k) c.point m in
      let after = laid-sound net pts n ks e c.edge c.cut c.point sound t few (omega arith) (omega (arith, s)) in
      rw (exchange-laid c e) (record {
        sound = after;
        total = omega (arith, l, at, win.gained);
        points =
            λ vs.
            outside-more vs (points_of pts n) (points_of new.points new.count) m
            (order-once new.points new.count after.ordered)
            (laid-known net pts n ks e c.edge c.cut c.point sound t few (omega arith) (omega (arith, s)));
        places = laid-places pts n left e (rank pts n m) (first_end k) (second_end k) c.point m;
        rows = laid-rows pts n left e (rank pts n m) (first_end k) (second_end k) c.point m ∙ length-dropped e c.edge c.cut ks;
        ranked =
            λ r.
            ranked-of new after
            (laid-level pts n left e (rank pts n m) (first_end k) (second_end k) c.point m few
            (rw (length-dropped e c.edge c.cut ks) (omega (arith, s))) (rank-le pts n m)
            (sound.within.ends c.edge).0 (sound.within.ends c.edge).1 win.point
            (within-dropped n e c.edge c.cut ks sound.within) (dropped-ranked e c.edge c.cut ks r));
      })

-- the sum that the contract speaks of is this one
sum-last : (w : Weights) (pts : List ℤ) (ks : List ℕ) (c i s : ℕ) → turns (add_cost w pts ks) i (suc c) s ≡ key_cost w pts (get_or ks (i + c) 0)
    + turns (add_cost w pts ks) i c s
unfolding turns add_cost edge_cost
sum-last w pts ks zero i s = let z : i + 0 ≡ i = omega arith in rw z (omega arith)
sum-last w pts ks (suc c) i s = let z : i + suc c ≡ suc i + c = omega arith in
    rw z (sum-last w pts ks c (suc i) (s + key_cost w pts (get_or ks i 0)))

summed : (w : Weights) (pts : List ℤ) (ks : List ℕ) (c : ℕ) → turns (add_cost w pts ks) 0 c 0 ≡ sum_over (key_cost w pts) ks c
unfolding turns below
summed w pts ks zero = refl
summed w pts ks (suc c) =
    let z : 0 + c ≡ c = omega arith in
    let r : turns (add_cost w pts ks) 0 (suc c) 0 ≡ key_cost w pts (get_or ks c 0) + turns (add_cost w pts ks) 0 c 0 = rw z at
    (sum-last w pts ks c 0 0) in
    r ∙ ap (λ (x : ℕ). key_cost w pts (get_or ks c 0) + x) (summed w pts ks c)

pub total_of : (w : Weights) (pts : List ℤ) (n : ℕ) (ks : List ℕ) (e : ℕ) → total w pts ks e ≡ tree_total w (tree pts n ks e)
unfolding total
total_of w pts n ks e = summed w pts ks e
