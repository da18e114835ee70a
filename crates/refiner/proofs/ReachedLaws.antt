-- All points of a tree are reached: a sweep over the edges reaches the neighbours of what was reached, and no loop-free way has more
-- steps than the tree has edges.
-- Assumes nothing.
use mathlib.Core.Path.{◌≡◌, refl, sym, ap, ap₂, ◌∙◌, subst}
use mathlib.Core.Logic.{◌⊎◌, inl, inr}
use mathlib.Core.List.Memᴰ
use mathlib.Core.List.{List, [], ◌∷◌}
use Prim.Native.Nat.{ℕ, zero, suc, ◌+◌, ◌≤◌, ◌<◌}
use native.Mathlib.Omega.{arith}
use lib.Dec.{ltb, eqb}
use lib.IntN.{ℤ}
use lib.ListN.{length, get_or, set, length-set, replicate}
use borrow.Author.Tests.{ltb-true, ltb-false, eqb-true, eqb-false}
use Rattle.lists.specs.Member.{◌∈◌, Among}
use Rattle.lists.proofs.TestLaws.{by, either}
use Rattle.lists.proofs.MemberLaws.{once-length}
use Rattle.plane.specs.declared.Place.{Place}
use Rattle.plane.specs.Flat.{place_at}
use Rattle.plane.specs.Rank.{InOrder}
use Rattle.joined.specs.Joined.{Link}
use Rattle.joined.specs.Tree as joined
use Rattle.joined.specs.Way.{Way, stop, go}
use Rattle.joined.specs.Exchange.{steps}
use Rattle.joined.proofs.WayLaws.{joined_free}
use Rattle.lists.specs.Turns.{turns}
use Rattle.tree.specs.Table.{tree_bound, pair_bound, key, first_end, second_end, Within}
use Rattle.longest.specs.Longest.{no_edge, Reach, hang, attach, pass, reached, start}
use Rattle.tree.specs.Places.{ends_of, points_of, edges_of}
use Rattle.lists.proofs.TurnLaws.{turns-keep, turns-below}
use Rattle.tree.proofs.SumLaws.{other, here as put-here}
use Rattle.tree.proofs.ListingLaws.{listing-length, in-listing, of-listing}
use Rattle.tree.proofs.PointLaws.{same-place}
use Rattle.exchanges.proofs.PruneSound.{order_same}
use Rattle.refiner.proofs.LongestSound.{Ends, Known, Good, hung}

same-entry : (m x i : ℕ) → i < m → get_or (replicate m x) i 0 ≡ x
same-entry zero x i h = absurd (let z : ⊥ = omega arith in z)
same-entry (suc m) x zero h = refl
same-entry (suc m) x (suc i) h = same-entry m x i (omega arith)

zero-entry : (m i : ℕ) → ◌≡◌ {A = ℕ} (get_or (replicate m 0) i 0) 0
zero-entry zero i = refl
zero-entry (suc m) zero = refl
zero-entry (suc m) (suc i) = zero-entry m i

abbrev zeros : List ℕ
zeros = replicate tree_bound 0

same_length : (m x : ℕ) → length (replicate m x) ≡ m
same_length zero x = refl
same_length (suc m) x = ap suc (same_length m x)

module _ (pts : List ℤ) (n : ℕ) (ks : List ℕ) (e : ℕ) (el : List ℕ) (o : InOrder pts n) (few : n ≤ tree_bound) (fewer : e < tree_bound)
    (none : get_or el no_edge 0 ≡ 0) (alone : (i j : ℕ) (c d : Place) → i < e → j < e → Ends pts n ks e el i c d → Ends pts n ks e el j c d →
    i ≡ j)
    (w : Within n ks) where
  abbrev Fine : Reach → Type 0
  Fine r = Good pts n ks e el r

  abbrev Has : Reach → ℕ → Type 0
  Has r i = get_or r.seen i 0 ≡ 1

  -- one edge
  module _ (k : ℕ) (hk : k < e) (r : Reach) (good : Fine r) where
    abbrev a : ℕ
    a = first_end (get_or ks k 0)

    abbrev b : ℕ
    b = second_end (get_or ks k 0)

    zero_or : (i j : ℕ) → (get_or r.seen i 0 ≡ get_or r.seen j 0 → ⊥) → get_or r.seen i 0 ≡ 0 → Has r j
    zero_or i j d z = either (λ q. absurd (d (z ∙ sym q))) (λ q. q) (good.marks j)

    one-or : (i : ℕ) → (get_or r.seen i 0 ≡ 0 → ⊥) → Has r i
    one-or i d = either (λ q. absurd (d q)) (λ q. q) (good.marks i)

    pub pass-good : Fine (pass ks el n k r)
    unfolding pass attach hang
    pass-good =
        by (eqb (get_or r.seen a 0) (get_or r.seen b 0)) (λ t. rw (attach, t) good)
        (λ t.
        let d = eqb-false _ _ t in
        by (eqb (get_or r.seen a 0) 0)
        (λ s.
        let z = eqb-true _ _ s in
        rw (attach, t, s)
        (hung pts n ks e el o few fewer none alone r good a b k (w.ends k).0 ((w.ends k).1, zero_or a b d z) z hk (inl (refl, refl))))
        (λ s.
        let q = one-or a (eqb-false _ _ s) in
        let z : get_or r.seen b 0 ≡ 0 = either (λ y. y) (λ y. absurd (d (q ∙ sym y))) (good.marks b) in
        rw (attach, t, s)
        (hung pts n ks e el o few fewer none alone r good b a k (w.ends k).1 ((w.ends k).0, q) z hk (inr (refl, refl)))))

    set-has : (v i : ℕ) → v < n → Has r i → get_or (set r.seen v 1) i 0 ≡ 1
    set-has v i h s =
        by (eqb v i)
        (λ q. ap (λ (j : ℕ). get_or (set r.seen v 1) j 0) (sym (eqb-true v i q)) ∙ put-here r.seen v 1 (rw good.room (omega arith)))
        (λ q. other r.seen v i 1 (eqb-false v i q) ∙ s)

    pub pass-keeps : (i : ℕ) → Has r i → Has (pass ks el n k r) i
    unfolding pass attach hang
    pass-keeps i s =
        by (eqb (get_or r.seen a 0) (get_or r.seen b 0)) (λ t. rw (attach, t) s)
        (λ t. by (eqb (get_or r.seen a 0) 0) (λ q. rw (attach, t, q) (set-has a i (w.ends k).0 s))
        (λ q. rw (attach, t, q) (set-has b i (w.ends k).1 s)))

    pub pass-both : Has r a ⊎ Has r b → Has (pass ks el n k r) a × Has (pass ks el n k r) b
    unfolding pass attach hang
    pass-both h =
        by (eqb (get_or r.seen a 0) (get_or r.seen b 0))
        (λ t.
        let q = eqb-true _ _ t in
        rw (attach, t) (either (λ x. (x, sym q ∙ x)) (λ x. (q ∙ x, x)) h))
        (λ t.
        let d = eqb-false _ _ t in
        by (eqb (get_or r.seen a 0) 0)
        (λ s.
        let y = zero_or a b d (eqb-true _ _ s) in
        rw (attach, t, s) (put-here r.seen a 1 (rw good.room (omega (arith, (w.ends k).0))), set-has a b (w.ends k).0 y))
        (λ s.
        let y = one-or a (eqb-false _ _ s) in
        rw (attach, t, s) (set-has b a (w.ends k).1 y, put-here r.seen b 1 (rw good.room (omega (arith, (w.ends k).1))))))

  -- A sweep

  keeps : (c i : ℕ) (r : Reach) → Fine r → i + c ≤ e → (x : ℕ) → Has r x → Has (turns (pass ks el n) i c r) x
  unfolding turns
  keeps zero i r g h x s = s
  keeps (suc c) i r g h x s = keeps c (suc i) (pass ks el n i r) (pass-good i (omega arith) r g) (omega arith) x
      (pass-keeps i (omega arith) r g x s)

  reaches : (c i : ℕ) (r : Reach) → Fine r → i + c ≤ e → (j : ℕ) → i ≤ j → j < i + c →
      Has r (first_end (get_or ks j 0)) ⊎ Has r (second_end (get_or ks j 0)) →
      Has (turns (pass ks el n) i c r) (first_end (get_or ks j 0)) × Has (turns (pass ks el n) i c r) (second_end (get_or ks j 0))
  unfolding turns
  reaches zero i r g h j l m s = absurd (let z : ⊥ = omega arith in z)
  reaches (suc c) i r g h j l m s =
      let next = pass ks el n i r in
      let good = pass-good i (omega arith) r g in
      by (ltb i j)
      (λ t.
      reaches c (suc i) next good (omega arith) j (ltb-true i j t) (omega arith)
      (either (λ q. inl (pass-keeps i (omega arith) r g _ q)) (λ q. inr (pass-keeps i (omega arith) r g _ q)) s))
      (λ t.
      let q : i ≡ j = omega (arith, ltb-false i j t) in
      let two = pass-both i (omega arith) r g (subst (λ (y : ℕ). Has r (first_end (get_or ks y 0)) ⊎ Has r (second_end (get_or ks y 0)))
      (sym q) s) in
      subst (λ (y : ℕ). Has (turns (pass ks el n) (suc i) c next) (first_end (get_or ks y 0)) × Has (turns (pass ks el n) (suc i) c next)
      (second_end (get_or ks y 0))) q
      (keeps c (suc i) next good (omega arith) _ two.0, keeps c (suc i) next good (omega arith) _ two.1))

  abbrev sweep : ℕ → Reach → Reach
  sweep _ r = turns (pass ks el n) 0 e r

  sweep-good : (r : Reach) → Fine r → Fine (sweep 0 r)
  sweep-good r g = turns-below (pass ks el n) Fine e (λ j t h q. pass-good j h t q) e 0 r (omega arith) g

  sweeps-keep : (c i : ℕ) (r : Reach) → Fine r → (x : ℕ) → Has r x → Has (turns sweep i c r) x
  unfolding turns
  sweeps-keep zero i r g x s = s
  sweeps-keep (suc c) i r g x s = sweeps-keep c (suc i) (sweep 0 r) (sweep-good r g) x (keeps e 0 r g (omega arith) x s)

  -- along a way, a sweep a step
  along : (ps : List Place) (c i : ℕ) (r : Reach) → Fine r → (x y : ℕ) → x < n → y < n → Has r x →
      Way (edges_of pts ks e) (place_at pts x) ps (place_at pts y) →
      length ps ≤ c → Has (turns sweep i c r) y
  unfolding turns
  along [] c i r g x y hx hy s (stop q) l = sweeps-keep c i r g y (subst (λ (z : ℕ). Has r z) (order_same pts n x y o hx hy q) s)
  along (z ∷ ps) zero i r g x y hx hy s v l = absurd (let f : ⊥ = omega arith in f)
  along (z ∷ ps) (suc c) i r g x y hx hy s (go (inl m) v) l =
      let q = of-listing (λ j. ends_of pts (get_or ks j 0)) e (place_at pts x, z) m in
      let f = w.ends q.0 in
      let at : x ≡ first_end (get_or ks q.0 0) = order_same pts n _ _ o hx f.0 (ap (λ (t : Place × Place). t.0) q.1.1) in
      let two = reaches e 0 r g (omega arith) q.0 (omega arith) (omega (arith, q.1.0)) (inl (subst (λ (t : ℕ). Has r t) at s)) in
      along ps c (suc i) (sweep 0 r) (sweep-good r g) (second_end (get_or ks q.0 0)) y f.1 hy two.1
      (subst (λ (t : Place). Way (edges_of pts ks e) t ps (place_at pts y)) (ap (λ (t : Place × Place). t.1) q.1.1) v) (omega arith)
  along (z ∷ ps) (suc c) i r g x y hx hy s (go (inr m) v) l =
      let q = of-listing (λ j. ends_of pts (get_or ks j 0)) e (z, place_at pts x) m in
      let f = w.ends q.0 in
      let at : x ≡ second_end (get_or ks q.0 0) = order_same pts n _ _ o hx f.1 (ap (λ (t : Place × Place). t.1) q.1.1) in
      let two = reaches e 0 r g (omega arith) q.0 (omega arith) (omega (arith, q.1.0)) (inr (subst (λ (t : ℕ). Has r t) at s)) in
      along ps c (suc i) (sweep 0 r) (sweep-good r g) (first_end (get_or ks q.0 0)) y f.0 hy two.0
      (subst (λ (t : Place). Way (edges_of pts ks e) t ps (place_at pts y)) (ap (λ (t : Place × Place). t.0) q.1.1) v) (omega arith)

  -- All points

  begin : 0 < n → Fine start
  unfolding start steps
  begin h = record {
    room = length-set zeros 0 1 ∙ same_length tree_bound 0;
    sized = same_length pair_bound no_edge;
    marks = λ i. by (eqb 0 i) (λ q. inr (ap (λ (j : ℕ). get_or (set zeros 0 1) j 0) (sym (eqb-true 0 i q))))
        (λ q. inl (other zeros 0 i 1 (eqb-false 0 i q) ∙ zero-entry tree_bound i));
    known = λ x y s q. subst (λ (i : ℕ). Known pts n ks e el start i y) (sym (only x s.1))
        (subst (λ (i : ℕ). Known pts n ks e el start 0 i) (sym (only y q.1)) first);
    even = λ x y s q. ap₂ (λ (i j : ℕ). get_or start.top (key i j) 0) (only x s.1 ∙ sym (only y q.1))
        (only y q.1 ∙ sym (only x s.1));
  }
    where
      only : (i : ℕ) → Has start i → i ≡ 0
      only i s =
          by (eqb 0 i) (λ q. sym (eqb-true 0 i q))
          (λ q. absurd (let z : get_or (set zeros 0 1) i 0 ≡ 0 = other zeros 0 i 1 (eqb-false 0 i q) ∙ zero-entry tree_bound i in
          let y : ⊥ = omega
          (arith, s, z) in y))

      first : Known pts n ks e el start 0 0
      first = record {
        points = [];
        way = stop refl;
        once = (λ m. elim m [ ], tt);
        seen = λ z m. either (λ q. (0, ((h, refl), q))) (λ i. elim i [ ]) (Memᴰ.cases_cons m);
        top = record { is = inl (refl, same-entry pair_bound no_edge 0 (omega arith)); best = λ j hj c d m f. elim m [ ] };
      }

  module _ (whole : joined.TreeOn (points_of pts n) (edges_of pts ks e)) where
    points-of : (x : Place) (ps : List Place) (y : Place) → x ∈ points_of pts n → Way (edges_of pts ks e) x ps y →
        Among (x ∷ ps) (points_of pts n)
    points-of x ps y i (stop q) z m = either (λ q. Memᴰ.cast q i) (λ j. elim j [ ]) (Memᴰ.cases_cons m)
    points-of x (v ∷ ps) y i (go l t) z m = either (λ q. Memᴰ.cast q i) (λ j. points-of v ps y (next l) t z j) (Memᴰ.cases_cons m)
      where
        next : Link (edges_of pts ks e) x v → v ∈ points_of pts n
        next (inl j) =
            let q = of-listing (λ j. ends_of pts (get_or ks j 0)) e (x, v) j in
            Memᴰ.cast (ap (λ (t : Place × Place). t.1) q.1.1) (in-listing (place_at pts) n _ (w.ends q.0).1)
        next (inr j) =
            let q = of-listing (λ j. ends_of pts (get_or ks j 0)) e (v, x) j in
            Memᴰ.cast (ap (λ (t : Place × Place). t.0) q.1.1) (in-listing (place_at pts) n _ (w.ends q.0).0)

    size : suc e ≡ n
    size = ap suc (sym (listing-length _ e)) ∙ whole.size ∙ listing-length (place_at pts) n

    abbrev pub last : Reach
    last = reached ks el e n start

    pub last-good : Fine last
    unfolding reached
    last-good = turns-keep sweep Fine e 0 start (λ j t q. sweep-good t q) (begin (omega (arith, size)))

    begin-has : Has start 0
    unfolding start
    begin-has = refl

    pub last-seen : (y : ℕ) → y < n → Has last y
    unfolding reached
    last-seen y h =
        let x : place_at pts 0 ∈ points_of pts n = in-listing (place_at pts) n 0 (omega (arith, size)) in
        let f = joined_free same-place (whole.joins (place_at pts 0) (place_at pts y) x (in-listing (place_at pts) n y h)) in
        let l = once-length (place_at pts 0 ∷ f.points) (points_of pts n) f.once (points-of _ _ _ x f.way) in
        let z = listing-length (place_at pts) n in
        along f.points e 0 start (begin (omega (arith, size))) 0 y (omega (arith, size)) h (begin-has) f.way
        (omega (arith, l, z, size))

    pub all_known : (v y : ℕ) → v < n → y < n → Known pts n ks e el last v y
    all_known v y h l = last-good.known v y (h, last-seen v h) (l, last-seen y l)

    pub all-even : (v y : ℕ) → v < n → y < n → get_or last.top (key v y) 0 ≡ get_or last.top (key y v) 0
    all-even v y h l = last-good.even v y (h, last-seen v h) (l, last-seen y l)
