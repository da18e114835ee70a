-- R23: the sources are the vertices that are points of the tree. So a vertex beside it is at some distance, its root is the tree point v
-- that it is joined to, and its way meets the tree there alone.
-- Assumes nothing.
use mathlib.Core.Path.{◌≡◌, sym, ap, ◌∙◌, subst}
use mathlib.Core.Bool.{true}
use mathlib.Core.Logic.{◌⊎◌, inl, inr}
use mathlib.Core.List.Memᴰ
use mathlib.Core.List.{List}
use Prim.Native.Nat.{ℕ, zero, suc, ◌+◌, ◌≤◌, ◌<◌}
use native.Mathlib.Omega.{arith}
use lib.Dec.{ltb}
use lib.IntN.{ℤ}
use borrow.Author.Tests.{ltb-true, ltb-false}
use Rattle.lists.specs.Member.{◌∈◌, here, there, Once}
use Rattle.lists.proofs.TestLaws.{by, differ, and_left, and_right}
use Rattle.plane.specs.declared.Place.{Place}
use Rattle.plane.specs.Flat.{place_at}
use Rattle.plane.specs.Rank.{InOrder, rank}
use Rattle.plane.proofs.PlaceLaws.{same_true, before-irrefl}
use Rattle.net.specs.Net.{Net, cost_in}
use Rattle.forest.specs.Setting.{Setting, Whole}
use Rattle.tree.specs.Table.{Tree}
use Rattle.tree.specs.Places.{points_of, Sound}
use Rattle.tree.proofs.ListingLaws.{in-listing, of-listing}
use Rattle.exchanges.specs.Exchange.{stands}
use Rattle.beside.specs.Beside.{Ground, is_point, sources_from}
use Rattle.refiner.specs.Ready.{vertex_at, Grounded}
use Rattle.exchanges.proofs.OpenedLaws.{rank_below, rank-above}

-- Points by their rank

module _ (pts : List ℤ) (n : ℕ) (o : InOrder pts n) where
  -- a point is found at its rank
  rank-of : (i : ℕ) → i < n → stands pts n (rank pts n (place_at pts i)) (place_at pts i) ≡ true
  rank-of i h =
      let r = rank pts n (place_at pts i) in
      by (stands pts n r (place_at pts i)) (λ t. t)
      (λ t.
      by (ltb i r)
      (λ b. differ (rank_below pts n (place_at pts i) o i (ltb-true _ _ b)) (before-irrefl (place_at pts i)))
      (λ b. differ (rank-above pts n (place_at pts i) o t i (ltb-false _ _ b) h) (before-irrefl (place_at pts i))))

  pub point-is : (p : Place) → p ∈ points_of pts n → is_point pts n p ≡ true
  unfolding is_point
  point-is p m =
      let w = of-listing (place_at pts) n p m in
      subst (λ (q : Place). stands pts n (rank pts n q) q ≡ true) (sym w.1.1) (rank-of w.0 w.1.0)

  pub is-seated : (p : Place) → is_point pts n p ≡ true → (rank pts n p < n) × (place_at pts (rank pts n p) ≡ p)
  unfolding is_point stands
  is-seated p t =
      let r = rank pts n p in
      (ltb-true r n (and_left _ _ t), sym (same_true p (place_at pts r) (and_right (ltb r n) _ t)))

  pub is-in-points : (p : Place) → is_point pts n p ≡ true → p ∈ points_of pts n
  is-in-points p t = let s = is-seated p t in Memᴰ.cast (sym s.1) (in-listing (place_at pts) n (rank pts n p) s.0)

-- Sources

module _ (pts : List ℤ) (n : ℕ) (vs : List ℤ) where
  of-sources : (c i x : ℕ) → x ∈ sources_from pts n vs i c → ((i ≤ x) × (x < i + c)) × (is_point pts n (place_at vs x) ≡ true)
  unfolding sources_from
  of-sources zero i x m = elim m [ ]
  of-sources (suc c) i x m =
      by (is_point pts n (place_at vs i))
      (λ t.
      first t (Memᴰ.cases_cons (rw (sources_from, t) at m)) (λ k. of-sources c (suc i) x k))
      (λ t. let r = of-sources c (suc i) x (rw (sources_from, t) at m) in ((omega (arith, r.0.0), omega (arith, r.0.1)), r.1))
    where
      first : is_point pts n (place_at vs i) ≡ true → (x ≡ i) ⊎ (x ∈ sources_from pts n vs (suc i) c) →
          (x ∈ sources_from pts n vs (suc i) c → ((suc i ≤ x) × (x < suc i + c)) × (is_point pts n (place_at vs x) ≡ true)) →
          ((i ≤ x) × (x < i + suc c)) × (is_point pts n (place_at vs x) ≡ true)
      first t (inl e) f = ((omega (arith, e), omega (arith, e)), ap (λ (k : ℕ). is_point pts n (place_at vs k)) e ∙ t)
      first t (inr k) f = let r = f k in ((omega (arith, r.0.0), omega (arith, r.0.1)), r.1)

  in-sources : (c i x : ℕ) → i ≤ x → x < i + c → is_point pts n (place_at vs x) ≡ true → x ∈ sources_from pts n vs i c
  unfolding sources_from
  in-sources zero i x h l t = absurd (let z : ⊥ = omega arith in z)
  in-sources (suc c) i x h l t =
      by (ltb i x)
      (λ b.
      let m = in-sources c (suc i) x (ltb-true i x b) (omega arith) t in
      by (is_point pts n (place_at vs i)) (λ s. rw (sources_from, s) (there m)) (λ s. rw (sources_from, s) m))
      (λ b.
      let e : x ≡ i = omega (arith, ltb-false i x b) in
      let s : is_point pts n (place_at vs i) ≡ true = ap (λ (k : ℕ). is_point pts n (place_at vs k)) (sym e) ∙ t in
      rw (sources_from, s) (here e))

  sources-once : (c i : ℕ) → Once (sources_from pts n vs i c)
  unfolding sources_from
  sources-once zero i = tt
  sources-once (suc c) i =
      by (is_point pts n (place_at vs i))
      (λ t.
      rw (sources_from, t)
      (λ m. let r = of-sources c (suc i) i m in let z : ⊥ = omega (arith, r.0.0) in z, sources-once c (suc i)))
      (λ t. rw (sources_from, t) (sources-once c (suc i)))

-- Of a tree on its ground

module _ (net : Net) (g : Ground) (t : Tree) (ground : Grounded net g) (sound : Sound net t) where
  abbrev pub sources : List ℕ
  sources = sources_from t.points t.count g.places 0 g.count

  abbrev pub distance : ℕ → ℕ → ℕ
  distance i j = cost_in net (vertex_at g i) (vertex_at g j)

  pub source_in : (x : ℕ) → x ∈ sources → (x < g.count) × (vertex_at g x ∈ points_of t.points t.count)
  source_in x m =
      let r = of-sources t.points t.count g.places g.count 0 x m in
      (omega (arith, r.0.1), is-in-points t.points t.count sound.ordered (vertex_at g x) r.1)

  pub in_source : (x : ℕ) → x < g.count → vertex_at g x ∈ points_of t.points t.count → x ∈ sources
  in_source x h m =
      in-sources t.points t.count g.places g.count 0 x (omega arith) (omega arith)
      (point-is t.points t.count sound.ordered (vertex_at g x) m)

  pub setting : Setting g.graph g.count distance sources
  setting =
      let s = ground.setting in
      record {
        vertices = s.vertices;
        edges = s.edges;
        one_in = s.one_in;
        two_in = s.two_in;
        measured = s.measured;
        some = s.some;
        short = s.short;
        even = s.even;
        sources-in = λ v m. (source_in v m).0;
      }

  pub whole : Whole g.graph g.count sources
  whole =
      let w = of-listing (vertex_at g) g.count ground.pin (ground.pinned ground.pin ground.is-pin) in
      record {
        joined = ground.joined;
        source = w.0;
        is-source =
            in_source w.0 w.1.0 (Memᴰ.cast (sym w.1.1) (sound.pinned ground.pin ground.is-pin));
        once = sources-once t.points t.count g.places g.count 0;
      }
