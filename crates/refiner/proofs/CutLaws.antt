-- R8: `cut_of` is L, the longest edge on the way from u to the nearer end of (a, b). The way to the far end is the way to the near end and
-- the edge, so its longest edge is at least as long, and the shorter of the two is L.
-- Assumes nothing.
use mathlib.Core.Path.{◌≡◌, ap, ◌∙◌, subst}
use mathlib.Core.Logic.{inl, inr}
use mathlib.Core.List.{List, [], ◌∷◌, ◌++◌}
use Prim.Native.Nat.{ℕ, suc, ◌≤◌, ◌<◌}
use native.Mathlib.Omega.{arith}
use lib.IntN.{ℤ}
use lib.ListN.{length, get_or}
use Rattle.lists.specs.Member.{◌∈◌, Once}
use Rattle.lists.proofs.TestLaws.{by, either}
use Rattle.plane.specs.declared.Place.{Place}
use Rattle.plane.specs.Flat.{place_at}
use Rattle.plane.specs.Rank.{InOrder}
use Rattle.joined.specs.Joined.{Alike}
use Rattle.joined.specs.Tree as joined
use Rattle.joined.specs.Way.{Way, stop}
use Rattle.joined.specs.Exchange.{Toward, steps}
use Rattle.joined.proofs.TowardLaws.{toward, far-way, far-once}
use Rattle.joined.proofs.TreeLaws.{tree-cuts}
use Rattle.joined.proofs.OneTreeLaws.{tree-simple}
use Rattle.joined.proofs.OnlyWay.{only-way}
use Rattle.tree.specs.Table.{tree_bound, key, first_end, second_end, Within}
use Rattle.longest.specs.Longest.{wins, shorter, no_edge, start, reached, cut_of}
use Rattle.tree.specs.Places.{ends_of, points_of, edges_of}
use Rattle.longest.proofs.LongestLaws.{shorter-yes, shorter-no}
use Rattle.longest.proofs.WinsLaws.{Under, wins-under, wins-not, under_same}
use Rattle.tree.proofs.ListingLaws.{in-listing}
use Rattle.tree.proofs.PointLaws.{same-place}
use Rattle.exchanges.proofs.PruneSound.{order_same}
use Rattle.refiner.proofs.LongestSound.{Ends, Top, Known, steps-old}
use Rattle.refiner.proofs.ReachedLaws.{all_known, all-even}
use Rattle.refiner.proofs.AloneLaws.{alone}

module _ (pts : List ℤ) (n : ℕ) (ks : List ℕ) (e : ℕ) (el : List ℕ) (o : InOrder pts n) (few : n ≤ tree_bound) (fewer : suc e < tree_bound)
    (none : get_or el no_edge 0 ≡ 0) (w : Within n ks) (whole : joined.TreeOn (points_of pts n) (edges_of pts ks (suc e))) where
  abbrev T : List (Place × Place)
  T = edges_of pts ks (suc e)

  abbrev top : List ℕ
  top = (reached ks el (suc e) n start).top

  know : (v y : ℕ) → v < n → y < n → Known pts n ks (suc e) el (reached ks el (suc e) n start) v y
  know = all_known pts n ks (suc e) el o few fewer none (alone pts n ks e whole) w whole

  same_way : (v y : ℕ) (hv : v < n) (hy : y < n) (ps : List Place) → Way T (place_at pts v) ps (place_at pts y) → Once (place_at pts v ∷ ps)
      → (know v y hv hy).points ≡ ps
  same_way v y hv hy ps t q = only-way (tree-cuts same-place whole) same-place (know v y hv hy).way t (know v y hv hy).once q

  -- the longest edge on the way between two points
  pub way-longest : (v y : ℕ) → v < n → y < n → (ps : List Place) → Way T (place_at pts v) ps (place_at pts y) → Once (place_at pts v ∷ ps) →
      Top pts n ks (suc e) el (get_or top (key y v) 0) (place_at pts v) ps
  way-longest v y hv hy ps t q =
      subst (λ (l : List Place). Top pts n ks (suc e) el (get_or top (key y v) 0) (place_at pts v) l) (same_way v y hv hy ps t q)
      (subst (λ (x : ℕ). Top pts n ks (suc e) el x (place_at pts v) (know v y hv hy).points)
      (all-even pts n ks (suc e) el o few fewer none (alone pts n ks e whole) w whole v y hv hy) (know v y hv hy).top)

  module _ (k u : ℕ) (hk : k < suc e) (hu : u < n) (ua : u ≡ first_end (get_or ks k 0) → ⊥) (ub : u ≡ second_end (get_or ks k 0) → ⊥) where
    abbrev a : ℕ
    a = first_end (get_or ks k 0)

    abbrev b : ℕ
    b = second_end (get_or ks k 0)

    ha : a < n
    ha = (w.ends k).0

    hb : b < n
    hb = (w.ends k).1

    edge : (place_at pts a, place_at pts b) ∈ T
    edge = in-listing (λ i. ends_of pts (get_or ks i 0)) (suc e) k hk

    pub the-way : Toward T (place_at pts u) (place_at pts a) (place_at pts b)
    the-way =
        toward same-place ((tree-simple same-place whole).apart (place_at pts a) (place_at pts b) edge)
        (whole.joins (place_at pts u) (place_at pts a) (in-listing (place_at pts) n u hu) (in-listing (place_at pts) n a ha))

    -- the longest on the way to the near point y, where the far one is z
    module _ (y z : ℕ) (hy : y < n) (hz : z < n) (uy : u ≡ y → ⊥) (near : the-way.near ≡ place_at pts y)
        (far : the-way.far ≡ place_at pts z) where
      near-top : Top pts n ks (suc e) el (get_or top (key y u) 0) (place_at pts u) the-way.free.points
      near-top = way-longest u y hu hy the-way.free.points (subst (λ (q : Place). Way T (place_at pts u) the-way.free.points q) near
          the-way.free.way) the-way.free.once

      far-top : Top pts n ks (suc e) el (get_or top (key z u) 0) (place_at pts u) (the-way.free.points ++ (the-way.far ∷ []))
      far-top =
          way-longest u z hu hz (the-way.free.points ++ (the-way.far ∷ []))
          (subst (λ (q : Place). Way T (place_at pts u) (the-way.free.points ++ (the-way.far ∷ [])) q) far (far-way (inl edge) the-way))
          (far-once the-way)

      -- the way has a step
      pub near-is : (get_or top (key y u) 0 < suc e) × ((c : Place) × ((d : Place) ×
          (((c, d) ∈ steps (place_at pts u) the-way.free.points) × Ends pts n ks (suc e) el (get_or top (key y u) 0) c d)))
      near-is = either (λ q. absurd (uy (order_same pts n u y o hu hy (at the-way.free.points q.0 the-way.free.way ∙ near))))
          (λ q. q)
          near-top.is
        where
          at : (ps : List Place) → ps ≡ [] → Way T (place_at pts u) ps the-way.near → place_at pts u ≡ the-way.near
          at [] q (stop f) = f
          at (v ∷ ps) q t = absurd (let f : ◌≡◌ {A = ℕ} (suc (length ps)) 0 = ap length q in let g : ⊥ = omega arith in g)

      -- it is no longer than the longest on the way to the far point
      pub near-under : Under el (get_or top (key y u) 0) (get_or top (key z u) 0)
      near-under =
          let r = near-is in
          far-top.best (get_or top (key y u) 0) r.0 r.1.0 r.1.1.0
          (steps-old (place_at pts u) the-way.far _ _ the-way.free.points r.1.1.1.0) r.1.1.1.1

    -- L
    abbrev cut : ℕ
    cut = cut_of el top a b u

    abbrev pub Is : ℕ → Type 0
    Is x =
        Top pts n ks (suc e) el x (place_at pts u) the-way.free.points
        × ((x < suc e) × ((c : Place) × ((d : Place)
        × (((c, d) ∈ steps (place_at pts u) the-way.free.points) × Ends pts n ks (suc e) el x c d))))

    pub cut-is : Is (cut_of el top a b u)
    unfolding cut_of
    cut-is = at the-way.ends
      where
        x : ℕ
        x = get_or top (key a u) 0

        y : ℕ
        y = get_or top (key b u) 0

        at : Alike the-way.near the-way.far (place_at pts a) (place_at pts b) → Is (shorter el x y)
        at (inl q) =
            let under = near-under a b ha hb ua q.0 q.1 in
            let r : x ≡ shorter el x y
            = by (wins el x y) (λ t. under_same el x y under (wins-under el x y t) ∙ shorter-yes el x y t) (λ t. shorter-no el x y t) in
            subst Is r (near-top a b ha hb ua q.0 q.1, near-is a b ha hb ua q.0 q.1)
        at (inr q) =
            let under = near-under b a hb ha ub q.0 q.1 in
            let r : y ≡ shorter el x y
            = by (wins el x y) (λ t. shorter-yes el x y t) (λ t. under_same el y x under (wins-not el x y t) ∙ shorter-no el x y t) in
            subst Is r (near-top b a hb ha ub q.0 q.1, near-is b a hb ha ub q.0 q.1)
