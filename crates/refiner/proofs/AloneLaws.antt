-- In a tree no two edges of the table have the same ends: without one of them all points would still be joined, by too few edges.
-- Assumes nothing.
use mathlib.Core.Path.{◌≡◌, sym, ap, ◌∙◌}
use mathlib.Core.Logic.{inl}
use mathlib.Core.List.Memᴰ
use mathlib.Core.List.{List}
use Prim.Native.Nat.{ℕ, suc, ◌-◌, ◌≤◌, ◌<◌}
use native.Mathlib.Omega.{arith}
use lib.Dec.{ltb, eqb}
use lib.IntN.{ℤ}
use lib.ListN.{get_or}
use borrow.Author.Tests.{ltb-true, ltb-false, eqb-true, eqb-false}
use Rattle.lists.specs.Member.{◌∈◌}
use Rattle.lists.proofs.TestLaws.{by}
use Rattle.plane.specs.declared.Place.{Place}
use Rattle.plane.specs.Flat.{place_at}
use Rattle.joined.specs.Joined.{Alike, Joined, Joins}
use Rattle.joined.specs.Tree as joined
use Rattle.joined.proofs.JoinedLaws.{one, through}
use Rattle.joined.proofs.OtherLaws.{alike-sym, alike-trans, alike-joined}
use Rattle.joined.proofs.CountLaws.{enough}
use Rattle.tree.specs.Table.{first_end, second_end}
use Rattle.exchanges.specs.Exchange.{closed}
use Rattle.tree.specs.Places.{ends_of, points_of, edges_of}
use Rattle.exchanges.proofs.ExchangeSums.{closed_at, skip-low, skip-high}
use Rattle.tree.proofs.ListingLaws.{listing-length, in-listing, of-listing}
use Rattle.tree.proofs.PointLaws.{same-place}

module _ (pts : List ℤ) (n : ℕ) (ks : List ℕ) (e : ℕ) (whole : joined.TreeOn (points_of pts n) (edges_of pts ks (suc e))) where
  abbrev U : ℕ → List (Place × Place)
  U i = edges_of pts (closed i e ks) e

  -- another edge is left
  left_in : (i j : ℕ) → i < suc e → j < suc e → (j ≡ i → ⊥) → ends_of pts (get_or ks j 0) ∈ U i
  left_in i j hi hj d =
      by (ltb j i)
      (λ t.
      let h : j < i = ltb-true j i t in
      Memᴰ.cast (ap (ends_of pts) (sym (closed_at i e ks j (omega arith) ∙ ap (λ (q : ℕ). get_or ks q 0) (skip-low i j h))))
      (in-listing (λ q. ends_of pts (get_or (closed i e ks) q 0)) e j (omega arith)))
      (λ t.
      let h : i ≤ j - 1 = omega (arith, ltb-false j i t) in
      let f : suc (j - 1) ≡ j = omega (arith, ltb-false j i t) in
      Memᴰ.cast (ap (ends_of pts) (sym (closed_at i e ks (j - 1) (omega arith) ∙ ap (λ (q : ℕ). get_or ks q 0) (skip-high i (j - 1) h ∙ f))))
      (in-listing (λ q. ends_of pts (get_or (closed i e ks) q 0)) e (j - 1) (omega arith)))

  pub alone : (i j : ℕ) (c d : Place) → i < suc e → j < suc e →
      Alike c d (place_at pts (first_end (get_or ks i 0))) (place_at pts (second_end (get_or ks i 0))) →
      Alike c d (place_at pts (first_end (get_or ks j 0))) (place_at pts (second_end (get_or ks j 0))) → i ≡ j
  alone i j c d hi hj f g =
      by (eqb j i) (λ t. sym (eqb-true j i t))
      (λ t.
      let other : j ≡ i → ⊥ = eqb-false j i t in
      let all : Joins (points_of pts n) (U i) = λ x y a b. through (λ v z m. at other v z
      (of-listing (λ q. ends_of pts (get_or ks q 0)) (suc e) (v, z) m)) (whole.joins x y a b) in
      let few = enough same-place whole.once all in
      absurd (let z : ⊥ = omega (
        arith,
        few,
        whole.size,
        listing-length (λ q. ends_of pts (get_or ks q 0)) (suc e),
        listing-length
            (λ q. ends_of pts (get_or (closed i e ks) q 0)) e,
      ) in z))
    where
      at : (j ≡ i → ⊥) → (v z : Place) → (q : ℕ) × ((q < suc e) × ((v, z) ≡ ends_of pts (get_or ks q 0))) → Joined (U i) v z
      at other v z r =
          by (eqb r.0 i)
          (λ t.
          let s : (v, z) ≡ ends_of pts (get_or ks i 0) = r.1.1 ∙ ap (λ (q : ℕ). ends_of pts (get_or ks q 0)) (eqb-true _ _ t) in
          alike-joined
          (alike-trans (inl (ap (λ (y : Place × Place). y.0) s, ap (λ (y : Place × Place). y.1) s)) (alike-trans (alike-sym f) g))
          (one (inl (left_in i j hi hj other))))
          (λ t. one (inl (Memᴰ.cast r.1.1 (left_in i r.0 hi r.1.0 (eqb-false _ _ t)))))
