-- The seat of a place among points in order is its rank, if the point there is at it: no other point is.
-- Assumes nothing.
use mathlib.Core.Path.{◌≡◌, refl, sym, ap, ◌∙◌}
use mathlib.Core.Bool.{Bool, true, false}
use mathlib.Core.List.{List}
use Prim.Native.Nat.{ℕ, zero, suc, ◌≤◌, ◌<◌}
use native.Mathlib.Omega.{arith}
use borrow.Author.Tests.{ltb-true, ltb-false}
use lib.Dec.{ltb}
use lib.IntN.{ℤ}
use Rattle.lists.proofs.TestLaws.{by, differ}
use Rattle.plane.specs.declared.Place.{Place}
use Rattle.plane.specs.Place.{before, same_place}
use Rattle.plane.specs.Flat.{place_at}
use Rattle.plane.specs.Rank.{InOrder, rank}
use Rattle.plane.proofs.PlaceLaws.{same_true, before-irrefl, before-trans}
use Rattle.plane.proofs.RankLaws.{rank_is}
use Rattle.turned.specs.Steps.{up_to}
use Rattle.moves.specs.Moving.{chosen, seat_of}

module _ (pts : List ℤ) (p : Place) where
  abbrev same : ℕ → Bool
  same i = same_place p (place_at pts i)

  seat-none : (m : ℕ) → ((i : ℕ) → i < m → same i ≡ false) → 0 ≡ seat_of pts m p
  unfolding seat_of up_to chosen
  seat-none zero h = refl
  seat-none (suc m) h = rw (h m (omega arith)) (seat-none m (λ i l. h i (omega arith)))

  seat-one : (r m : ℕ) → r < m → same r ≡ true → ((i : ℕ) → i < m → r < i → same i ≡ false) → r ≡ seat_of pts m p
  unfolding seat_of up_to chosen
  seat-one r zero l e h = absurd (let z : ⊥ = omega arith in z)
  seat-one r (suc m) l e h =
      by (ltb r m)
      (λ t.
      let k = ltb-true r m t in
      rw (h m (omega arith) k) (seat-one r m k e (λ i j g. h i (omega arith) g)))
      (λ t. let k : r ≡ m = omega (arith, ltb-false r m t) in rw (ap same (sym k) ∙ e) k)

  module _ (n : ℕ) (o : InOrder pts n) where
    -- whichever point is at p, its number is the rank
    at-rank : (i : ℕ) → i < n → same i ≡ true → i ≡ rank pts n p
    at-rank i h e =
        let is = same_true p (place_at pts i) e in
        rank_is pts n p i (omega arith) (λ u l. rw is (o u i l h))
        (λ u l k.
        by (before (place_at pts u) p)
        (λ t.
        by (ltb i u)
        (λ g. differ (before-trans (place_at pts u) p (place_at pts u) t (rw is (o i u (ltb-true i u g) k))) (before-irrefl (place_at pts u)))
        (λ g.
        let j : u ≡ i = omega (arith, ltb-false i u g) in
        differ (ap (λ (q : Place). before q p) (is ∙ ap (place_at pts) (sym j)) ∙ t) (before-irrefl p)))
        (λ t. t))

    not_at : (i : ℕ) → i < n → (i ≡ rank pts n p → ⊥) → same i ≡ false
    not_at i h d = by (same i) (λ e. absurd (d (at-rank i h e))) (λ e. e)

    -- by the code's tests at the rank r
    module _ (r : ℕ) (is : r ≡ rank pts n p) where
      pub seat-past : n ≤ r → 0 ≡ seat_of pts n p
      seat-past h = seat-none n (λ i l. not_at i l (λ e. let z : ⊥ = omega (arith, e, is) in z))

      pub seat-there : r < n → same r ≡ true → r ≡ seat_of pts n p
      seat-there h e = seat-one r n h e (λ i l k. not_at i l (λ j. let z : ⊥ = omega (arith, j, is, k) in z))

      pub seat_not : r < n → same r ≡ false → 0 ≡ seat_of pts n p
      seat_not h e = seat-none n (λ i l. by (same i) (λ g. differ (ap same (is ∙ sym (at-rank i l g)) ∙ g) e) (λ g. g))
