-- Where a place stands among places in order: halving finds it, since those before one that comes before it do so too.
-- Assumes nothing.
use mathlib.Core.Path.{◌≡◌, refl, sym, ap, ◌∙◌}
use mathlib.Core.Bool.{Bool, true, false, not}
use mathlib.Core.List.{List}
use Prim.Native.Nat.{ℕ, zero, suc, ◌+◌, ◌≤◌, ◌<◌}
use native.Mathlib.Omega.{arith}
use lib.Dec.{ltb}
use lib.IntN.{ℤ}
use borrow.Author.Tests.{ltb-true, ltb-false}
use Rattle.lists.specs.Turns.{seek}
use Rattle.lists.proofs.TestLaws.{by, contrapose}
use Rattle.plane.specs.declared.Place.{Place}
use Rattle.plane.specs.Place.{before}
use Rattle.plane.specs.Flat.{place_at}
use Rattle.plane.specs.Rank.{InOrder, later, rank}
use Rattle.plane.proofs.PlaceLaws.{before-trans}

-- the first number that passes a test, by what it is
seek_is : (t : ℕ → Bool) (n i r : ℕ) → i ≤ r → r ≤ i + n → ((u : ℕ) → i ≤ u → u < r → t u ≡ false) → (r < i + n → t r ≡ true)
    → r ≡ seek t i n
unfolding seek
seek_is t zero i r a b f g = omega arith
seek_is t (suc n) i r a b f g =
    by (ltb i r)
    (λ h.
    let l : i < r = ltb-true i r h in
    rw (seek, f i (omega arith) l) (seek_is t n (suc i) r l (omega arith) (λ u c d. f u (omega arith) d) (λ c. g (omega arith))))
    (λ h.
    let e : r ≡ i = omega (arith, ltb-false i r h) in
    e ∙ rw (seek, sym (ap t e) ∙ g (omega arith)) refl)

module _ (s : List ℤ) (n : ℕ) (p : Place) where
  -- the number before which all places come before p, and none from there on
  pub rank_is : (r : ℕ) → r ≤ n → ((u : ℕ) → u < r → before (place_at s u) p ≡ true)
      → ((u : ℕ) → r ≤ u → u < n → before (place_at s u) p ≡ false) → r ≡ rank s n p
  unfolding rank later
  rank_is r h f g =
      seek_is (later s p) n 0 r (omega arith) (omega arith) (λ u a b. ap not (f u b)) (λ a. ap not (g r (omega arith) (omega arith)))

  module _ (o : InOrder s n) (m : ℕ) (h : m < n) where
    pub ahead_of : before (place_at s m) p ≡ true → (u : ℕ) → u < m + 1 → before (place_at s u) p ≡ true
    ahead_of e u l =
        by (ltb u m)
        (λ t. before-trans (place_at s u) (place_at s m) p (o u m (ltb-true u m t) h) e)
        (λ t. let k : u ≡ m = omega (arith, ltb-false u m t) in rw k e)

    pub none_after : before (place_at s m) p ≡ false → (u : ℕ) → m ≤ u → u < n → before (place_at s u) p ≡ false
    none_after e u l k =
        by (ltb m u)
        (λ t.
        contrapose (before (place_at s u) p) (before (place_at s m) p)
        (before-trans (place_at s m) (place_at s u) p (o m u (ltb-true m u t) k)) e)
        (λ t. let i : u ≡ m = omega (arith, ltb-false m u t) in rw i e)
