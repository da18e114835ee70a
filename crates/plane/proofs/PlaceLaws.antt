-- The order of places is strict and total, and a test of equality is equality.
-- Assumes nothing.
use mathlib.Core.Path.{◌≡◌, refl, sym, ap₂, ◌∙◌}
use mathlib.Core.Bool.{true, false, ◌&&◌}
use mathlib.Core.Logic.{◌⊎◌, inl, inr}
use lib.Signed.{lt_z}
use Rattle.lists.proofs.TestLaws.{by, differ, either, and_left, and_right, and_both}
use Rattle.signed.specs.Sides.{Lt}
use Rattle.signed.specs.Order.{z_eq}
use Rattle.signed.proofs.SideLaws.{z_lt-true, lt-z_lt, le-z_lt, eq_of, signed}
use Rattle.signed.proofs.OrderLaws.{z_eq-true, z_eq-refl, z_eq-comm}
use Rattle.plane.specs.declared.Place.{Place}
use Rattle.plane.specs.Place.{place, before, same_place}

-- Equality

pub same-comm : (a b : Place) → same_place a b ≡ same_place b a
unfolding same_place
same-comm a b = ap₂ ◌&&◌ (z_eq-comm a.x b.x) (z_eq-comm a.y b.y)

pub same_true : (a b : Place) → same_place a b ≡ true → a ≡ b
unfolding same_place
same_true a b e =
    ap₂ place
    (z_eq-true a.x b.x (and_left _ (z_eq a.y b.y) e))
    (z_eq-true a.y b.y (and_right (z_eq a.x b.x) _ e))

pub same_refl : (a : Place) → same_place a a ≡ true
unfolding same_place
same_refl a = and_both _ _ (z_eq-refl a.x) (z_eq-refl a.y)

-- Order

-- what the order says: by x, and at the same x by y
pub before-true : (a b : Place) → before a b ≡ true → Lt a.x b.x ⊎ ((a.x ≡ b.x) × Lt a.y b.y)
unfolding before
before-true a b e =
    by (lt_z a.x b.x) (λ h. inl (z_lt-true _ _ h)) λ h.
    by (lt_z b.x a.x) (λ k. differ (rw (before, h, k) at e) refl) λ k.
    inr (eq_of _ _ (omega (signed, h, k)), z_lt-true _ _ (rw (before, h, k) at e))

pub before-by-x : (a b : Place) → Lt a.x b.x → before a b ≡ true
unfolding before
before-by-x a b h = rw (before, lt-z_lt a.x b.x h) refl

pub before-by-y : (a b : Place) → a.x ≡ b.x → Lt a.y b.y → before a b ≡ true
unfolding before
before-by-y a b e h =
    rw (before, le-z_lt a.x b.x (rw e (omega signed)), le-z_lt b.x a.x (rw e (omega signed)), lt-z_lt a.y b.y h) refl

pub before-irrefl : (a : Place) → before a a ≡ false
unfolding before
before-irrefl a =
    rw (before, le-z_lt a.x a.x (omega signed))
    (rw (before, le-z_lt a.x a.x (omega signed)) (le-z_lt a.y a.y (omega signed)))

pub before-trans : (a b c : Place) → before a b ≡ true → before b c ≡ true → before a c ≡ true
before-trans a b c e f =
    either
    (λ h. either (λ k. before-by-x a c (omega signed)) (λ k. before-by-x a c (rw k.0 at h)) (before-true b c f))
    (λ h.
    either (λ k. before-by-x a c (rw (← h.0) at k)) (λ k. before-by-y a c (h.0 ∙ k.0) (omega (signed, h.1, k.1)))
    (before-true b c f))
    (before-true a b e)

-- places that are before each other neither way are equal
pub before-tie : (a b : Place) → before a b ≡ false → before b a ≡ false → a ≡ b
before-tie a b e f =
    by (lt_z a.x b.x) (λ h. differ (before-by-x a b (z_lt-true _ _ h)) e) λ h.
    by (lt_z b.x a.x) (λ k. differ (before-by-x b a (z_lt-true _ _ k)) f) λ k.
    let x : a.x ≡ b.x = eq_of _ _ (omega (signed, h, k)) in
    by (lt_z a.y b.y) (λ m. differ (before-by-y a b x (z_lt-true _ _ m)) e) λ m.
    by (lt_z b.y a.y) (λ n. differ (before-by-y b a (sym x) (z_lt-true _ _ n)) f) λ n.
    ap₂ place x (eq_of _ _ (omega (signed, m, n)))
