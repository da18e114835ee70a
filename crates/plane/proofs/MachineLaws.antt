-- What std's methods on signed numbers say, in the words of `signed`.
-- Assumes nothing.
use mathlib.Core.Path.{◌≡◌, refl, sym}
use mathlib.Core.Bool.{true, false}
use lib.IntN.{ℤ}
use lib.Signed.{lt_z, le_z}
use Rattle.std.specs.Int.{int_min, int_max}
use Rattle.std.specs.Ordering.{int_eq}
use Rattle.lists.proofs.TestLaws.{by}
use Rattle.signed.specs.Order.{z_eq, z_min, z_max}
use Rattle.signed.proofs.SideLaws.{z_le-true, z_le-false, le-z_lt, lt-z_lt, z_lt-true, eq_of, signed}
use Rattle.signed.proofs.OrderLaws.{z_eq-true, z_eq-refl}

pub min_is : (a b : ℤ) → int_min a b ≡ z_min a b
unfolding z_min
min_is a b =
    by (le_z a b)
    (λ e. rw (z_min, e, le-z_lt b a (z_le-true a b e)) refl)
    (λ e. rw (z_min, e, lt-z_lt b a (z_le-false a b e)) refl)

pub max_is : (a b : ℤ) → int_max a b ≡ z_max a b
unfolding z_max
max_is a b =
    by (le_z a b)
    (λ e. rw (z_max, e, le-z_lt b a (z_le-true a b e)) refl)
    (λ e. rw (z_max, e, lt-z_lt b a (z_le-false a b e)) refl)

pub eq_is : (a b : ℤ) → int_eq a b ≡ z_eq a b
eq_is a b =
    by (lt_z a b)
    (λ e. rw e (sym (unequal a b (λ h. omega (signed, rw (z_eq-true a b h) at (z_lt-true a b e))))))
    (λ e. by (lt_z b a)
    (λ f. rw (e, f) (sym (unequal a b (λ h. omega (signed, rw (z_eq-true a b h) at (z_lt-true b a f))))))
    (λ f. rw (e, f) (let h : a ≡ b = eq_of a b (omega (signed, e, f)) in sym (rw h (z_eq-refl b)))))
  where
    unequal : (a b : ℤ) → (z_eq a b ≡ true → ⊥) → z_eq a b ≡ false
    unequal a b h = by (z_eq a b) (λ e. absurd (h e)) (λ e. e)
