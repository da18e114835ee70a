-- A signed number in a local is held as its bits: `to_z w (of_z w z)` is what the machine reads back, and it is z where z fits the width.
-- Assumes nothing.
use mathlib.Core.Path.{◌≡◌, refl, ap, sym, subst, ◌∙◌}
use mathlib.Core.Bool.{Bool}
use Prim.Native.Nat.{ℕ, ◌+◌, ◌^◌, ◌<◌}
use native.Mathlib.Omega.{arith}
use borrow.Author.Tests.{eqb-true, eq-eqb}
use lib.Dec.{eqb}
use lib.IntN.{ℤ, pos, ◌-ℤ◌, ◌+ℤ◌}
use lib.Signed.{lt_z, le_z}
use mir.Syntax.{Width, w32, w64}
use mir.Val.{SFits, to_z, of_z}
use mir.ValLaws.{to_z-of_z}
use Rattle.lists.proofs.TestLaws.{by, differ}
use Rattle.signed.specs.Order.{z_eq}
use Rattle.signed.proofs.SideLaws.{one_side, of-sfits, to-sfits, sub-sides}
use Rattle.signed.proofs.OrderLaws.{z_eq-true, z_eq-refl}

-- an i32 fits an i64
pub widen : (z : ℤ) → SFits w32 z → SFits w64 z
widen z f = to-sfits w64 z (omega (arith, of-sfits w32 z f)) (omega (arith, of-sfits w32 z f))

pub cast-wide : (z : ℤ) → SFits w32 z → SFits w64 (to_z w32 (of_z w32 z))
cast-wide z f = rw (to_z-of_z w32 z f) (widen z f)

-- an i32 as an i64 is the same number
pub wide_is : (z : ℤ) → SFits w32 z → to_z w64 (of_z w64 (to_z w32 (of_z w32 z))) ≡ z
wide_is z f = to_z-of_z w64 _ (cast-wide z f) ∙ to_z-of_z w32 z f

-- the difference of two i32, at 64 bits
pub sub-fits : (a b : ℤ) → SFits w32 a → SFits w32 b → SFits w64 (a -ℤ b)
sub-fits a b f g =
    to-sfits w64 (a -ℤ b)
    (omega (arith, of-sfits w32 a f, of-sfits w32 b g, sub-sides a b, one_side (a -ℤ b)))
    (omega (arith, of-sfits w32 a f, of-sfits w32 b g, sub-sides a b, one_side (a -ℤ b)))

-- a test's flag
pub flag-lt : (w : Width) (a b : ℤ) {t : Bool} → SFits w a → SFits w b → lt_z (to_z w (of_z w a)) (to_z w (of_z w b)) ≡ t → lt_z a b ≡ t
flag-lt w a b {t} f g e = subst (λ (z : ℤ). lt_z z b ≡ t) (to_z-of_z w a f) (subst (λ (z : ℤ). lt_z (to_z w (of_z w a)) z ≡ t) (to_z-of_z w b g) e)

pub flag-le : (w : Width) (a b : ℤ) {t : Bool} → SFits w a → SFits w b → le_z (to_z w (of_z w a)) (to_z w (of_z w b)) ≡ t → le_z a b ≡ t
flag-le w a b {t} f g e = subst (λ (z : ℤ). le_z z b ≡ t) (to_z-of_z w a f) (subst (λ (z : ℤ). le_z (to_z w (of_z w a)) z ≡ t) (to_z-of_z w b g) e)

-- two numbers that fit have the same bits exactly when they are equal
pub flag-eq : (w : Width) (a b : ℤ) → SFits w a → SFits w b → eqb (of_z w a) (of_z w b) ≡ z_eq a b
flag-eq w a b f g =
    by (eqb (of_z w a) (of_z w b))
    (λ e. let s : a ≡ b = sym (to_z-of_z w a f) ∙ ap (to_z w) (eqb-true (of_z w a) (of_z w b) e) ∙ to_z-of_z w b g in e
    ∙ sym (ap (λ (z : ℤ). z_eq z b) s ∙ z_eq-refl b))
    (λ e. by (z_eq a b) (λ k. differ (eq-eqb (of_z w a) (of_z w b) (ap (of_z w) (z_eq-true a b k))) e) (λ k. e ∙ sym k))

-- the machine's sum of two i64 that are not negative
module _ (x y : ℤ) (m n : ℕ) (ex : x ≡ pos m) (ey : y ≡ pos n) (h : m + n < 2 ^ 63) where
  pub machine-sum : to_z w64 (of_z w64 x) +ℤ to_z w64 (of_z w64 y) ≡ pos (m + n)
  machine-sum =
      rw (ex, ey) (rw (to_z-of_z w64 (pos m) (record { sfits = omega arith }), to_z-of_z w64 (pos n) (record { sfits = omega arith })) refl)

  pub sum_fits : SFits w64 (to_z w64 (of_z w64 x) +ℤ to_z w64 (of_z w64 y))
  sum_fits = rw machine-sum (record { sfits = h })

  pub sum_is : to_z w64 (of_z w64 (to_z w64 (of_z w64 x) +ℤ to_z w64 (of_z w64 y))) ≡ pos (m + n)
  sum_is = to_z-of_z w64 _ sum_fits ∙ machine-sum
