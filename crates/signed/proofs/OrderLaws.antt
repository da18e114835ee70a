-- The smaller and the greater of two numbers as one equation of naturals each (`omega` splits once for each `min` and `max`, and at most
-- six times), and equality as a test.
-- Assumes nothing.
use mathlib.Core.Path.{◌≡◌, refl, sym, ap, ◌∙◌}
use mathlib.Core.Bool.{Bool, true, false}
use Prim.Native.Nat.{ℕ, ◌+◌, min, max}
use native.Mathlib.Omega.{arith}
use borrow.Author.Tests.{eqb-true, eq-eqb}
use lib.IntN.{ℤ, pos, negsuc}
use lib.Signed.{le_z}
use Rattle.lists.proofs.TestLaws.{by, differ}
use Rattle.signed.specs.Order.{z_eq, z_min, z_max}
use Rattle.signed.specs.Sides.{up, down}
use Rattle.signed.proofs.SideLaws.{eq_of, signed}

abbrev IsMax : ℤ → ℤ → ℤ → Type 0
IsMax a b m = up m + (down a + down b) ≡ max (up a + down b) (up b + down a) + down m

abbrev IsMin : ℤ → ℤ → ℤ → Type 0
IsMin a b m = up m + (down a + down b) ≡ min (up a + down b) (up b + down a) + down m

pub max-sides : (a b : ℤ) → IsMax a b (z_max a b)
unfolding z_max
max-sides a b = at (le_z a b) refl
  where
    at : (t : Bool) → le_z a b ≡ t → IsMax a b (elim t [ true ↦ b | false ↦ a ])
    at true e = omega signed
    at false e = omega signed

pub min-sides : (a b : ℤ) → IsMin a b (z_min a b)
unfolding z_min
min-sides a b = at (le_z a b) refl
  where
    at : (t : Bool) → le_z a b ≡ t → IsMin a b (elim t [ true ↦ a | false ↦ b ])
    at true e = omega signed
    at false e = omega signed

pub z_eq-true : (a b : ℤ) → z_eq a b ≡ true → a ≡ b
z_eq-true (pos a) (pos b) e = ap pos (eqb-true a b e)
z_eq-true (pos a) (negsuc b) e = absurd (let z : ◌≡◌ {A = ℕ} 0 1 = cc in let f : ⊥ = omega arith in f)
z_eq-true (negsuc a) (pos b) e = absurd (let z : ◌≡◌ {A = ℕ} 0 1 = cc in let f : ⊥ = omega arith in f)
z_eq-true (negsuc a) (negsuc b) e = ap negsuc (eqb-true a b e)

pub z_eq-refl : (a : ℤ) → z_eq a a ≡ true
z_eq-refl (pos a) = eq-eqb a a refl
z_eq-refl (negsuc a) = eq-eqb a a refl

-- the same both ways
pub max_comm : (a b : ℤ) → z_max a b ≡ z_max b a
max_comm a b = eq_of _ _ (omega (signed, max-sides a b, max-sides b a))

pub min_comm : (a b : ℤ) → z_min a b ≡ z_min b a
min_comm a b = eq_of _ _ (omega (signed, min-sides a b, min-sides b a))

pub z_eq-comm : (a b : ℤ) → z_eq a b ≡ z_eq b a
z_eq-comm a b =
    by (z_eq a b) (λ e. let s = z_eq-true a b e in e ∙ sym (ap (λ (z : ℤ). z_eq b z) s ∙ z_eq-refl b))
    (λ e. by (z_eq b a) (λ k. differ (let s = z_eq-true b a k in ap (λ (z : ℤ). z_eq a z) s ∙ z_eq-refl a) e) (λ k. e ∙ sym k))

-- of a number and itself
pub min_self : (a : ℤ) → z_min a a ≡ a
unfolding z_min
min_self a = elim (le_z a a) as (λ t. elim t [ true ↦ a | false ↦ a ] ≡ a) [ true ↦ refl | false ↦ refl ]

pub max_self : (a : ℤ) → z_max a a ≡ a
unfolding z_max
max_self a = elim (le_z a a) as (λ t. elim t [ true ↦ a | false ↦ a ] ≡ a) [ true ↦ refl | false ↦ refl ]
