-- The middle of three numbers lies between each two of them and is one of them.
-- Assumes nothing.
use mathlib.Core.Path.{◌≡◌}
use mathlib.Core.Logic.{◌⊎◌, inl, inr}
use Prim.Native.Nat.{◌+◌, min, max}
use lib.IntN.{ℤ}
use lib.Signed.{le_z}
use Rattle.lists.proofs.TestLaws.{by}
use Rattle.signed.specs.Sides.{up, down}
use Rattle.signed.specs.Order.{z_min, z_max}
use Rattle.signed.proofs.SideLaws.{eq_of, signed}
use Rattle.signed.proofs.OrderLaws.{min-sides, max-sides}
use Rattle.plane.specs.Middle.{middle}
use Rattle.plane.specs.Box.{Between}

-- what omega needs of `middle`
pub middle-sides : (a b c : ℤ)
    → up (middle a b c) + (down a + down b + down c)
    ≡ max (min (up a + down b) (up b + down a) + down c) (min (max (up a + down b) (up b + down a) + down c) (up c + down a + down b))
    + down (middle a b c)
unfolding middle
middle-sides a b c =
    omega (signed, max-sides (z_min a b) (z_min (z_max a b) c), min-sides a b, min-sides (z_max a b) c, max-sides a b)

pub middle-first : (a b c : ℤ) → Between (middle a b c) a b
middle-first a b c =
    (omega (signed, middle-sides a b c, min-sides a b), omega (signed, middle-sides a b c, max-sides a b))

pub middle-outer : (a b c : ℤ) → Between (middle a b c) a c
middle-outer a b c =
    (omega (signed, middle-sides a b c, min-sides a c), omega (signed, middle-sides a b c, max-sides a c))

pub middle-last : (a b c : ℤ) → Between (middle a b c) b c
middle-last a b c =
    (omega (signed, middle-sides a b c, min-sides b c), omega (signed, middle-sides a b c, max-sides b c))

-- it is one of the three
pub middle-one : (a b c : ℤ) → (middle a b c ≡ a) ⊎ ((middle a b c ≡ b) ⊎ (middle a b c ≡ c))
middle-one a b c =
    by (le_z a b)
    (λ e. by (le_z b c) (λ f. inr (inl (eq_of _ _ (omega (signed, middle-sides a b c)))))
    (λ f. by (le_z a c) (λ g. inr (inr (eq_of _ _ (omega (signed, middle-sides a b c)))))
    (λ g. inl (eq_of _ _ (omega (signed, middle-sides a b c))))))
    (λ e. by (le_z a c) (λ f. inl (eq_of _ _ (omega (signed, middle-sides a b c))))
    (λ f. by (le_z b c) (λ g. inr (inr (eq_of _ _ (omega (signed, middle-sides a b c)))))
    (λ g. inr (inl (eq_of _ _ (omega (signed, middle-sides a b c)))))))
