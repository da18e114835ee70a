-- What metal costs along one axis, a gap at that axis's weight: compared, and added up. Two places a unit apart differ along one axis.
-- Assumes nothing.
use mathlib.Core.Path.{◌≡◌, refl, ap}
use mathlib.Core.Logic.{◌⊎◌, inl, inr}
use Prim.Native.Nat.{ℕ, zero, suc, ◌+◌, ◌*◌, ◌≤◌}
use native.Mathlib.Omega.{arith}
use native.Mathlib.Nat.{add-mul, zero-mul, mul-le-mul_right}
use lib.IntN.{ℤ}
use Rattle.joined.specs.Cost.{Cost}
use Rattle.plane.specs.declared.Place.{Place}
use Rattle.plane.specs.declared.Weights.{Weights}
use Rattle.plane.specs.Distance.{apart, distance}
use Rattle.plane.specs.Cost.{cost}
use Rattle.plane.proofs.DistanceLaws.{apart-comm, apart-self, apart_none}
use Rattle.plane.proofs.CostLaws.{cost-comm, cost-self}

module _ (w : ℕ) where
  pub axis-comm : (a b : ℤ) → apart a b * w ≡ apart b a * w
  axis-comm a b = ap (λ (n : ℕ). n * w) (apart-comm a b)

  pub axis-self : (a : ℤ) → apart a a * w ≡ 0
  axis-self a = rw (apart-self a) (zero-mul w)

  pub axis-one : (a b : ℤ) → apart a b ≡ 1 → apart a b * w ≡ w
  axis-one a b e = rw e (omega arith)

  -- one unit more, at most and exactly
  pub axis-le : (a b c d : ℤ) → apart a b ≤ apart c d + 1 → apart a b * w ≤ apart c d * w + w
  axis-le a b c d h = omega (arith, mul-le-mul_right w h, add-mul (apart c d) 1 w)

  pub axis-more : (a b c d : ℤ) → apart a b ≡ apart c d + 1 → apart a b * w ≡ apart c d * w + w
  axis-more a b c d h = rw h (omega (arith, add-mul (apart c d) 1 w))

  pub axis-sum : (a b c d e f : ℤ) → apart a b + apart c d ≡ apart e f → apart a b * w + apart c d * w ≡ apart e f * w
  axis-sum a b c d e f h = rw (← h) (omega (arith, add-mul (apart a b) (apart c d) w))

-- one unit along one axis
pub unit-axes : (a b : Place) → distance a b ≡ 1 → ((apart a.x b.x ≡ 1) × (a.y ≡ b.y)) ⊎ ((a.x ≡ b.x) × (apart a.y b.y ≡ 1))
unfolding distance
unit-axes a b h = at (apart a.x b.x) (apart a.y b.y) refl refl
  where
    at : (m n : ℕ) → apart a.x b.x ≡ m → apart a.y b.y ≡ n →
        ((apart a.x b.x ≡ 1) × (a.y ≡ b.y)) ⊎ ((a.x ≡ b.x) × (apart a.y b.y ≡ 1))
    at zero n e f = inr (apart_none a.x b.x e, omega arith)
    at (suc m) n e f = inl (omega arith, apart_none a.y b.y (omega arith))

-- cost is a length as the theory of joined points asks for it
pub cost-length : (w : Weights) → Cost (cost w)
cost-length w = record { even = cost-comm w; none = cost-self w }
