-- Cost: what everything above knows of it. The same both ways, 0 exactly at equal places, no less than the distance, additive through a
-- place in the box, the triangle, and how much at most. Each is the gaps' own law, multiplied by a weight on both sides.
-- Assumes nothing.
use mathlib.Core.Path.{◌≡◌, sym, ap, ap₂, ◌∙◌}
use Prim.Native.Nat.{ℕ, ◌+◌, ◌*◌, ◌^◌, ◌≤◌, ◌<◌}
use native.Mathlib.Nat.{add-mul, zero-mul, mul-one, mul-le-mul, mul-le-mul_right, le-mul_of_pos_right}
use native.Mathlib.Omega.{arith}
use Rattle.plane.specs.declared.Place.{Place}
use Rattle.plane.specs.declared.Weights.{Weights}
use Rattle.plane.specs.Place.{place}
use Rattle.plane.specs.Box.{InBox}
use Rattle.plane.specs.Distance.{apart, distance}
use Rattle.plane.specs.Middle.{middle_place}
use Rattle.plane.specs.Cost.{cost, plain, cost_limit, Positive}
use Rattle.plane.proofs.Fits.{PlaceFits}
use Rattle.plane.proofs.DistanceLaws.{apart-comm, apart-self, apart_none, apart-through, apart-triangle, apart_fits}
use Rattle.plane.proofs.BoxLaws.{middle-in-first}

-- Products

-- a product with a positive factor is 0 only where the other is
product-none : (m k : ℕ) → 1 ≤ k → m * k ≡ 0 → m ≡ 0
product-none m k h e =
    let l : m ≤ m * k = le-mul_of_pos_right m (omega (arith, h)) in
    omega (arith, l, e)

-- two gaps that make up a third, at one weight
sum-at : (m n : ℕ) {t : ℕ} (k : ℕ) → m + n ≡ t → m * k + n * k ≡ t * k
sum-at m n k e = sym (add-mul m n k) ∙ ap (λ (t : ℕ). t * k) e

pub product-fits : (m k : ℕ) → m < 2 ^ 32 → k < 2 ^ 8 → m * k < 2 ^ 40
product-fits m k h i =
    let gap : m ≤ 2 ^ 32 = omega (arith, h) in
    let weight : k ≤ 255 = omega (arith, i) in
    let l : m * k ≤ 2 ^ 32 * 255 = mul-le-mul gap weight in
    omega (arith, l)

-- Two places

module _ (w : Weights) where
  -- the same both ways
  pub cost-comm : (a b : Place) → cost w a b ≡ cost w b a
  unfolding cost
  cost-comm a b =
      ap₂ (λ (m n : ℕ). m * w.across + n * w.along) (apart-comm a.x b.x) (apart-comm a.y b.y)

  -- 0 exactly at equal places
  pub cost-self : (a : Place) → cost w a a ≡ 0
  unfolding cost
  cost-self a =
      ap₂ (λ (m n : ℕ). m * w.across + n * w.along) (apart-self a.x) (apart-self a.y)
      ∙ ap₂ ◌+◌ (zero-mul w.across) (zero-mul w.along)

  pub cost-none : Positive w → (a b : Place) → cost w a b ≡ 0 → a ≡ b
  unfolding cost
  cost-none p a b e =
      let across : a.x ≡ b.x = apart_none _ _ (product-none (apart a.x b.x) w.across p.across (omega (arith, e))) in
      let along : a.y ≡ b.y = apart_none _ _ (product-none (apart a.y b.y) w.along p.along (omega (arith, e))) in
      ap₂ place across along

  -- no less than the distance
  pub distance-cost : Positive w → (a b : Place) → distance a b ≤ cost w a b
  unfolding cost distance
  distance-cost p a b =
      let across : apart a.x b.x ≤ apart a.x b.x * w.across = le-mul_of_pos_right _ (omega (arith, p.across)) in
      let along : apart a.y b.y ≤ apart a.y b.y * w.along = le-mul_of_pos_right _ (omega (arith, p.along)) in
      omega (arith, across, along)

  -- a way through a place in the box costs no more
  pub cost-through : (s a b : Place) → InBox s a b → cost w s a + cost w s b ≡ cost w a b
  unfolding cost
  cost-through s a b i =
      omega (
        arith,
        sum-at _ _ w.across (apart-through s.x a.x b.x i.across),
        sum-at _ _ w.along (apart-through s.y a.y b.y i.along),
      )

  -- nor one through the middle place
  pub middle-through : (a b u : Place) → cost w (middle_place a b u) a + cost w (middle_place a b u) b ≡ cost w a b
  middle-through a b u = cost-through (middle_place a b u) a b (middle-in-first a b u)

  -- the triangle
  pub cost-triangle : (a b c : Place) → cost w a c ≤ cost w a b + cost w b c
  unfolding cost
  cost-triangle a b c =
      let across = mul-le-mul_right w.across (apart-triangle a.x b.x c.x) in
      let along = mul-le-mul_right w.along (apart-triangle a.y b.y c.y) in
      omega (
        arith,
        across,
        along,
        add-mul (apart a.x b.x) (apart b.x c.x) w.across,
        add-mul (apart a.y b.y) (apart b.y c.y) w.along,
      )

  -- How much at most

  -- no more than both axes allow
  pub cost-parts : (a b : Place) {m n : ℕ} → apart a.x b.x ≤ m → apart a.y b.y ≤ n → cost w a b ≤ m * w.across + n * w.along
  unfolding cost
  cost-parts a b h k = omega (arith, mul-le-mul_right w.across h, mul-le-mul_right w.along k)

  -- of any two places of 32 bits
  pub cost-fits : w.across < 2 ^ 8 → w.along < 2 ^ 8 → (a b : Place) → PlaceFits a → PlaceFits b → cost w a b < cost_limit
  unfolding cost
  cost-fits h k a b f g =
      omega (
        arith,
        product-fits (apart a.x b.x) w.across (apart_fits _ _ f.x g.x) h,
        product-fits (apart a.y b.y) w.along (apart_fits _ _ f.y g.y) k,
      )

-- at weights of 1, the distance
pub cost-plain : (a b : Place) → cost plain a b ≡ distance a b
unfolding cost distance
cost-plain a b = ap₂ ◌+◌ (mul-one (apart a.x b.x)) (mul-one (apart a.y b.y))
