-- The closed upright box of two places.
use Rattle.std.specs.Prelude.{ℤ}
use Rattle.signed.specs.Order.{z_min, z_max}
use Rattle.signed.specs.Sides.{Le}
use Rattle.plane.specs.declared.Place.{Place}

-- s between a and b, both taken in
abbrev pub Between : ℤ → ℤ → ℤ → Type 0
Between s a b = Le (z_min a b) s × Le s (z_max a b)

-- s in the box of a and b
pub record InBox (s a b : Place) : Type 0 where
  pub across : Between s.x a.x b.x
  pub along : Between s.y a.y b.y
