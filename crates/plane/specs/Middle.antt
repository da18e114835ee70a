-- The middle of three numbers, and of three places by axis.
use Rattle.std.specs.Prelude.{ℤ}
use Rattle.signed.specs.Order.{z_min, z_max}
use Rattle.plane.specs.declared.Place.{Place}
use Rattle.plane.specs.Place.{place}

unfoldable pub middle : ℤ → ℤ → ℤ → ℤ
middle a b c = z_max (z_min a b) (z_min (z_max a b) c)

-- R5: s, the middle of three places axis by axis
unfoldable pub middle_place : Place → Place → Place → Place
middle_place a b u = place (middle a.x b.x u.x) (middle a.y b.y u.y)
