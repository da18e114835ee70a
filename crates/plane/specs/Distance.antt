-- How far two numbers and two places lie apart.
use Rattle.std.specs.Prelude.{ℕ, ◌+◌, ℤ, ◌-ℤ◌, nat_abs}
use Rattle.plane.specs.declared.Place.{Place}

-- the absolute value of the difference of two numbers
unfoldable pub apart : ℤ → ℤ → ℕ
apart a b = nat_abs (a -ℤ b)

-- N17: the distance, across and along added up
unfoldable pub distance : Place → Place → ℕ
distance a b = apart a.x b.x + apart a.y b.y
