-- Loads by place: rule Y4. Pins come as a list of places with their loads, in any order.
use Rattle.std.specs.Prelude.{cond, List, [], ◌∷◌, ℕ, ℤ}
use Rattle.signed.specs.Sides.{up}
use Rattle.plane.specs.declared.Place.{Place}
use Rattle.plane.specs.Place.{same_place}

-- Y4: the load of the pin at a place, and 0 where no pin is
unfoldable pub load_of : List (Place × ℤ) → Place → ℕ
load_of [] q = 0
load_of (x ∷ l) q = cond (same_place x.0 q) (up x.1) (load_of l q)
