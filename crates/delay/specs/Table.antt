-- The pins and the driver among the points of a table, and the delays from the driver by numbers of points.
use Rattle.std.specs.Prelude.{◌≡◌, Bool, ◌&&◌, List, ℕ, ◌<◌, ℤ, get_or, replicate, Float}
use Rattle.lists.specs.Any.{any}
use Rattle.lists.specs.Turns.{seek}
use Rattle.plane.specs.declared.Place.{Place}
use Rattle.plane.specs.Place.{same_place}
use Rattle.plane.specs.Flat.{place_at}
use Rattle.net.specs.Pins.{pin_places, pin_entries}
use Rattle.tree.specs.Table.{tree_bound}
use Rattle.floats.specs.declared.Technology.{Technology}
use Rattle.floats.specs.Float as float
use Rattle.floats.specs.Mark.{is_pin}
use Rattle.elmore.specs.Elmore.{delays}
use Rattle.elmore.specs.Table.{hung, apart_in, load_in, stored}
use Rattle.delay.specs.Load.{load_of}

-- what the tables of pins and of loads say of the first n points, for a flat list of pins: 1 where a pin is, and its load
pub record Loaded (pins pts : List ℤ) (n : ℕ) (pin loads : List ℕ) : Type 0 where
  pub pinned : (i : ℕ) → i < n → is_pin pin i ≡ any (same_place (place_at pts i)) (pin_places pins)
  pub loaded : (i : ℕ) → i < n → get_or loads i 0 ≡ load_of (pin_entries pins) (place_at pts i)

-- point i is the pin at a place
unfoldable pub is_driver : List ℤ → List ℕ → Place → ℕ → Bool
is_driver pts pin q i = is_pin pin i && same_place (place_at pts i) q

-- the number of the pin at a place, or n
abbrev pub driver_in : List ℤ → List ℕ → ℕ → Place → ℕ
driver_in pts pin n q = seek (is_driver pts pin q) 0 n

-- the table of all delays from the driver, whose number is d, by the first e edges
unfoldable pub table_from : List ℤ → List ℕ → ℕ → List ℕ → Technology → ℕ → List Float
table_from pts ks e loads t d =
    stored (delays (apart_in pts) (load_in loads) t d float.zero (hung ks e e d d)) (replicate tree_bound float.zero)
