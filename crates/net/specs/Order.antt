-- Two pairs of lists that hold the same entries, in whatever order: the premise of D2b. And two lists of pins at the same places, in
-- whatever order and with whatever loads: what all answers but a file's depend on [11].
use Rattle.std.specs.Prelude.{◌≡◌, ℤ, length}
use mathlib.Core.List.{List, Perm}
use Rattle.lists.specs.Any.{any}
use Rattle.plane.specs.Flat.{macros_of}
use Rattle.net.specs.Pins.{pin_places, pin_loads, pin_entries}
use Rattle.net.specs.Tests.{no_load}

-- the same entries in another order; numbers left over past the last whole entry may be others
pub record SamePins (pins pins' : List ℤ) : Type 0 where
  pub many : length pins ≡ length pins'
  pub order : Perm (pin_entries pins) (pin_entries pins')

-- the same places in another order; and where one list has a load out of range, so has the other
pub record SamePlaces (pins pins' : List ℤ) : Type 0 where
  pub many : length pins ≡ length pins'
  pub order : Perm (pin_places pins) (pin_places pins')
  pub loads : any no_load (pin_loads pins) ≡ any no_load (pin_loads pins')

pub record SameMacros (macros macros' : List ℤ) : Type 0 where
  pub many : length macros ≡ length macros'
  pub order : Perm (macros_of macros) (macros_of macros')
