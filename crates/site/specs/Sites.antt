-- Two pairs of flat lists, of whole entries and in range, of which the second is the first shifted, its entries in any order.
use Rattle.std.specs.Prelude.{◌≡◌, false, ◌%◌, ℤ, length}
use mathlib.Core.List.{List, Perm, map}
use Rattle.lists.specs.Any.{any}
use Rattle.plane.specs.Flat.{macros_of}
use Rattle.net.specs.Bounds.{pin_width, macro_width}
use Rattle.net.specs.Pins.{pin_entries}
use Rattle.net.specs.Tests.{pins_out_of_range, out_of_range}
use Rattle.site.specs.Shift.{shift_entry, shift_macro}

-- whole entries, in range: neither by parts of an entry nor by 13 is one site another than the next
pub record OnDie (pins macros : List ℤ) : Type 0 where
  pub threes : length pins % pin_width ≡ 0
  pub fours : length macros % macro_width ≡ 0
  pub pins-in : pins_out_of_range pins ≡ false
  pub macros-in : any out_of_range macros ≡ false

-- the second lists are the first, shifted, in whatever order; loads stay
pub record Shifted (dx dy : ℤ) (pins pins' macros macros' : List ℤ) : Type 0 where
  pub here : OnDie pins macros
  pub there : OnDie pins' macros'
  pub pins-there : Perm (map (shift_entry dx dy) (pin_entries pins)) (pin_entries pins')
  pub macros-there : Perm (map (shift_macro dx dy) (macros_of macros)) (macros_of macros')
