-- Pins and macros in their flat lists. How many numbers a pin has is a literal in this crate alone; above it a pin is known by its number,
-- from 0 to `pin_count` less 1, and by its place. Loads are read by names of their own: what is made of places does not know them.
use Rattle.std.specs.Prelude.{List, [], ◌∷◌, map, ℕ, ◌+◌, ◌*◌, ◌/◌, ℤ, pos, length, get_or}
use Rattle.lists.specs.Entries.{threes}
use Rattle.lent.specs.Entries.{flat}
use Rattle.plane.specs.declared.Place.{Place}
use Rattle.plane.specs.Place.{place}
use Rattle.plane.specs.Flat.{place_from}
use Rattle.net.specs.Bounds.{pin_width, macro_width}

-- N7: m of a flat list
unfoldable pub pin_count : List ℤ → ℕ
pin_count pins = length pins / pin_width

-- N2: the places of the pins, in the list's order, and the place of the i-th; up to two numbers left over at the end are no pin
unfoldable pub pin_places : List ℤ → List Place
unfolding threes
pin_places pins = threes (λ x y load. place x y) pins

abbrev pub pin_at : List ℤ → ℕ → Place
pin_at pins i = place_from pins (i * pin_width)

-- N28: their loads, and the load of the i-th [11]
unfoldable pub pin_loads : List ℤ → List ℤ
unfolding threes
pin_loads pins = threes (λ x y load. load) pins

abbrev pub load_at : List ℤ → ℕ → ℤ
load_at pins i = get_or pins (i * pin_width + 2) (pos 0)

-- place and load together: as the i-th numbers of a flat list, as a flat list's entries, and as the numbers of one
abbrev pub pin_from : List ℤ → ℕ → Place × ℤ
pin_from pins k = (place_from pins k, get_or pins (k + 2) (pos 0))

unfoldable pub pin_entries : List ℤ → List (Place × ℤ)
unfolding threes
pin_entries pins = threes (λ x y load. (place x y, load)) pins

abbrev pub pin_numbers : Place × ℤ → List ℤ
pin_numbers e = e.0.x ∷ (e.0.y ∷ (e.1 ∷ []))

-- a pin without a load, and such pins as a flat list
abbrev pub bare : Place → Place × ℤ
bare p = (p, pos 0)

unfoldable pub flat_pins : List Place → List ℤ
unfolding flat
flat_pins ps = flat pin_numbers (map bare ps)

-- N7: k of a flat list
abbrev pub macro_count : List ℤ → ℕ
macro_count macros = length macros / macro_width
