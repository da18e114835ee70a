-- Places and macros in flat lists of numbers: two numbers a place, four a macro.
use Rattle.std.specs.Prelude.{List, [], ◌∷◌, ℕ, ◌+◌, ◌*◌, ℤ, pos, get_or}
use Rattle.lists.specs.Entries.{twos, fours}
use Rattle.plane.specs.declared.Place.{Place}
use Rattle.plane.specs.declared.Macro.{Macro}
use Rattle.plane.specs.Place.{place}
use Rattle.plane.specs.Macro.{macro}

-- the places that a flat list holds; a number left over at its end is no place
unfoldable pub places_of : List ℤ → List Place
unfolding twos
places_of s = twos place s

-- the macros that a flat list holds; up to three numbers left over at its end are no macro
unfoldable pub macros_of : List ℤ → List Macro
unfolding fours
macros_of s = fours macro s

-- the place that begins at the number k of a flat list, and the i-th place
abbrev pub place_from : List ℤ → ℕ → Place
place_from s k = place (get_or s k (pos 0)) (get_or s (k + 1) (pos 0))

abbrev pub place_at : List ℤ → ℕ → Place
place_at s i = place_from s (i * 2)

-- the numbers of a place
abbrev pub place_numbers : Place → List ℤ
place_numbers p = p.x ∷ (p.y ∷ [])

-- the macro that begins at the number k of a flat list, and the i-th macro
abbrev pub macro_from : List ℤ → ℕ → Macro
macro_from s k = macro (get_or s k (pos 0)) (get_or s (k + 1) (pos 0)) (get_or s (k + 2) (pos 0)) (get_or s (k + 3) (pos 0))

abbrev pub macro_at : List ℤ → ℕ → Macro
macro_at s i = macro_from s (i * 4)

-- places as a flat list
unfoldable pub flat_places : List Place → List ℤ
flat_places [] = []
flat_places (p ∷ ps) = p.x ∷ (p.y ∷ flat_places ps)
