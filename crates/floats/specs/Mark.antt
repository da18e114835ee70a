-- Floats tested, delays marked, and the marks of a table's pins: rules Y7 and C38.
use Rattle.std.specs.Prelude.{Bool, true, false, ◌&&◌, List, [], ◌∷◌, map, ℕ, zero, suc, ◌+◌, eqb, get_or, Option, Some, None, Float}
use Rattle.std.specs.Float.{nan}
use Rattle.floats.specs.declared.Technology.{Technology}
use Rattle.floats.specs.Float.{finite, positive}

-- Y7: a delay, or the mark None that it is not finite
abbrev pub Delay : Type 0
Delay = Option Float

unfoldable pub marked : Float → Delay
marked d = elim (finite d) [ true ↦ Some d | false ↦ None ]

unfoldable pub is_mark : Delay → Bool
is_mark (Some d) = false
is_mark None = true

-- the delays among them
unfoldable pub finites : List Delay → List Float
finites [] = []
finites (Some d ∷ l) = d ∷ finites l
finites (None ∷ l) = finites l

-- C38: both numbers are finite and above zero
unfoldable pub fair : Float → Bool
fair x = positive x && finite x

unfoldable pub usable : Technology → Bool
usable t = fair t.resistance && fair t.capacitance

-- The pins among a table's points

unfoldable pub is_pin : List ℕ → ℕ → Bool
is_pin pin i = eqb (get_or pin i 0) 1

-- the numbers of the pins among n points from number i on
unfoldable pub pins_from : List ℕ → ℕ → ℕ → List ℕ
pins_from pin i zero = []
pins_from pin i (suc n) = elim (is_pin pin i) [ true ↦ i ∷ pins_from pin (i + 1) n | false ↦ pins_from pin (i + 1) n ]

-- the marks of a table's pins, from number i on
unfoldable pub marks_from : List Float → List ℕ → ℕ → ℕ → List Delay
marks_from table pin i n = map (λ q. marked (get_or table q nan)) (pins_from pin i n)
