-- The tests of a net, each alone: rules C11 to C14, C17 and C18. Crate checks has them, C15 and C16 in the order of C60.
use Rattle.std.specs.Prelude.{Bool, not, ◌||◌, List, ◌%◌, eqb, ltb, ℤ, pos, neg_ℤ, length}
use Rattle.std.specs.Int.Signed.{lt_z}
use Rattle.lists.specs.Any.{any}
use Rattle.plane.specs.declared.Place.{Place}
use Rattle.plane.specs.declared.Macro.{Macro}
use Rattle.plane.specs.Macro.{inside}
use Rattle.net.specs.Bounds.{Bounds, today, coordinate_bound, load_bound, weight_bound, pin_width, macro_width}
use Rattle.net.specs.Pins.{pin_count, pin_places, pin_loads, macro_count}
use Rattle.net.specs.declared.Weighing.{Weighing}

-- C11: not whole threes [11], no pin, or more than the bound, which is 128
unfoldable pub pins_miscounted_within : Bounds → List ℤ → Bool
pins_miscounted_within b pins = not (eqb (length pins % pin_width) 0) || (eqb (pin_count pins) 0 || ltb b.pins (pin_count pins))

abbrev pub pins_miscounted : List ℤ → Bool
pins_miscounted = pins_miscounted_within today

-- C12: not whole fours, or more macros than the bound, which is 128
unfoldable pub macros_miscounted_within : Bounds → List ℤ → Bool
macros_miscounted_within b macros = not (eqb (length macros % macro_width) 0) || ltb b.macros (macro_count macros)

abbrev pub macros_miscounted : List ℤ → Bool
macros_miscounted = macros_miscounted_within today

-- C13: farther from 0 than coordinates go
unfoldable pub out_of_range : ℤ → Bool
out_of_range z = lt_z z (neg_ℤ (pos coordinate_bound)) || lt_z (pos coordinate_bound) z

abbrev pub place_out : Place → Bool
place_out p = out_of_range p.x || out_of_range p.y

-- C13, for one load: below 0 or above the greatest [11]
unfoldable pub no_load : ℤ → Bool
no_load z = lt_z z (pos 0) || lt_z (pos load_bound) z

-- C13, for the pins: a place or a load
unfoldable pub pins_out_of_range : List ℤ → Bool
pins_out_of_range pins = any place_out (pin_places pins) || any no_load (pin_loads pins)

-- C14: a macro without width or without height
unfoldable pub not_upright : Macro → Bool
not_upright m = not (lt_z m.left m.right) || not (lt_z m.bottom m.top)

-- C17, for one pin: it is in an interior
unfoldable pub inside_any : List Macro → Place → Bool
inside_any macros p = any (inside p) macros

-- C18, for one of the two: outside 1 to 8
unfoldable pub no_weight : ℤ → Bool
no_weight z = lt_z z (pos 1) || lt_z (pos weight_bound) z

-- C18: one of the two
unfoldable pub weights_wrong : Weighing → Bool
weights_wrong w = no_weight w.first || no_weight w.second
