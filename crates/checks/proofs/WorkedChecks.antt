-- The check of the worked nets E1 to E11, with weights E19 and E20, and with loads E33, by computing the definition.
-- Assumes nothing.
use mathlib.Core.Path.{◌≡◌, refl}
use mathlib.Core.List.{[], ◌∷◌, ◌++◌}
use lib.IntN.{ℤ, pos, negsuc}
use Rattle.lists.specs.Any.{any, any_two}
use Rattle.signed.specs.Order.{z_min, z_max}
use Rattle.plane.specs.Place.{same_place}
use Rattle.plane.specs.Macro.{inside, open_spans_meet, interiors_meet}
use Rattle.plane.specs.Flat.{macros_of}
use Rattle.signed.specs.Sides.{up}
use Rattle.lent.specs.Told.{Told, refused, given}
use Rattle.net.specs.declared.Net.{Net}
use Rattle.net.specs.declared.Weighing.{Weighing}
use Rattle.net.specs.Net.{weighing, plainly}
use Rattle.net.specs.Pins.{pin_count, pin_places, pin_loads}
use Rattle.net.specs.Tests.{pins_miscounted_within, macros_miscounted_within, out_of_range, no_load, pins_out_of_range, not_upright, inside_any}
use Rattle.net.specs.Tests.{no_weight, weights_wrong}
use Rattle.net.specs.Counts.{counted}
use Rattle.net.specs.WorkedNets.{Lists, loaded_pin, one_pin, no_pin, around_one, three_pins, shared_side, on_sides, overlapping, on_boundary}
use Rattle.net.specs.WorkedNets.{in_interior, twice_in_interior, no_width}
use Rattle.checks.specs.Check.{checked, checked_within}

-- the check of a net with these weights; to unfold this is to unfold all that it rests on
unfoldable pub answer : Weighing → Lists → Told Net
unfolding up any any_two z_min z_max same_place inside open_spans_meet interiors_meet pin_count pin_places pin_loads macros_of pins_miscounted_within
    macros_miscounted_within out_of_range no_load pins_out_of_range not_upright inside_any no_weight weights_wrong checked_within
answer w net = checked w net.pins net.macros

-- one pin with this load, and two at one place with these
abbrev one_pin_of : ℤ → Lists
one_pin_of load = record { pins = loaded_pin (pos 5) (pos 5) load; macros = [] }

abbrev one_place_of : ℤ → ℤ → Lists
one_place_of a b = record { pins = loaded_pin (pos 5) (pos 5) a ++ loaded_pin (pos 5) (pos 5) b; macros = [] }

-- a coordinate that passes for no load, as x of the second pin, so that numbers are not taken for one another
abbrev left_pin : Lists
left_pin = record { pins = loaded_pin (pos 5) (pos 5) (pos 1) ++ loaded_pin (negsuc 6) (negsuc 6) (pos 0); macros = [] }

pub record Table : Type 0 where
  pub one-pin : answer plainly one_pin ≡ given (counted plainly 1 0)
  pub no-pin : answer plainly no_pin ≡ refused 11
  pub around-one : answer plainly around_one ≡ given (counted plainly 2 1)
  pub three-pins : answer plainly three_pins ≡ given (counted plainly 3 0)
  pub shared-side : answer plainly shared_side ≡ given (counted plainly 2 2)
  pub on-sides : answer plainly on_sides ≡ given (counted plainly 2 1)
  pub overlap : answer plainly overlapping ≡ refused 16
  pub on-boundary : answer plainly on_boundary ≡ given (counted plainly 1 1)
  pub in-interior : answer plainly in_interior ≡ refused 17
  pub twice-in-interior : answer plainly twice_in_interior ≡ refused 15
  pub no-width : answer plainly no_width ≡ refused 14
  -- E20: weights 1 and 3 are given; 0, 9 and a negative one are refused, after all that the net has of its own
  pub weighted : answer (weighing (pos 1) (pos 3)) three_pins ≡ given (counted (weighing (pos 1) (pos 3)) 3 0)
  pub no-weight : answer (weighing (pos 0) (pos 1)) three_pins ≡ refused 18
  pub much-weight : answer (weighing (pos 8) (pos 9)) three_pins ≡ refused 18
  pub below-weight : answer (weighing (negsuc 0) (pos 1)) three_pins ≡ refused 18
  pub overlap-first : answer (weighing (pos 9) (pos 9)) overlapping ≡ refused 16
  pub inside-first : answer (weighing (pos 9) (pos 9)) in_interior ≡ refused 17
  -- E33: loads from 0 to 1,000,000; pins at one place are the same, whatever their loads [11]
  pub greatest-load : answer plainly (one_pin_of (pos 1000000)) ≡ given (counted plainly 1 0)
  pub load-above : answer plainly (one_pin_of (pos 1000001)) ≡ refused 13
  pub load_below : answer plainly (one_pin_of (negsuc 0)) ≡ refused 13
  pub left-pin : answer plainly left_pin ≡ given (counted plainly 2 0)
  pub two-loads : answer plainly (one_place_of (pos 1) (pos 2)) ≡ refused 15
  pub not-whole : answer plainly (record { pins = pos 5 ∷ (pos 5 ∷ []); macros = [] }) ≡ refused 11

pub worked-checks : Table
unfolding answer
worked-checks = record {
  one-pin = refl;
  no-pin = refl;
  around-one = refl;
  three-pins = refl;
  shared-side = refl;
  on-sides = refl;
  overlap = refl;
  on-boundary = refl;
  in-interior = refl;
  twice-in-interior = refl;
  no-width = refl;
  weighted = refl;
  no-weight = refl;
  much-weight = refl;
  below-weight = refl;
  overlap-first = refl;
  inside-first = refl;
  greatest-load = refl;
  load-above = refl;
  load_below = refl;
  left-pin = refl;
  two-loads = refl;
  not-whole = refl;
}
