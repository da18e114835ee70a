-- The check of a net: rules C11 to C18, in the order of C60.
use Rattle.std.specs.Prelude.{cond, ◌||◌, List, ℤ, Result}
use Rattle.lists.specs.Any.{any, any_two}
use Rattle.plane.specs.Place.{same_place}
use Rattle.plane.specs.Macro.{interiors_meet}
use Rattle.plane.specs.Flat.{macros_of}
use Rattle.lent.specs.Told.{Told, refused, given}
use Rattle.net.specs.Bounds.{Bounds, today}
use Rattle.net.specs.Pins.{pin_places}
use Rattle.net.specs.Answer.{told_by}
use Rattle.net.specs.Counts.{counts_of}
use Rattle.net.specs.Tests.{pins_miscounted_within, macros_miscounted_within, out_of_range, pins_out_of_range, not_upright, inside_any, weights_wrong}
use Rattle.net.specs.declared.Weighing.{Weighing}
use Rattle.net.specs.declared.Net.{Net as Counts}
use Rattle.net.specs.declared.Refusal.{Refusal}

-- C51, C60: each test is over the whole net, and the first that applies is the answer
unfoldable pub checked_within : Bounds → Weighing → List ℤ → List ℤ → Told Counts
checked_within b w pins macros =
    cond (pins_miscounted_within b pins) (refused 11)
    (cond (macros_miscounted_within b macros) (refused 12)
    (cond (pins_out_of_range pins || any out_of_range macros) (refused 13)
    (cond (any not_upright (macros_of macros)) (refused 14)
    -- C15: a place with two pins
    (cond (any_two same_place (pin_places pins)) (refused 15)
    -- C16: interiors that meet
    (cond (any_two interiors_meet (macros_of macros)) (refused 16)
    (cond (any (inside_any (macros_of macros)) (pin_places pins)) (refused 17)
    (cond (weights_wrong w) (refused 18)
    -- C56: none applies, so the net is allowed
    (given (counts_of w pins macros)))))))))

abbrev pub checked : Weighing → List ℤ → List ℤ → Told Counts
checked = checked_within today

-- what the code's answer says
abbrev pub told : Result Counts Refusal → Told Counts
told = told_by (λ net. net)
