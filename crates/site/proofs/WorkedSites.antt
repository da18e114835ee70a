-- E39: that both nets are in range has to be said. A net at the edge of the range is allowed; moved by one unit it is refused 13.
-- Assumes nothing.
use mathlib.Core.Path.{◌≡◌, refl}
use mathlib.Core.List.{[], ◌++◌, map}
use lib.IntN.{pos}
use Rattle.lent.specs.Told.{refused, given}
use Rattle.net.specs.Net.{plainly}
use Rattle.net.specs.Pins.{pin_entries}
use Rattle.net.specs.Counts.{counted}
use Rattle.net.specs.WorkedNets.{Lists, loaded_pin}
use Rattle.checks.proofs.WorkedChecks.{answer}
use Rattle.site.specs.Shift.{shift_entry}

-- a pin at the right edge of the range and one at the origin; and one unit further
abbrev edge : Lists
edge = record { pins = loaded_pin (pos 1000000) (pos 0) (pos 0) ++ loaded_pin (pos 0) (pos 0) (pos 0); macros = [] }

abbrev further : Lists
further = record { pins = loaded_pin (pos 1000001) (pos 0) (pos 0) ++ loaded_pin (pos 1) (pos 0) (pos 0); macros = [] }

pub record Worked : Type 0 where
  pub moved : map (shift_entry (pos 1) (pos 0)) (pin_entries edge.pins) ≡ pin_entries further.pins
  pub at-the-edge : answer plainly edge ≡ given (counted plainly 2 0)
  pub one_further : answer plainly further ≡ refused 13

pub worked-sites : Worked
unfolding answer pin_entries
worked-sites = record { moved = refl; at-the-edge = refl; one_further = refl }
