-- The pins that are left decide.
use Rattle.std.proofs.Common.{◌≡◌, drop}
use Rattle.lists.specs.Any.{any}
use Rattle.plane.specs.Place.{same_place}
use Rattle.net.specs.Pins.{pin_places}
use Rattle.net.proofs.is_pin.Given as goal

abbrev pub invariant-loop-i : goal.invariant-loop-i
invariant-loop-i l = any (same_place l.p) (pin_places l.pins) ≡ any (same_place l.p) (drop l.i (pin_places l.pins))
