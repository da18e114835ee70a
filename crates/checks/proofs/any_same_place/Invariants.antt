-- The pins that are left decide.
use Rattle.std.proofs.Common.{◌≡◌, drop}
use Rattle.lists.specs.Any.{any_two}
use Rattle.plane.specs.Place.{same_place}
use Rattle.net.specs.Pins.{pin_places}
use Rattle.checks.proofs.any_same_place.Given as goal

abbrev pub invariant-loop-i : goal.invariant-loop-i
invariant-loop-i l = any_two same_place (pin_places l.pins) ≡ any_two same_place (drop l.i (pin_places l.pins))
