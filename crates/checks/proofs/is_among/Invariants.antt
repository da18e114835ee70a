-- The pins that are left decide.
use Rattle.std.proofs.Common.{◌≡◌, drop}
use Rattle.lists.specs.Any.{any}
use Rattle.plane.specs.Place.{same_place}
use Rattle.net.specs.Pins.{pin_places}
use Rattle.checks.proofs.is_among.Given as goal

abbrev pub invariant-loop-j : goal.invariant-loop-j
invariant-loop-j l = any (same_place l.p) (drop l.from (pin_places l.pins)) ≡ any (same_place l.p) (drop l.j (pin_places l.pins))
