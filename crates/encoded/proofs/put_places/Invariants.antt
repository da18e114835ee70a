-- The places of the pins passed stand over what stood there.
use Rattle.std.proofs.Common.{◌≡◌, take}
use Rattle.lent.specs.Over.{over}
use Rattle.lent.specs.Entries.{flat}
use Rattle.plane.specs.Flat.{place_numbers}
use Rattle.net.specs.Pins.{pin_places}
use Rattle.encoded.proofs.put_places.Given as goal

abbrev pub invariant-loop-i : goal.invariant-loop-i
invariant-loop-i l = l.places ≡ over (flat place_numbers (take l.i (pin_places l.pins))) l.initial.places
