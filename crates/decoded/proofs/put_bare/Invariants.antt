-- The pins at the places passed stand over what stood there.
use Rattle.std.proofs.Common.{◌≡◌, map, take}
use Rattle.lent.specs.Over.{over}
use Rattle.lent.specs.Entries.{flat}
use Rattle.plane.specs.Flat.{places_of}
use Rattle.net.specs.Pins.{pin_numbers, bare}
use Rattle.decoded.proofs.put_bare.Given as goal

abbrev pub invariant-loop-i : goal.invariant-loop-i
invariant-loop-i l = l.pins ≡ over (flat pin_numbers (take l.i (map bare (places_of l.places)))) l.initial.pins
