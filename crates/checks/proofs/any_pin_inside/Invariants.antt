-- The pins that are left decide.
use Rattle.std.proofs.Common.{◌≡◌, drop}
use Rattle.lists.specs.Any.{any}
use Rattle.plane.specs.Flat.{macros_of}
use Rattle.net.specs.Pins.{pin_places}
use Rattle.net.specs.Tests.{inside_any}
use Rattle.checks.proofs.any_pin_inside.Given as goal

abbrev pub invariant-loop-i : goal.invariant-loop-i
invariant-loop-i l = any (inside_any (macros_of l.macros)) (pin_places l.pins) ≡ any (inside_any (macros_of l.macros)) (drop l.i (pin_places l.pins))
