-- The pins that are left decide.
use Rattle.std.proofs.Common.{◌≡◌, drop}
use Rattle.lists.specs.Any.{any}
use Rattle.net.specs.Pins.{pin_places}
use Rattle.net.specs.Tests.{place_out}
use Rattle.checks.proofs.any_place_out.Given as goal

abbrev pub invariant-loop-i : goal.invariant-loop-i
invariant-loop-i l = any place_out (pin_places l.pins) ≡ any place_out (drop l.i (pin_places l.pins))
