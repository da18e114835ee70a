-- The loads that are left decide.
use Rattle.std.proofs.Common.{◌≡◌, drop}
use Rattle.lists.specs.Any.{any}
use Rattle.net.specs.Pins.{pin_loads}
use Rattle.net.specs.Tests.{no_load}
use Rattle.checks.proofs.any_no_load.Given as goal

abbrev pub invariant-loop-i : goal.invariant-loop-i
invariant-loop-i l = any no_load (pin_loads l.pins) ≡ any no_load (drop l.i (pin_loads l.pins))
