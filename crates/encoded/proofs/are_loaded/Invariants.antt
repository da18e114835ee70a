-- The loads that are left decide.
use Rattle.std.proofs.Common.{◌≡◌, drop}
use Rattle.lists.specs.Any.{any}
use Rattle.net.specs.Pins.{pin_loads}
use Rattle.encoded.specs.Layout.{is_load}
use Rattle.encoded.proofs.are_loaded.Given as goal

abbrev pub invariant-loop-i : goal.invariant-loop-i
invariant-loop-i l = any is_load (pin_loads l.pins) ≡ any is_load (drop l.i (pin_loads l.pins))
