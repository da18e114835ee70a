-- The pins that are left decide, and no load of them is out of range.
use Rattle.std.proofs.Common.{◌≡◌, false, drop}
use Rattle.lists.specs.Any.{any}
use Rattle.net.specs.Tests.{no_load}
use Rattle.net.specs.Pins.{pin_loads, pin_entries}
use Rattle.delay.specs.Load.{load_of}
use Rattle.delay.proofs.loads.load_of.Given as goal

abbrev pub invariant-loop-i : goal.invariant-loop-i
invariant-loop-i l =
    (load_of (pin_entries l.pins) l.q ≡ load_of (drop l.i (pin_entries l.pins)) l.q) × (any no_load (drop l.i (pin_loads l.pins)) ≡ false)
