-- The macros that are left decide.
use Rattle.std.proofs.Common.{◌≡◌, drop}
use Rattle.lists.specs.Any.{any}
use Rattle.plane.specs.Flat.{macros_of}
use Rattle.net.specs.Tests.{not_upright}
use Rattle.checks.proofs.any_not_upright.Given as goal

abbrev pub invariant-loop-i : goal.invariant-loop-i
invariant-loop-i l = any not_upright (macros_of l.macros) ≡ any not_upright (drop l.i (macros_of l.macros))
