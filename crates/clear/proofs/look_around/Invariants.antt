-- The macros that are left decide.
use Rattle.std.proofs.Common.{◌≡◌, drop}
use Rattle.lists.specs.Any.{any}
use Rattle.plane.specs.Macro.{meets}
use Rattle.plane.specs.Flat.{macros_of}
use Rattle.clear.proofs.look_around.Given as goal

abbrev pub invariant-loop-i : goal.invariant-loop-i
invariant-loop-i l = any (meets l.a l.b) (macros_of l.macros) ≡ any (meets l.a l.b) (drop l.i (macros_of l.macros))
