-- The numbers that are left decide.
use Rattle.std.proofs.Common.{◌≡◌, drop}
use Rattle.lists.specs.Any.{any}
use Rattle.net.specs.Tests.{out_of_range}
use Rattle.checks.proofs.any_out_of_range.Given as goal

abbrev pub invariant-loop-z : goal.invariant-loop-z
invariant-loop-z l = any out_of_range l.numbers ≡ any out_of_range (drop l.z-index l.numbers)
