-- The numbers passed stand over what stood there.
use Rattle.std.proofs.Common.{◌≡◌}
use Rattle.lent.specs.Over.{over}
use Rattle.decoded.specs.Held.{numbers_in}
use Rattle.decoded.proofs.take_numbers.Given as goal

abbrev pub invariant-loop-j : goal.invariant-loop-j
invariant-loop-j l = l.numbers ≡ over (numbers_in l.bytes l.b 0 l.j) l.initial.numbers
