-- The bits that are left tell what all do.
use Rattle.std.proofs.Common.{◌≡◌, ◌-◌}
use Rattle.parts.specs.Numbers.{part_of}
use Rattle.parts.proofs.is_part.Given as goal

abbrev pub invariant-loop : goal.invariant-loop
invariant-loop l = part_of l.m l.p l.s ≡ part_of (l.m - l.counter) l.a l.b
