-- The part is tried at the first v crossings.
use Rattle.parts.specs.Tables.{value_at}
use Rattle.parts.proofs.WorkLaws.{Trying}
use Rattle.parts.proofs.try_part.Given as goal

abbrev pub invariant-loop-v : goal.invariant-loop-v
invariant-loop-v l = Trying l.m (value_at l.work) l.s l.p l.initial.row l.v l.row
