-- The rows of the sets passed stand.
use Rattle.grid.specs.Tables.{Near}
use Rattle.parts.specs.Tables.{FilledTo}
use Rattle.parts.proofs.fill.Given as goal

abbrev pub invariant-loop-s : goal.invariant-loop-s
invariant-loop-s l = FilledTo (Near l.costs l.e) l.m l.numbers l.s l.initial.work l.work
