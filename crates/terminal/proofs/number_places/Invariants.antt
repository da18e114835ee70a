-- The numbers of the places so far stand at the front of the table.
use Rattle.lent.specs.Entries.{entries}
use Rattle.plane.specs.Flat.{place_from}
use Rattle.terminal.specs.Number.{number_of}
use Rattle.terminal.proofs.FillLaws.{Filling}
use Rattle.terminal.proofs.number_places.Given as goal

abbrev pub invariant-loop-i : goal.invariant-loop-i
invariant-loop-i l =
    Filling (number_of (entries place_from 2 l.vertices l.n)) (entries place_from 2 l.places l.m) l.fn.numbers l.numbers l.i
