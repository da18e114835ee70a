-- The numbers of the first j crossings are stored.
use Rattle.std.proofs.Common.{◌≡◌, map, take, pos}
use Rattle.std.proofs.lemmas.List.Edits.{sets}
use Rattle.grid.specs.Tables.{picked}
use Rattle.grid.proofs.put_row.Given as goal

abbrev pub invariant-loop-j : goal.invariant-loop-j
invariant-loop-j l = l.table ≡ sets l.initial.table l.from (map pos (picked l.row (take l.j l.numbers)))
