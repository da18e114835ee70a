-- The rows of the crossings passed stand in the table.
use Rattle.grid.specs.Tables.{Near, RowsOver}
use Rattle.grid.proofs.give_rows.Given as goal

abbrev pub invariant-loop-i : goal.invariant-loop-i
invariant-loop-i l = RowsOver (Near l.costs l.e) l.numbers l.m l.i l.initial.table l.table
