-- What became of the row since a pass on, which has left its edges quiet. A pass back that changes a value lowers the sum.
use Rattle.lists.specs.Total.{total}
use Rattle.grid.specs.Rows.{Held, Quiet}
use Rattle.grid.specs.Tables.{Near, Onward}
use Rattle.grid.proofs.settle.Given as goal

abbrev pub invariant-loop : goal.invariant-loop
invariant-loop l = record {
  held : Held (Near l.costs l.e) l.fn.row l.row;
  onward : Quiet (Onward l.costs l.e l.e) l.row;
}

abbrev pub decreases-loop : goal.decreases-loop
decreases-loop l = total l.row
