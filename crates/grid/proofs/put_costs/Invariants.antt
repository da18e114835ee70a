-- The numbers so far.
use Rattle.plane.specs.Flat.{macros_of}
use Rattle.grid.specs.Tables.{CostsTo}
use Rattle.grid.proofs.put_costs.Given as goal

abbrev pub invariant-loop-k : goal.invariant-loop-k
invariant-loop-k l = CostsTo l.w (macros_of l.macros) l.grid l.xs l.ys l.k l.costs
