use Rattle.std.proofs.Common.{◌<◌, refl, length, arith}
use Rattle.grid.proofs.TableLaws.{costs-none, costs-more, costs-end}
use Rattle.grid.proofs.put_costs.Goals as goal

pub loop-k-init : goal.loop-k-init
loop-k-init c = costs-none _ _ _ _ _ _

pub loop-k-preserved : goal.loop-k-preserved
loop-k-preserved c =
    let room : c.loop-k.k < length c.loop-k.costs = omega (arith, c.requires.few_lines.0.across) in
    costs-more _ _ _ _ _ _ _ _ c.loop-k.invariant room c.edge_cost.ensures

pub returns : goal.returns
returns c = record { value = refl; costs_to = costs-end _ _ _ _ _ _ _ _ c.loop-k.invariant c.loop-k-test.false }
