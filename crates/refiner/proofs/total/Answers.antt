use Rattle.std.proofs.Common.{arith}
use Rattle.lists.proofs.TurnLaws.{turns_next, turns-end}
use Rattle.refiner.proofs.RoundLaws.{total-none, total-next}
use Rattle.refiner.proofs.total.Goals as goal

pub loop-k-init : goal.loop-k-init
loop-k-init c = (omega arith, total-none _ _ _ _)

pub loop-k-preserved : goal.loop-k-preserved
loop-k-preserved c = (
  omega (arith, c.edge_cost-sum.ensures.1),
  turns_next _ _ _ _ _ _ c.loop-k.invariant.1 (omega arith) (total-next _ _ _ _ _ _ c.edge_cost-sum.ensures.0),
)

pub returns : goal.returns
returns c = turns-end _ _ _ _ _ c.loop-k.invariant.1 (omega arith)
