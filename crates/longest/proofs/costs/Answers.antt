-- An edge more is measured, and the greatest cost is none of those before it or that edge's.
use Rattle.std.proofs.Common.{arith}
use Rattle.lists.proofs.TurnLaws.{turns_next, turns-end}
use Rattle.tree.proofs.LowLaws.{low-raised}
use Rattle.longest.proofs.LongestLaws.{measure-is}
use Rattle.longest.proofs.costs.Goals as goal

pub loop-k-preserved : goal.loop-k-preserved
loop-k-preserved c = (
  turns_next _ _ _ _ _ _ c.loop-k.invariant.0 (omega arith) (measure-is _ _ _ _ _ _ c.edge_cost-d.ensures.0),
  low-raised _ _ _ _ _ (omega (arith, c.max-most.ensures)) (omega (arith, c.max-most.ensures)) c.loop-k.invariant.1,
)

pub returns-clause-el_after : goal.returns-clause-el_after
returns-clause-el_after c = turns-end _ _ _ _ _ c.loop-k.invariant.0 (omega arith)
