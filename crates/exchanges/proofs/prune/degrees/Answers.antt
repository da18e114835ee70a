-- One edge more is counted, at both ends.
use Rattle.std.proofs.Common.{arith}
use Rattle.lists.proofs.TurnLaws.{turns_next, turns-end}
use Rattle.exchanges.proofs.PruneLaws.{low_count}
use Rattle.exchanges.proofs.prune.degrees.Goals as goal

pub loop-i-preserved : goal.loop-i-preserved
loop-i-preserved c = (
  low_count _ _ _ _ _ _ c.count_ends.ensures c.loop-i.invariant.0 (omega arith),
  turns_next _ _ _ _ _ _ c.loop-i.invariant.1 (omega arith) c.count_ends.ensures,
)

pub returns : goal.returns
returns c = turns-end _ _ _ _ _ c.loop-i.invariant.1 (omega arith)
