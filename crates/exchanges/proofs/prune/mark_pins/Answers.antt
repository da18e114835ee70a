-- One point more is marked.
use Rattle.std.proofs.Common.{arith}
use Rattle.lists.proofs.TurnLaws.{turns_next, turns-end}
use Rattle.exchanges.proofs.prune.mark_pins.Goals as goal

pub loop-i-preserved : goal.loop-i-preserved
loop-i-preserved c = turns_next _ _ _ _ _ _ c.loop-i.invariant (omega arith) c.mark.ensures

pub returns : goal.returns
returns c = turns-end _ _ _ _ _ c.loop-i.invariant (omega arith)
