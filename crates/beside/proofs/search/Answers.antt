use Rattle.std.proofs.Common.{arith}
use Rattle.lists.proofs.TurnLaws.{turns_next, turns-end}
use Rattle.beside.specs.Beside.{search}
use Rattle.beside.proofs.search.Goals as goal

pub loop-k-preserved : goal.loop-k-preserved
loop-k-preserved c = turns_next _ _ _ _ _ _ c.loop-k.invariant (omega arith) c.offers-found.ensures

pub returns : goal.returns
unfolding search
returns c = turns-end _ _ _ _ _ c.loop-k.invariant (omega arith)
