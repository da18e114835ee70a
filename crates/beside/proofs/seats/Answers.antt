use Rattle.std.proofs.Common.{refl, arith}
use Rattle.lists.proofs.TurnLaws.{turns_next, turns-end}
use Rattle.beside.proofs.BesideLaws.{take-seat-is}
use Rattle.beside.proofs.seats.Goals as goal

pub loop-i-preserved : goal.loop-i-preserved
loop-i-preserved c =
    turns_next _ _ _ _ _ _ c.loop-i.invariant (omega arith)
    (take-seat-is _ _ _ _ _ _ _ _ _ refl c.place_at.ensures c.rank.ensures.0)

pub returns : goal.returns
returns c = turns-end _ _ _ _ _ c.loop-i.invariant (omega arith)
