use Rattle.turned.specs.Turned.{same_spot}
use Rattle.reach.proofs.CodeLaws.{ends-first, ends-second}
use Rattle.reach.proofs.ends_at.Goals as goal
use Rattle.reach.proofs.ends_at.Goals.{then-e, else-e}

pub returns : goal.returns
unfolding same_spot
returns c =
    elim c.if-e.branch [
      | then-e w ↦ ends-first _ _ _ _ _ c.is_ahead.ensures c.long.ensures _ _ c.eq.ensures w.if-e.true w.far-is
      | else-e w ↦ ends-second _ _ _ _ _ c.is_ahead.ensures c.long.ensures _ _ c.eq.ensures w.if-e.false w.far-is
    ]
