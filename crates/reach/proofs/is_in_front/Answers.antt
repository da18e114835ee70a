use Rattle.reach.proofs.CodeLaws.{front-is}
use Rattle.reach.proofs.is_in_front.Goals as goal

pub returns : goal.returns
returns c = front-is _ _ _ _ _ c.min.ensures c.max.ensures c.max-2.ensures
