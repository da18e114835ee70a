use Rattle.reach.proofs.CodeLaws.{own-level, own-not}
use Rattle.reach.proofs.is_own.Goals as goal

pub returns-then-e : goal.returns-then-e
returns-then-e c = own-level _ c.if-e.true

pub returns-else-e : goal.returns-else-e
returns-else-e c = own-not _ c.if-e.false
