use Rattle.labels.proofs.CodeLaws.{changed-yes, changed-no}
use Rattle.labels.proofs.changed.Goals as goal

pub returns-then-x-b : goal.returns-then-x-b
returns-then-x-b c = changed-yes _ _ _ c.if-x-b.true

pub returns-else-x-b : goal.returns-else-x-b
returns-else-x-b c = changed-no _ _ _ c.if-x-b.false
