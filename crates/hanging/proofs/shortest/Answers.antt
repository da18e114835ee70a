use Rattle.std.proofs.Common.{◌∙◌}
use Rattle.hanging.proofs.CodeLaws.{shorter-first, shorter-next}
use Rattle.hanging.proofs.shortest.Goals as goal

pub returns-then-h-eq0 : goal.returns-then-h-eq0
returns-then-h-eq0 c = shorter-first _ _ c.if-h-eq0.true

pub returns-else-h-eq0 : goal.returns-else-h-eq0
returns-else-h-eq0 c = c.min.ensures ∙ shorter-next _ _ c.if-h-eq0.false
