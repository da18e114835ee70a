-- `union::mark_way` meets its contract: it recurses along parents, and the distance is the number that falls at each call.
-- Assumes nothing.
use mathlib.Core.Path.{◌∙◌}
use Rattle.union.proofs.MarkLaws.{mark-go, mark-stop}
use Rattle.union.proofs.+mark_way.Goals as goal

pub returns-then-u-lt-POINTS : goal.returns-then-u-lt-POINTS
returns-then-u-lt-POINTS t c = c.mark_way.ensures ∙ mark-go _ _ _ c.requires.0 _ _ c.requires.1 c.if-u-lt-POINTS.true

pub returns-else-u-lt-POINTS : goal.returns-else-u-lt-POINTS
returns-else-u-lt-POINTS t c = mark-stop _ _ _ _ c.if-u-lt-POINTS.false
