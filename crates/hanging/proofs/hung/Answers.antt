use Rattle.hanging.proofs.CodeLaws.{hung-ahead, hung-not}
use Rattle.hanging.proofs.hung.Goals as goal

pub returns-then-is_ahead : goal.returns-then-is_ahead
returns-then-is_ahead c =
    hung-ahead _ _ _ _ _ _ c.is_ahead-is_ahead.ensures c.is_behind.ensures c.from.ensures c.from-2.ensures c.if-is_ahead.true _ _
    c.long.ensures c.shortest.ensures

pub returns-else-is_ahead : goal.returns-else-is_ahead
returns-else-is_ahead c =
    hung-not _ _ _ _ _ _ c.is_ahead-is_ahead.ensures c.is_behind.ensures c.from.ensures c.from-2.ensures c.if-is_ahead.false
