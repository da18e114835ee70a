use Rattle.union.proofs.MarkLaws.{mark-both}
use Rattle.union.proofs.mark_path.Goals as goal

pub returns : goal.returns
returns c = mark-both _ _ _ _ _ _ c.mark_way.ensures c.mark_way-2.ensures
