-- Marks of pins, then pruning.
use Rattle.exchanges.proofs.PruneLaws.{pruned-is}
use Rattle.exchanges.proofs.prune.prune_points.Goals as goal

pub returns : goal.returns
returns c = pruned-is _ _ _ _ _ _ _ c.mark_pins.ensures c.prune.ensures
