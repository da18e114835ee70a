use Rattle.std.proofs.Common.{◌∙◌}
use Rattle.laid.proofs.EdgeLaws.{lengths-plain}
use Rattle.laid.proofs.metal.Goals as goal

pub returns : goal.returns
returns c = (c.total.ensures.0 ∙ lengths-plain _, c.total.ensures.1)
