use Rattle.std.proofs.Common.{◌∙◌}
use Rattle.refined.proofs.MetalLaws.{total-plain}
use Rattle.refined.proofs.metal.Goals as goal

pub returns : goal.returns
returns c = c.total.ensures ∙ total-plain _ _ _
