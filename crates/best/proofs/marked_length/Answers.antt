use Rattle.std.proofs.Common.{inr, ap₂, ◌∙◌}
use Rattle.plane.specs.Distance.{distance}
use Rattle.plane.proofs.CostLaws.{cost-plain}
use Rattle.best.proofs.marked_length.Goals as goal

pub returns-in-Some : goal.returns-in-Some
returns-in-Some c =
    let ends = c.in-Some.ensures in
    (inr (ends.0, c.cost.ensures.0 ∙ cost-plain c.in-Some.p c.in-Some.q ∙ ap₂ distance ends.1.0 ends.1.1), c.cost.ensures.1)
