use Rattle.std.proofs.Common.{ap₂, ◌∙◌, arith}
use Rattle.std.proofs.lemmas.Bool.{leb-true}
use Rattle.plane.specs.Cost.{cost}
use Rattle.bounds.proofs.is_joined.Goals as goal

pub returns : goal.returns
returns c t told e =
    let d = c.cost-d.ensures.0 ∙ ap₂ (cost c.args.w) c.point_at.ensures c.point_at-2.ensures in
    omega (arith, leb-true c.between.result c.cost-d.result e, c.between.ensures t told, d)
