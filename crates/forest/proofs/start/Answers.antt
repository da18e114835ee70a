use Rattle.std.proofs.Common.{◌<◌, arith, length-take}
use Rattle.std.proofs.lemmas.List.{get_or-take}
use Rattle.forest.proofs.LabelLaws.{start-more, start-end}
use Rattle.forest.proofs.start.Goals as goal

pub loop-s-preserved : goal.loop-s-preserved
loop-s-preserved c =
    let h : c.loop-s.s-index < c.args.m = omega (arith, length-take c.args.m c.args.sources.now) in
    simp get_or-take (start-more _ _ _ _ _ _ c.loop-s.invariant h)

pub returns : goal.returns
returns c = start-end _ _ _ _ _ c.loop-s.invariant (omega (arith, length-take c.args.m c.args.sources.now))
