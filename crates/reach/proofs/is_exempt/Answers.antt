use Rattle.std.proofs.Common.{ap, ap₂, ◌∙◌}
use Rattle.turned.specs.Turned.{same_spot}
use Rattle.reach.specs.Passing.{seen_by, is_far}
use Rattle.reach.proofs.CodeLaws.{exempt-same, exempt-not}
use Rattle.reach.proofs.is_exempt.Goals as goal

pub returns-then-eq : goal.returns-then-eq
unfolding same_spot
returns-then-eq c =
    let s = c.args in
    exempt-same _ _ _ _ _ _ (c.eq.ensures ∙ ap₂ same_spot c.low_corner-c.ensures c.high_corner.ensures) c.if-eq.true
    (c.is_far_end.ensures ∙ ap (is_far (seen_by s.pts.now s.keys.now s.lab.now s.bar) s.e s.bar.most) c.low_corner-c.ensures)

pub returns-else-eq : goal.returns-else-eq
unfolding same_spot
returns-else-eq c =
    c.if-eq.false
    ∙ exempt-not _ _ _ _ _ (c.eq.ensures ∙ ap₂ same_spot c.low_corner-c.ensures c.high_corner.ensures) c.if-eq.false
