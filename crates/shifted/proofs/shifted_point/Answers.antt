use Rattle.std.proofs.Common.{ap, ◌∙◌}
use borrow.Author.Tests.{eq-eqb, ne_eqb}
use Rattle.slide.specs.Side.{moved}
use Rattle.shifted.specs.Shift.{placed}
use Rattle.shifted.proofs.shifted_point.Goals as goal

pub moved-requires : goal.moved-requires
moved-requires c = rw c.point_at-p.ensures (c.requires.1.fits (eq-eqb _ _ c.if-lab-i.true))

pub returns-then-lab-i : goal.returns-then-lab-i
unfolding placed
returns-then-lab-i c =
    rw (placed, eq-eqb _ _ c.if-lab-i.true)
    (c.moved.ensures ∙ ap (moved c.args.m.side c.args.m.distance) c.point_at-p.ensures)

pub returns-else-lab-i : goal.returns-else-lab-i
unfolding placed
returns-else-lab-i c = rw (placed, ne_eqb _ _ c.if-lab-i.false) c.point_at-p.ensures
