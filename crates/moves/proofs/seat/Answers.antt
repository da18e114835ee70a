use Rattle.std.proofs.Common.{ℕ, ap, ◌∙◌, set, arith}
use Rattle.plane.specs.declared.Place.{Place}
use Rattle.moves.specs.Moving.{seat_of, seats_of}
use Rattle.turned.proofs.StepLaws.{up_start, up_next, up-end}
use Rattle.moves.proofs.seat.Goals as goal

pub loop-j-init : goal.loop-j-init
loop-j-init c = up_start _ _

pub loop-j-preserved : goal.loop-j-preserved
loop-j-preserved c =
    let a = c.args in
    up_next _ _ _ _ _ c.loop-j.invariant
    (ap (λ (x : ℕ). set c.loop-j.seats c.loop-j.j x)
    (c.seat_of.ensures.0 ∙ ap (λ (p : Place). seat_of a.pts.now a.n p) c.pin_at.ensures))

pub returns : goal.returns
unfolding seats_of
returns c = up-end _ _ _ _ _ c.loop-j.invariant (omega arith) (omega arith)
