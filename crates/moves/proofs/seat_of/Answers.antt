use Rattle.std.proofs.Common.{sym, ap, ◌∙◌, arith}
use Rattle.plane.specs.declared.Place.{Place}
use Rattle.plane.specs.Place.{same_place}
use Rattle.moves.proofs.SeatLaws.{seat-past, seat-there, seat_not}
use Rattle.moves.proofs.seat_of.Goals as goal
use Rattle.moves.proofs.seat_of.Goals.{else-at-n-via-then-at-n+else-is_same_place, else-at-n-via-else-at-n}

pub returns-then-is_same_place : goal.returns-then-is_same_place
returns-then-is_same_place c =
    let a = c.args in
    let same = c.is_same_place.ensures ∙ ap (λ (q : Place). same_place a.p q) c.point_at.ensures in (
      seat-there a.pts.now a.p a.n c.requires.1 _ c.rank-at.ensures.0 c.if-at-n.true (sym same ∙ c.if-is_same_place.true),
      omega (arith, c.if-at-n.true, c.requires.0),
    )

pub returns-else-at-n : goal.returns-else-at-n
returns-else-at-n c =
    let a = c.args in (
      elim c.else-at-n.branch [
        | else-at-n-via-then-at-n+else-is_same_place w ↦
            let same = w.is_same_place.ensures ∙ ap (λ (q : Place). same_place a.p q) w.point_at.ensures in
            seat_not a.pts.now a.p a.n c.requires.1 _ c.rank-at.ensures.0 w.if-at-n.true (sym same ∙ w.if-is_same_place.false)
        | else-at-n-via-else-at-n w ↦ seat-past a.pts.now a.p a.n c.requires.1 _ c.rank-at.ensures.0 w.if-at-n.false
      ],
      omega arith,
    )
